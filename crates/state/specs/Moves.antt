-- What changes a mutator.
use Rattle.std.specs.Prelude.{ℕ, cond, Some, None, Option, ◌==◌, nat_lt, slice_set}
use Rattle.model.specs.declared.states.State.{State}
use Rattle.model.specs.declared.states.State.TheVariants.{Running, Waiting, InHand}
use Rattle.state.specs.declared.mutators.Event.{Event}
use Rattle.state.specs.declared.mutators.Event.TheVariants.{Trap, Take, Resolve, GoBack}
use Rattle.state.specs.declared.mutators.Held.{Held}
use Rattle.state.specs.declared.mutators.Mutator.{Mutator}

-- the fault of a waiting mutator is handed out
abbrev pub handed : State → Option State
handed Running = None
handed (Waiting q) = Some (InHand q)
handed (InHand q) = None

-- a mutator in hand with page p comes to state s
abbrev pub from_hand : State → ℕ → State → Option State
from_hand Running p s = None
from_hand (Waiting q) p s = None
from_hand (InHand q) p s = cond (q == p) (Some s) None

-- where an event moves a mutator: running, waiting, in hand and back
abbrev pub next : State → Event → Option State
next s (Trap p) = Some (Waiting p)
next s Take = handed s
next s (Resolve p) = from_hand s p Running
next s (GoBack p) = from_hand s p (Waiting p)

-- register r holds v; there is no register above 7
abbrev pub with_held : Mutator → ℕ → Held → Mutator
with_held m r v = cond (nat_lt r 8) (record { registers = slice_set m.registers r v; state = m.state }) m

abbrev pub with_state : Mutator → State → Mutator
with_state m s = record { registers = m.registers; state = s }
