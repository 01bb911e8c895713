-- How an event moves a mutator of a heap.
use Rattle.std.specs.Prelude.{ℕ, cond, Some, None, Option, nat_lt}
use Rattle.model.specs.Heap.{Heap as Model, with_state}
use Rattle.model.specs.declared.states.State.{State}
use Rattle.state.specs.Moves.{next}
use Rattle.state.specs.declared.mutators.Event.{Event}

-- the state that the event moves mutator m to, if it fits; no mutator is above 3
abbrev pub moves : Model → ℕ → Event → Option State
moves h m e = cond (nat_lt 3 m) None (next (h.state m) e)

abbrev pub to_state : Model → ℕ → Option State → Model
to_state h m None = h
to_state h m (Some s) = with_state h m s

abbrev pub advanced : Model → ℕ → Event → Model
advanced h m e = to_state h m (moves h m e)
