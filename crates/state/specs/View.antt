-- The heap's state as the definitions of the model have it.
use Rattle.std.specs.Prelude.{ℕ, ◌/◌, ◌%◌, Bool, false, List, [], get_or, slice_index, slice_index_or}
use Rattle.memory.specs.Memory.{Memory}
use Rattle.layouts.specs.declared.values.Value.{Value}
use Rattle.model.specs.Heap.{Heap as Model, Space as Copies, Moving}
use Rattle.model.specs.Forwarding.{Roots}
use Rattle.model.specs.declared.states.Half.{Half}
use Rattle.model.specs.declared.states.Phase.TheVariants.{Idle}
use Rattle.model.specs.declared.states.State.{State}
use Rattle.model.specs.declared.states.State.TheVariants.{Running}
use Rattle.state.specs.declared.mutators.Held.{Held}
use Rattle.state.specs.declared.mutators.Held.TheVariants.{Nil, Number, Reference}
use Rattle.state.specs.declared.mutators.Mutator.{Mutator}
use Rattle.state.specs.declared.plain_state.Plain.{Plain}
use Rattle.state.specs.declared.plain_state.Space.{Space}

-- Registers and states

abbrev pub held_value : Held → Value
held_value Nil = Value.Nil
held_value (Number n) = Value.Number n
held_value (Reference a) = Value.Reference a.0

-- a mutator that is none of the four
abbrev pub no_such : Mutator
no_such = record { registers = []; state = Running }

-- register number k = 8 m + r is register r of mutator m
abbrev pub held_by : List Mutator → ℕ → Held
held_by ms k = slice_index_or (get_or ms (k / 8) no_such).registers (k % 8) Nil

abbrev pub register_view : List Mutator → ℕ → Value
register_view ms k = held_value (held_by ms k)

abbrev pub state_view : List Mutator → ℕ → State
state_view ms m = (get_or ms m no_such).state

-- Where copied objects go

abbrev pub space_view : Space → Copies
space_view s = record { copy_end = s.copy_end; crossing = λ q. slice_index s.crossing q }

-- What forwarding changes

abbrev pub moving_of : Memory → Space → Moving
moving_of m s = record { memory = m; space = space_view s }

abbrev pub roots_view : Memory → Space → List Mutator → Roots
roots_view m s ms = record { moving = moving_of m s; register = register_view ms }

-- All of it

-- a page that the image in progress has yet to save
abbrev pub unsaved_view : List Bool → ℕ → Bool
unsaved_view xs q = slice_index_or xs q false

-- the first unscanned word of a page
abbrev pub unscanned_view : List ℕ → ℕ → ℕ
unscanned_view xs q = slice_index xs q

-- with nothing in progress, no trap, and no page's crossing or unscanned word
abbrev pub idle_of : Memory → List Mutator → Half → ℕ → ℕ → Model
idle_of m ms s e n = record {
  memory = m;
  space = record { copy_end = e; crossing = λ q. 0 };
  half = s;
  new_start = n;
  unscanned = λ q. 0;
  flip_used = 0;
  unsaved = λ q. false;
  mark_start = 0;
  register = register_view ms;
  state = state_view ms;
  phase = Idle;
  traps = 0;
}

abbrev pub state_of : Memory → Plain → Model
state_of m p = record {
  memory = m;
  space = space_view p.space;
  half = p.half;
  new_start = p.new_start;
  unscanned = λ q. slice_index p.unscanned q;
  flip_used = p.flip_used;
  unsaved = unsaved_view p.unsaved;
  mark_start = p.mark_start;
  register = register_view p.mutators;
  state = state_view p.mutators;
  phase = p.phase;
  traps = p.traps;
}
