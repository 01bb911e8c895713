-- What RESTORE writes.
use Rattle.std.specs.Prelude.{◌≡◌, ℕ, zero, suc, ◌+◌, ◌*◌, ◌<◌, false, List, length, slice_index_or}
use Rattle.memory.specs.Memory.{Memory, after_set, after_protn}
use Rattle.memory.specs.declared.rights.Right.TheVariants.{None}
use Rattle.layouts.specs.declared.values.Value.{Value}
use Rattle.model.specs.Heap.{Heap as Model, half_pages, first_page, other_half}
use Rattle.model.specs.Collecting.{opened}
use Rattle.model.specs.declared.states.Half.{Half}
use Rattle.model.specs.declared.states.Phase.TheVariants.{Idle}
use Rattle.model.specs.declared.states.State.TheVariants.{Running}
use Rattle.state.specs.View.{held_value}
use Rattle.state.specs.declared.mutators.Held.{Held}
use Rattle.state.specs.declared.mutators.Held.TheVariants.{Nil}
use Rattle.restoring.specs.Outlines.{register_in}
use Rattle.restoring.specs.declared.outlines.Outline.{Outline}

-- the first n words are f's
abbrev pub written : ℕ → Memory → (ℕ → ℕ) → Memory
written zero m f = m
written (suc n) m f = after_set (written n m f) n (f n)

-- a half at all, the other at none
abbrev pub turned : Memory → Half → Memory
turned m s = after_protn (opened (half_pages m) m (first_page m s)) (first_page m (other_half s)) (half_pages m) None

-- eight registers, from number 8 m on
abbrev pub Registers : (ℕ → Value) → ℕ → List Held → Type 0
Registers f m rs = (length rs ≡ 8) × ((r : ℕ) → r < 8 → held_value (slice_index_or rs r Nil) ≡ f (m * 8 + r))

-- all but the memory
abbrev pub plain_in : Memory → Half → Outline → (ℕ → ℕ) → Model
plain_in x s o b = record {
  memory = x;
  space = record { copy_end = o.copy_end; crossing = λ p. 0 };
  half = s;
  new_start = o.new_start;
  unscanned = λ p. 0;
  flip_used = 0;
  unsaved = λ p. false;
  mark_start = 0;
  register = register_in b;
  state = λ m. Running;
  phase = Idle;
  traps = 0;
}
