-- Registers and mutators, one after the other.
use Rattle.std.proofs.Common.{◌≡◌, ℕ, ◌+◌, ◌*◌, ◌/◌, ◌%◌, ◌<◌, ◌≤◌, List, length, get_or, sym, ap, ◌∙◌, inl, inr, arith}
use Rattle.std.proofs.lemmas.List.{get_or_past}
use Rattle.std.proofs.lemmas.Bool.{cases_lt, cond-false, le-ltb}
use Rattle.layouts.specs.declared.values.Value.{Value}
use Rattle.model.specs.declared.states.State.TheVariants.{Running}
use Rattle.state.specs.View.{held_value, no_such, register_view, state_view}
use Rattle.state.specs.declared.mutators.Held.TheVariants.{Nil}
use Rattle.state.specs.declared.mutators.Mutator.{Mutator}
use Rattle.restoring.specs.Outlines.{register_in}
use Rattle.restoring.specs.Writing.{Registers}

-- there is no register above 31
pub no_register : (b : ℕ → ℕ) (k : ℕ) → 32 ≤ k → register_in b k ≡ Value.Nil
no_register b k h = cond-false _ _ Value.Nil (le-ltb k 32 h)

-- four mutators
module _ (ms : List Mutator) (four : length ms ≡ 4) where
  -- register k is register k % 8 of mutator k / 8
  pub registers_of : (f : ℕ → Value) → ((m : ℕ) → m < 4 → Registers f m (get_or ms m no_such).registers) → ((k : ℕ) → 32 ≤ k → f k ≡ Value.Nil) → (k : ℕ) → register_view ms k ≡ f k
  registers_of f holds beyond k =
      elim (cases_lt (k / 8) 4) [
        | inl h ↦ let whole : k / 8 * 8 + k % 8 ≡ k = omega arith in (holds (k / 8) h).1 (k % 8) (omega arith) ∙ ap f whole
        | inr h ↦ ap (λ (m : Mutator). held_value (get_or m.registers (k % 8) Nil)) (get_or_past ms (k / 8) no_such (omega arith)) ∙ sym (beyond k (omega arith))
      ]

  pub states_of : ((m : ℕ) → m < 4 → (get_or ms m no_such).state ≡ Running) → (m : ℕ) → state_view ms m ≡ Running
  states_of run m =
      elim (cases_lt m 4) [
        | inl h ↦ run m h
        | inr h ↦ ap (λ (m : Mutator). m.state) (get_or_past ms m no_such (omega arith))
      ]
