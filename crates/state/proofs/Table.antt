-- What the table of mutators is seen to hold once one of them is changed.
use Rattle.std.proofs.Common.{◌≡◌, ℕ, ◌+◌, ◌*◌, ◌/◌, ◌%◌, ◌<◌, cond, ◌≢◌, List, length, get_or, set, sym, ap, ◌∙◌, inl, inr, arith}
use Rattle.std.proofs.lemmas.Bool.{cases_eq, eq-eqb, ne_eqb}
use Rattle.std.proofs.lemmas.List.{get_or-set_same, get_or-set_other}
use Rattle.memory.specs.Memory.{Memory, changed}
use Rattle.layouts.specs.declared.values.Value.{Value}
use Rattle.model.specs.Heap.{with_registers, with_states}
use Rattle.model.specs.declared.states.State.{State}
use Rattle.state.specs.View.{held_value, held_by, no_such, register_view, state_view}
use Rattle.state.specs.View.{state_of}
use Rattle.state.specs.declared.mutators.Held.{Held}
use Rattle.state.specs.declared.mutators.Held.TheVariants.{Nil}
use Rattle.state.specs.declared.mutators.Mutator.{Mutator}
use Rattle.state.specs.declared.plain_state.Plain.{Plain}

abbrev mutator : List Mutator → ℕ → Mutator
mutator ms m = get_or ms m no_such

-- mutator m has other registers, or another state
abbrev pub with_mutator : List Mutator → ℕ → List Held → State → List Mutator
with_mutator ms m rs s = set ms m (record { registers = rs; state = s })

module _ (ms : List Mutator) (m : ℕ) (few : m < length ms) where
  here : (rs : List Held) (s : State) → mutator (with_mutator ms m rs s) m ≡ record { registers = rs; state = s }
  here rs s = get_or-set_same ms m _ no_such few

  there : (rs : List Held) (s : State) (q : ℕ) → q ≢ m → mutator (with_mutator ms m rs s) q ≡ mutator ms q
  there rs s q ne = get_or-set_other ms m q _ no_such ne

  held_here : (rs : List Held) (s : State) (k : ℕ) → k / 8 ≡ m → held_by (with_mutator ms m rs s) k ≡ get_or rs (k % 8) Nil
  held_here rs s k e = ap (λ q. get_or (mutator (with_mutator ms m rs s) q).registers (k % 8) Nil) e ∙ ap (λ x. get_or x.registers (k % 8) Nil) (here rs s)

  held_there : (rs : List Held) (s : State) (k : ℕ) → k / 8 ≢ m → held_by (with_mutator ms m rs s) k ≡ held_by ms k
  held_there rs s k ne = ap (λ x. get_or x.registers (k % 8) Nil) (there rs s (k / 8) ne)

  -- one register changed
  pub register_changed : (r : ℕ) (v : Held) (s : State) → r < length (mutator ms m).registers → r < 8 → (k : ℕ) → register_view (with_mutator ms m (set (mutator ms m).registers r v) s) k ≡ changed (register_view ms) (m * 8 + r) (held_value v) k
  register_changed r v s in_row small k =
      elim (cases_eq (k / 8) m) [
        | inl e ↦
            elim (cases_eq (k % 8) r) [
              | inl f ↦
                  let at : m * 8 + r ≡ k = omega arith in
                  ap held_value (held_here _ s k e ∙ ap (λ j. get_or (set (mutator ms m).registers r v) j Nil) f ∙ get_or-set_same (mutator ms m).registers r v Nil in_row) ∙ sym (chosen k at)
              | inr f ↦
                  let off : m * 8 + r ≢ k = λ q. f (omega arith) in
                  ap held_value (held_here _ s k e ∙ get_or-set_other (mutator ms m).registers r (k % 8) v Nil f ∙ ap (λ q. get_or (mutator ms q).registers (k % 8) Nil) (sym e)) ∙ sym (passed k off)
            ]
        | inr n ↦
            let off : m * 8 + r ≢ k = λ q. n (omega arith) in
            ap held_value (held_there _ s k n) ∙ sym (passed k off)
      ]
    where
      chosen : (k : ℕ) → m * 8 + r ≡ k → changed (register_view ms) (m * 8 + r) (held_value v) k ≡ held_value v
      chosen k e = ap (λ b. cond b (held_value v) (register_view ms k)) (eq-eqb (m * 8 + r) k e)

      passed : (k : ℕ) → m * 8 + r ≢ k → changed (register_view ms) (m * 8 + r) (held_value v) k ≡ register_view ms k
      passed k n = ap (λ b. cond b (held_value v) (register_view ms k)) (ne_eqb (m * 8 + r) k n)

  pub registers_kept : (s : State) (k : ℕ) → register_view (with_mutator ms m (mutator ms m).registers s) k ≡ register_view ms k
  registers_kept s k =
      elim (cases_eq (k / 8) m) [
        | inl e ↦ ap held_value (held_here (mutator ms m).registers s k e ∙ ap (λ q. get_or (mutator ms q).registers (k % 8) Nil) (sym e))
        | inr n ↦ ap held_value (held_there (mutator ms m).registers s k n)
      ]

  pub state_changed : (rs : List Held) (s : State) (q : ℕ) → state_view (with_mutator ms m rs s) q ≡ changed (state_view ms) m s q
  state_changed rs s q =
      elim (cases_eq q m) [
        | inl e ↦ ap (λ p. state_view (with_mutator ms m rs s) p) e ∙ ap (λ x. x.state) (here rs s) ∙ sym (ap (λ b. cond b s (state_view ms q)) (eq-eqb m q (sym e)))
        | inr n ↦ ap (λ x. x.state) (there rs s q n) ∙ sym (ap (λ b. cond b s (state_view ms q)) (ne_eqb m q (λ e. n (sym e))))
      ]

  pub states_kept : (rs : List Held) (q : ℕ) → state_view (with_mutator ms m rs (mutator ms m).state) q ≡ state_view ms q
  states_kept rs q =
      elim (cases_eq q m) [
        | inl e ↦ ap (λ p. state_view (with_mutator ms m rs (mutator ms m).state) p) e ∙ ap (λ x. x.state) (here rs (mutator ms m).state) ∙ ap (λ p. (mutator ms p).state) (sym e)
        | inr n ↦ ap (λ x. x.state) (there rs (mutator ms m).state q n)
      ]

-- another table of mutators
abbrev pub with_mutators : Plain → List Mutator → Plain
with_mutators p ms = record { mutators = ms; space = p.space; half = p.half; new_start = p.new_start; unscanned = p.unscanned; flip_used = p.flip_used; unsaved = p.unsaved; mark_start = p.mark_start; phase = p.phase; traps = p.traps }

pub mutators_seen : (x : Memory) (p : Plain) (ms : List Mutator) (f : ℕ → Value) (g : ℕ → State) → ((k : ℕ) → register_view ms k ≡ f k) → ((q : ℕ) → state_view ms q ≡ g q) → state_of x (with_mutators p ms) ≡ with_states (with_registers (state_of x p) f) g
mutators_seen x p ms f g r s = λ i. with_states (with_registers (state_of x p) (λ k. r k i)) (λ q. s q i)
