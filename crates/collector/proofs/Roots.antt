-- The pass over the registers, mutator by mutator: what it makes of the table of mutators is what it makes of the registers
-- one after the other.
use Rattle.std.proofs.Common.{◌≡◌, ℕ, zero, suc, ◌+◌, ◌*◌, ◌/◌, ◌%◌, ◌<◌, ◌≤◌, cond, eqb, ◌≢◌, List, length, get_or, set, sym, refl, ap, ◌∙◌, inl, inr, add-one, arith}
use Rattle.std.proofs.lemmas.List.{get_or-set_same, get_or-set_other}
use Rattle.std.proofs.lemmas.Bool.{cases_eq, eq-eqb, ne_eqb, cond-true, cond-false}
use Rattle.memory.specs.Memory.{changed}
use Rattle.layouts.specs.Layouts.{Rules}
use Rattle.layouts.specs.declared.values.Value.{Value}
use Rattle.model.specs.Heap.{Moving}
use Rattle.model.specs.Forwarding.{Roots, value_forwarded, new_value, root_forwarded, roots_forwarded}
use Rattle.state.specs.View.{held_value, no_such, register_view, state_view}
use Rattle.state.specs.declared.mutators.Held.{Held}
use Rattle.state.specs.declared.mutators.Held.TheVariants.{Nil}
use Rattle.state.specs.declared.mutators.Mutator.{Mutator}

-- the registers of one mutator
abbrev pub row_view : List Held → ℕ → Value
row_view rs r = held_value (get_or rs r Nil)

abbrev pub roots : Moving → (ℕ → Value) → Roots
roots s f = record { moving = s; register = f }

pub pass_none : (L : Rules) (x : Roots) → x ≡ roots_forwarded L x 0
unfolding roots_forwarded
pass_none L x = refl

pass_more : (L : Rules) (x : Roots) (n : ℕ) → roots_forwarded L x (suc n) ≡ root_forwarded L (roots_forwarded L x n) n
unfolding roots_forwarded
pass_more L x n = refl

-- One register of a mutator

row_set : (rs : List Held) (r : ℕ) (v : Held) → r < length rs → (k : ℕ) → row_view (set rs r v) k ≡ changed (row_view rs) r (held_value v) k
row_set rs r v long k =
    elim (cases_eq k r) [
      | inl e ↦ rw e (ap held_value (get_or-set_same rs r v Nil long) ∙ sym (cond-true _ _ _ (eq-eqb r r refl)))
      | inr n ↦ ap held_value (get_or-set_other rs r k v Nil n) ∙ sym (cond-false _ _ _ (ne_eqb r k (λ e. n (sym e))))
    ]

-- a turn of the loop over the registers of a mutator
pub row_more : (L : Rules) (x : Roots) (s t : Moving) (rs : List Held) (r : ℕ) (v : Held) → r < length rs → t ≡ value_forwarded L s (row_view rs r) → held_value v ≡ new_value s (row_view rs r) → roots s (row_view rs) ≡ roots_forwarded L x r → roots t (row_view (set rs r v)) ≡ roots_forwarded L x (r + 1)
row_more L x s t rs r v long is_t is_v inv =
    (λ i. roots (is_t i) (λ k. (row_set rs r v long k ∙ ap (λ w. changed (row_view rs) r w k) is_v) i))
    ∙ ap (λ y. root_forwarded L y r) inv
    ∙ sym (ap (λ n. roots_forwarded L x n) (add-one r) ∙ pass_more L x r)

-- All registers of a mutator

-- mutator m has the registers of y, the others those of x
abbrev spliced : ℕ → (ℕ → Value) → (ℕ → Value) → ℕ → Value
spliced m x y k = cond (eqb (k / 8) m) (y (k % 8)) (x k)

splice_at : (m n : ℕ) (x y : ℕ → Value) → n < 8 → spliced m x y (m * 8 + n) ≡ y n
splice_at m n x y small =
    let high : (m * 8 + n) / 8 ≡ m = omega arith in
    let low : (m * 8 + n) % 8 ≡ n = omega arith in
    cond-true _ _ _ (eq-eqb _ m high) ∙ ap y low

splice_changed : (m n : ℕ) (x y : ℕ → Value) (v : Value) → n < 8 → (k : ℕ) → changed (spliced m x y) (m * 8 + n) v k ≡ spliced m x (changed y n v) k
splice_changed m n x y v small k =
    elim (cases_eq (k / 8) m) [
      | inl e ↦
          elim (cases_eq (k % 8) n) [
            | inl f ↦
                let at : m * 8 + n ≡ k = omega arith in
                cond-true _ _ _ (eq-eqb _ k at) ∙ sym (cond-true _ _ _ (eq-eqb (k / 8) m e) ∙ cond-true _ _ _ (eq-eqb n (k % 8) (sym f)))
            | inr f ↦
                let off : m * 8 + n ≢ k = λ q. f (omega arith) in
                cond-false _ _ _ (ne_eqb _ k off) ∙ cond-true _ _ _ (eq-eqb (k / 8) m e) ∙ sym (cond-true _ _ _ (eq-eqb (k / 8) m e) ∙ cond-false _ _ _ (ne_eqb n (k % 8) (λ q. f (sym q))))
          ]
      | inr f ↦
          let off : m * 8 + n ≢ k = λ q. f (omega arith) in
          cond-false _ _ _ (ne_eqb _ k off) ∙ cond-false _ _ _ (ne_eqb (k / 8) m f) ∙ sym (cond-false _ _ _ (ne_eqb (k / 8) m f))
    ]

splice_turn : (L : Rules) (m n : ℕ) (x : ℕ → Value) (y : Roots) → n < 8 → root_forwarded L (roots y.moving (spliced m x y.register)) (m * 8 + n) ≡ roots (root_forwarded L y n).moving (spliced m x (root_forwarded L y n).register)
splice_turn L m n x y small =
    let at = splice_at m n x y.register small in
    λ i. roots (value_forwarded L y.moving (at i)) (λ k. (ap (λ w. changed (spliced m x y.register) (m * 8 + n) (new_value y.moving w) k) at ∙ splice_changed m n x y.register (new_value y.moving (y.register n)) small k) i)

-- the registers from 8 m on, one after the other, and those of mutator m
splice_pass : (L : Rules) (x : Roots) (m : ℕ) (s : Moving) (f g : ℕ → Value) → roots s f ≡ roots_forwarded L x (m * 8) → ((k : ℕ) → f k ≡ spliced m f g k) → (n : ℕ) → n ≤ 8 → roots_forwarded L x (m * 8 + n) ≡ roots (roots_forwarded L (roots s g) n).moving (spliced m f (roots_forwarded L (roots s g) n).register)
splice_pass L x m s f g inv same zero few =
    let none : m * 8 + 0 ≡ m * 8 = omega arith in
    ap (λ j. roots_forwarded L x j) none ∙ (sym inv ∙ (λ i. roots s (λ k. same k i)) ∙ ap (λ y. roots y.moving (spliced m f y.register)) (pass_none L (roots s g)))
splice_pass L x m s f g inv same (suc n) few =
    let next : m * 8 + suc n ≡ suc (m * 8 + n) = omega arith in
    let ih = splice_pass L x m s f g inv same n (omega arith) in
    ap (λ j. roots_forwarded L x j) next ∙ (pass_more L x (m * 8 + n) ∙ ap (λ y. root_forwarded L y (m * 8 + n)) ih ∙ splice_turn L m n f (roots_forwarded L (roots s g) n) (omega arith) ∙ ap (λ y. roots y.moving (spliced m f y.register)) (sym (pass_more L (roots s g) n)))

-- The table of mutators

abbrev pub with_registers : List Mutator → ℕ → List Held → List Mutator
with_registers ms m rs = set ms m (record { registers = rs; state = (get_or ms m no_such).state })

module _ (ms : List Mutator) (m : ℕ) (few : m < length ms) where
  same_row : (k : ℕ) → register_view ms k ≡ spliced m (register_view ms) (row_view (get_or ms m no_such).registers) k
  same_row k =
      elim (cases_eq (k / 8) m) [
        | inl e ↦ ap (λ q. row_view (get_or ms q no_such).registers (k % 8)) e ∙ sym (cond-true _ _ _ (eq-eqb (k / 8) m e))
        | inr n ↦ sym (cond-false _ _ _ (ne_eqb (k / 8) m n))
      ]

  other_row : (rs : List Held) (k : ℕ) → register_view (with_registers ms m rs) k ≡ spliced m (register_view ms) (row_view rs) k
  other_row rs k =
      elim (cases_eq (k / 8) m) [
        | inl e ↦ ap (λ q. row_view (get_or (with_registers ms m rs) q no_such).registers (k % 8)) e ∙ ap (λ x. row_view x.registers (k % 8)) (get_or-set_same ms m _ no_such few) ∙ sym (cond-true _ _ _ (eq-eqb (k / 8) m e))
        | inr n ↦ ap (λ x. row_view x.registers (k % 8)) (get_or-set_other ms m (k / 8) _ no_such n) ∙ sym (cond-false _ _ _ (ne_eqb (k / 8) m n))
      ]

  pub states_kept : (rs : List Held) (q : ℕ) → state_view (with_registers ms m rs) q ≡ state_view ms q
  states_kept rs q =
      elim (cases_eq q m) [
        | inl e ↦ ap (λ p. state_view (with_registers ms m rs) p) e ∙ ap (λ x. x.state) (get_or-set_same ms m _ no_such few) ∙ ap (λ p. state_view ms p) (sym e)
        | inr n ↦ ap (λ x. x.state) (get_or-set_other ms m q _ no_such n)
      ]

  -- a turn of the loop over the mutators
  pub mutator_more : (L : Rules) (x : Roots) (s t : Moving) (rs : List Held) (n : ℕ) → n ≡ 8 → roots s (register_view ms) ≡ roots_forwarded L x (m * 8) → roots t (row_view rs) ≡ roots_forwarded L (roots s (row_view (get_or ms m no_such).registers)) n → roots t (register_view (with_registers ms m rs)) ≡ roots_forwarded L x ((m + 1) * 8)
  mutator_more L x s t rs n eight inv pass =
      let f : ℕ → Value = register_view ms in
      let g : ℕ → Value = row_view (get_or ms m no_such).registers in
      let next : (m + 1) * 8 ≡ m * 8 + 8 = omega arith in
      (λ i. roots t (λ k. other_row rs k i))
      ∙ ap (λ y. roots y.moving (spliced m f y.register)) pass
      ∙ ap (λ j. roots (roots_forwarded L (roots s g) j).moving (spliced m f (roots_forwarded L (roots s g) j).register)) eight
      ∙ sym (splice_pass L x m s f g inv same_row 8 (omega arith))
      ∙ ap (λ j. roots_forwarded L x j) (sym next)
