-- What is asked of a row of objects is asked of each header in it.
use Rattle.std.proofs.Common.{◌≡◌, ℕ, zero, suc, ◌+◌, ◌≤◌, Bool, true, false, cond, ◌&&◌, ◌||◌, eqb, leb, ltb, List, [], ◌∷◌, refl, ap, ◌∙◌, inl, inr, arith}
use Rattle.std.proofs.lemmas.Bool.{cases_lt, eq-eqb, ne_eqb, lt-ltb, le-ltb, leb-true, and_parts}
use Rattle.std.specs.List.{list_any, list_all}
use Rattle.layouts.specs.Layouts.{Rules}
use Rattle.layouts.specs.declared.values.Value.{Value}
use Rattle.model.specs.Objects.{is_header, object_words}
use Rattle.model.specs.Restoring.{is_row, heads_row, slots_pass}
use Rattle.restoring.specs.Rows.{headers, ends_by, object_passes}

any_first : (b : Bool) (f : ℕ → Bool) (a : ℕ) (xs : List ℕ) → (b && (f a || list_any f xs)) ≡ list_any f (cond b (a ∷ xs) [])
any_first true f a xs = refl
any_first false f a xs = refl

all_first : (b : Bool) (f : ℕ → Bool) (a : ℕ) (xs : List ℕ) → cond b (f a && list_all f xs) true ≡ list_all f (cond b (a ∷ xs) [])
all_first true f a xs = refl
all_first false f a xs = refl

-- the second test only counts where the first passes
and_if : (b r s : Bool) → (b ≡ true → r ≡ s) → (b && r) ≡ (b && s)
and_if true r s h = h refl
and_if false r s h = refl

module _ (L : Rules) (word : ℕ → ℕ) where
  pub heads_listed : (n a stop x : ℕ) → heads_row L word n a stop x ≡ list_any (eqb x) (headers L word n a stop)
  heads_listed zero a stop x = refl
  heads_listed (suc n) a stop x =
      let on = a + object_words L (word a) in
      ap (λ r. ltb a stop && (eqb x a || r)) (heads_listed n on stop x) ∙ any_first (ltb a stop) (eqb x) a (headers L word n on stop)

  module _ (ok : Value → Bool) where
    pub slots_listed : (n a stop : ℕ) → slots_pass L word ok n a stop ≡ list_all (object_passes L word ok) (headers L word n a stop)
    slots_listed zero a stop = refl
    slots_listed (suc n) a stop =
        let on = a + object_words L (word a) in
        ap (λ r. cond (ltb a stop) (object_passes L word ok a && r) true) (slots_listed n on stop) ∙ all_first (ltb a stop) (object_passes L word ok) a (headers L word n on stop)

  pub row_listed : (n a stop : ℕ) → a ≤ stop → stop ≤ a + n → is_row L word n a stop ≡ list_all (ends_by L word stop) (headers L word n a stop)
  row_listed zero a stop h k = eq-eqb a stop (omega arith)
  row_listed (suc n) a stop h k =
      let on = a + object_words L (word a) in
      elim (cases_lt a stop) [
        | inl p ↦
            let q = lt-ltb a stop p in
            let ne = ne_eqb a stop (λ e. absurd (omega arith)) in
            rw (q, ne) (and_if (ends_by L word stop a) (is_row L word n on stop) (list_all (ends_by L word stop) (headers L word n on stop)) (λ e. row_listed n on stop (leb-true on stop (and_parts (is_header L (word a)) (leb on stop) e).1) (omega arith)))
        | inr p ↦
            let q = le-ltb a stop p in
            let e = eq-eqb a stop (omega arith) in
            rw (q, e) refl
      ]
