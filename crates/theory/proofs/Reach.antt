-- The rounds find what is reached, and nothing else.
use Rattle.std.proofs.Common.{◌≡◌, ℕ, zero, suc, ◌+◌, ◌<◌, ◌≤◌, Bool, true, false, cond, not, ◌&&◌, ◌⊎◌, sym, refl, ap, ◌∙◌, inl, inr, le_refl, arith}
use Rattle.std.proofs.lemmas.Bool.{cases_eq, cases_Bool, both_ways, eqb-true, eq-eqb, or_cases, or_left, or_right, and_parts, and_from, not-true, not_from_false, false≢true}
use Rattle.theory.specs.Model.{Layout, sum_to, weight, upd}
use Rattle.layouts.specs.declared.values.Value.{Value}
use Rattle.layouts.specs.declared.values.Value.TheVariants.{Nil, Number, Reference}
use Rattle.theory.specs.Collect.{Flip, size, Reached, Reached.root, Reached.step, FlipOk}
use Rattle.theory.specs.Reach.{any, closed_refers_to, within, reaches, closed_reached_words}
use Rattle.theory.proofs.Basics.{upd_other, weight_add, sum_mono, weight_mono, sum_same}
use Rattle.theory.proofs.Scan.{reached_here}

pub any_from : (n : ℕ) (f : ℕ → Bool) (k : ℕ) → k < n → f k ≡ true → any n f ≡ true
any_from zero f k l e = absurd (omega arith)
any_from (suc n) f k l e = elim (cases_eq k n) [
  | inl t ↦ or_right (any n f) (f n) (ap f (sym t) ∙ e)
  | inr ne ↦ or_left (any n f) (f n) (any_from n f k (omega arith) e)
]

pub any_some : (n : ℕ) (f : ℕ → Bool) → any n f ≡ true → (k : ℕ) × (k < n) × (f k ≡ true)
any_some zero f e = absurd (false≢true e)
any_some (suc n) f e = elim (or_cases (any n f) (f n) e) [
  | inl t ↦ (let o = any_some n f t in (o.0, omega (arith, o.1), o.2))
  | inr t ↦ (n, le_refl _, t)
]

pub refers_is : (p : ℕ) (v : Value) → closed_refers_to p v ≡ true → v ≡ Reference p
refers_is p Nil e = absurd (false≢true e)
refers_is p (Number n) e = absurd (false≢true e)
refers_is p (Reference q) e = ap Reference (eqb-true q p e)

pub refers_to : (p : ℕ) (v : Value) → v ≡ Reference p → closed_refers_to p v ≡ true
refers_to p v e = rw (e, eq-eqb p p refl)

pub sum_ones : (b : ℕ → Bool) (n : ℕ) → sum_to n (weight (λ p. 1) b) ≤ n
sum_ones b zero = le_refl _
sum_ones b (suc n) = elim (cases_Bool (b n)) [
  | inl t ↦ rw t (omega (arith, sum_ones b n))
  | inr t ↦ rw t (omega (arith, sum_ones b n))
]

module _ (L : Layout) (F : Flip) (ok : FlipOk L F) where
  abbrev n : ℕ
  n = F.old.many

  sound : (r p : ℕ) → within L F.old F.regs F.reg r p ≡ true → Reached L F p
  unfolding within
  sound zero p e =
      let o = any_some F.regs (λ k. closed_refers_to p (F.reg k)) e in
      root o.0 o.1 (refers_is p (F.reg o.0) o.2)
  sound (suc r) p e = elim (or_cases (within L F.old F.regs F.reg r p) (any n (λ q. within L F.old F.regs F.reg r q && any (L.slots (F.old.hdr q)) (λ i. closed_refers_to p (F.old.val q i)))) e) [
    | inl t ↦ sound r p t
    | inr t ↦ (
        let o = any_some n (λ q. within L F.old F.regs F.reg r q && any (L.slots (F.old.hdr q)) (λ i. closed_refers_to p (F.old.val q i))) t in
        let b = and_parts (within L F.old F.regs F.reg r o.0) (any (L.slots (F.old.hdr o.0)) (λ i. closed_refers_to p (F.old.val o.0 i))) o.2 in
        let u = any_some (L.slots (F.old.hdr o.0)) (λ i. closed_refers_to p (F.old.val o.0 i)) b.1 in
        step u.0 p (sound r o.0 b.0) u.1 (refers_is p (F.old.val o.0 u.0) u.2))
  ]

  more : (r p : ℕ) → within L F.old F.regs F.reg r p ≡ true → within L F.old F.regs F.reg (suc r) p ≡ true
  unfolding within
  more r p e = or_left (within L F.old F.regs F.reg r p) (any n (λ q. within L F.old F.regs F.reg r q && any (L.slots (F.old.hdr q)) (λ i. closed_refers_to p (F.old.val q i)))) e

  onward : (r q i p : ℕ) → q < n → i < L.slots (F.old.hdr q) → F.old.val q i ≡ Reference p → within L F.old F.regs F.reg r q ≡ true → within L F.old F.regs F.reg (suc r) p ≡ true
  unfolding within
  onward r q i p l b v e =
      or_right (within L F.old F.regs F.reg r p) (any n (λ q. within L F.old F.regs F.reg r q && any (L.slots (F.old.hdr q)) (λ i. closed_refers_to p (F.old.val q i))))
      (any_from n (λ q. within L F.old F.regs F.reg r q && any (L.slots (F.old.hdr q)) (λ i. closed_refers_to p (F.old.val q i))) q l
      (and_from (within L F.old F.regs F.reg r q) (any (L.slots (F.old.hdr q)) (λ i. closed_refers_to p (F.old.val q i))) e
      (any_from (L.slots (F.old.hdr q)) (λ i. closed_refers_to p (F.old.val q i)) i b (refers_to p (F.old.val q i) v))))

  back : (r p : ℕ) → within L F.old F.regs F.reg (suc r) p ≡ true → (within L F.old F.regs F.reg r p ≡ true) ⊎ ((q : ℕ) × (q < n) × (within L F.old F.regs F.reg r q ≡ true) × ((i : ℕ) × (i < L.slots (F.old.hdr q)) × (F.old.val q i ≡ Reference p)))
  unfolding within
  back r p e = elim (or_cases (within L F.old F.regs F.reg r p) (any n (λ q. within L F.old F.regs F.reg r q && any (L.slots (F.old.hdr q)) (λ i. closed_refers_to p (F.old.val q i)))) e) [
    | inl t ↦ inl t
    | inr t ↦ (
        let o = any_some n (λ q. within L F.old F.regs F.reg r q && any (L.slots (F.old.hdr q)) (λ i. closed_refers_to p (F.old.val q i))) t in
        let b = and_parts (within L F.old F.regs F.reg r o.0) (any (L.slots (F.old.hdr o.0)) (λ i. closed_refers_to p (F.old.val o.0 i))) o.2 in
        let u = any_some (L.slots (F.old.hdr o.0)) (λ i. closed_refers_to p (F.old.val o.0 i)) b.1 in
        inr (o.0, o.1, b.0, (u.0, u.1, refers_is p (F.old.val o.0 u.0) u.2)))
  ]

  -- a round that finds nothing new
  abbrev Fixed : ℕ → Type 0
  Fixed r = (p : ℕ) → p < n → within L F.old F.regs F.reg (suc r) p ≡ true → within L F.old F.regs F.reg r p ≡ true

  fixed_on : (r : ℕ) → Fixed r → Fixed (suc r)
  fixed_on r f p l e = elim (back (suc r) p e) [
    | inl t ↦ t
    | inr o ↦ onward r o.0 o.3.0 p o.1 o.3.1 o.3.2 (f o.0 o.1 o.2)
  ]

  abbrev count : ℕ → ℕ
  count r = sum_to n (weight (λ p. 1) (within L F.old F.regs F.reg r))

  rises : (r p : ℕ) → p < n → within L F.old F.regs F.reg (suc r) p ≡ true → within L F.old F.regs F.reg r p ≡ false → count r + 1 ≤ count (suc r)
  rises r p l e f =
      let a = weight_add (λ q. 1) (within L F.old F.regs F.reg r) n p l f in
      let m = sum_mono (weight (λ q. 1) (upd (within L F.old F.regs F.reg r) p true)) (weight (λ q. 1) (within L F.old F.regs F.reg (suc r))) n (λ q ql. weight_mono (λ q. 1) (upd (within L F.old F.regs F.reg r) p true) (within L F.old F.regs F.reg (suc r)) q (λ t. elim (cases_eq q p) [ inl k ↦ ap (within L F.old F.regs F.reg (suc r)) k ∙ e | inr ne ↦ more r q (sym (upd_other (within L F.old F.regs F.reg r) p q true ne) ∙ t) ])) in
      omega (arith, a, m)

  look : (r : ℕ) → Fixed r ⊎ ((p : ℕ) × (p < n) × (within L F.old F.regs F.reg (suc r) p ≡ true) × (within L F.old F.regs F.reg r p ≡ false))
  look r = elim (cases_Bool (any n (λ p. within L F.old F.regs F.reg (suc r) p && not (within L F.old F.regs F.reg r p)))) [
    | inl t ↦ (
        let o = any_some n (λ p. within L F.old F.regs F.reg (suc r) p && not (within L F.old F.regs F.reg r p)) t in
        let b = and_parts (within L F.old F.regs F.reg (suc r) o.0) (not (within L F.old F.regs F.reg r o.0)) o.2 in
        inr (o.0, o.1, b.0, not-true (within L F.old F.regs F.reg r o.0) b.1))
    | inr t ↦ inl (λ p l e. elim (cases_Bool (within L F.old F.regs F.reg r p)) [
      | inl u ↦ u
      | inr u ↦ absurd (both_ways (any n (λ p. within L F.old F.regs F.reg (suc r) p && not (within L F.old F.regs F.reg r p))) t (any_from n (λ p. within L F.old F.regs F.reg (suc r) p && not (within L F.old F.regs F.reg r p)) p l (and_from (within L F.old F.regs F.reg (suc r) p) (not (within L F.old F.regs F.reg r p)) e (not_from_false (within L F.old F.regs F.reg r p) u))))
    ])
  ]

  slow : (r : ℕ) → Fixed r ⊎ (r ≤ count r)
  slow zero = inr (omega arith)
  slow (suc r) = elim (slow r) [
    | inl f ↦ inl (fixed_on r f)
    | inr h ↦ elim (look r) [
      | inl f ↦ inl (fixed_on r f)
      | inr o ↦ inr (omega (arith, rises r o.0 o.1 o.2 o.3))
    ]
  ]

  -- as many rounds as places: a round found nothing new, or every place is found
  fixed : Fixed n
  fixed = elim (slow n) [
    | inl f ↦ f
    | inr h ↦ (λ p l e. elim (cases_Bool (within L F.old F.regs F.reg n p)) [
      | inl t ↦ t
      | inr u ↦ absurd (omega (arith, weight_add (λ q. 1) (within L F.old F.regs F.reg n) n p l u, sum_ones (upd (within L F.old F.regs F.reg n) p true) n))
    ])
  ]

  first : (r p k : ℕ) → k < F.regs → F.reg k ≡ Reference p → within L F.old F.regs F.reg r p ≡ true
  unfolding within
  first zero p k l e = any_from F.regs (λ k. closed_refers_to p (F.reg k)) k l (refers_to p (F.reg k) e)
  first (suc r) p k l e = more r p (first r p k l e)

  pub reaches_all : {p : ℕ} → Reached L F p → reaches L F.old F.regs F.reg p ≡ true
  reaches_all (root {p = p} k l e) = first n p k l e
  reaches_all (step {p = p} i q r l e) =
      let h = reached_here L F ok r in
      fixed q (ok.below q (ok.closed p i q h l e)) (onward n p i q (ok.below p h) l e (reaches_all r))

  pub reaches_only : (p : ℕ) → reaches L F.old F.regs F.reg p ≡ true → Reached L F p
  reaches_only p e = sound n p e

  -- a set of places that are exactly the reached ones has as many words
  pub reached_words : (b : ℕ → Bool) → ((p : ℕ) → p < n → (b p ≡ true → Reached L F p) × (Reached L F p → b p ≡ true)) → sum_to n (weight (size L F.old) b) ≡ closed_reached_words L F.old F.regs F.reg
  reached_words b h = sum_same (weight (size L F.old) b) (weight (size L F.old) (reaches L F.old F.regs F.reg)) n (λ p l. ap (λ t. cond t (size L F.old p) 0) (same p l))
    where
      same : (p : ℕ) → p < n → b p ≡ reaches L F.old F.regs F.reg p
      same p l = elim (cases_Bool (b p)) [
        | inl t ↦ t ∙ sym (reaches_all ((h p l).0 t))
        | inr t ↦ elim (cases_Bool (reaches L F.old F.regs F.reg p)) [
          | inl u ↦ absurd (both_ways (b p) t ((h p l).1 (reaches_only p u)))
          | inr u ↦ t ∙ sym u
        ]
      ]
