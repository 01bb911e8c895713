-- Objects that cover a stretch of words without overlapping are whole objects in a row, as the check of RESTORE reads them.
use Rattle.std.proofs.Common.{◌≡◌, ℕ, zero, suc, ◌+◌, ◌<◌, ◌≤◌, Bool, true, ◌&&◌, ◌||◌, eqb, ltb, leb, ◌≢◌, ◌⊎◌, sym, refl, ap, ◌∙◌, inl, inr, arith}
use Rattle.std.proofs.lemmas.Bool.{cases_eq, cases_lt, eq-eqb, ne_eqb, lt-ltb, le-ltb, le-leb, and_from, or_left, or_right, cond-true, cond-false}
use Rattle.theory.specs.Model.{Layout}
use Rattle.layouts.specs.declared.values.Value.{Value}
use Rattle.theory.specs.Collect.{Clear}
use Rattle.theory.specs.Restore.{row, closed_header_in, slots_in}
use Rattle.theory.proofs.Again.{every_from}

-- the objects In, object p of header hdr p at to p, make up the words from start to e
pub record Row (L : Layout) (mem : ℕ → ℕ) (hdr to : ℕ → ℕ) (In : ℕ → Type 0) (start e : ℕ) : Type 0 where
  pub valid : (p : ℕ) → In p → L.head (hdr p) ≡ true
  pub head : (p : ℕ) → In p → mem (to p) ≡ hdr p
  pub within : (p : ℕ) → In p → (start ≤ to p) × (to p + suc (L.slots (hdr p)) ≤ e)
  pub apart : (p q : ℕ) → In p → In q → p ≢ q → Clear (to p) (suc (L.slots (hdr p))) (to q) (suc (L.slots (hdr q)))
  pub cover : (a : ℕ) → start ≤ a → a < e → (p : ℕ) × In p × (to p ≤ a) × (a < to p + suc (L.slots (hdr p)))

module _ (L : Layout) (mem : ℕ → ℕ) (hdr to : ℕ → ℕ) (In : ℕ → Type 0) (start e : ℕ) (r : Row L mem hdr to In start e) where
  -- no object reaches over a
  abbrev Edge : ℕ → Type 0
  Edge a = (q : ℕ) → In q → (to q + suc (L.slots (hdr q)) ≤ a) ⊎ (a ≤ to q)

  pub first_edge : Edge start
  first_edge q i = inr (r.within q i).0

  -- the object that begins at an edge, and the next edge
  begins : (a : ℕ) → start ≤ a → a < e → Edge a → (p : ℕ) × In p × (to p ≡ a) × (L.slots (mem a) ≡ L.slots (hdr p)) × Edge (a + suc (L.slots (mem a)))
  begins a l b ed =
      let c = r.cover a l b in
      let t : to c.0 ≡ a = elim (ed c.0 c.1) [ inl x ↦ absurd (omega (arith, c.3)) | inr x ↦ omega (arith, c.2) ] in
      let h : mem a ≡ hdr c.0 = ap mem (sym t) ∙ r.head c.0 c.1 in
      let z : L.slots (mem a) ≡ L.slots (hdr c.0) = ap L.slots h in (
        c.0,
        c.1,
        t,
        z,
        λ q i. elim (cases_eq c.0 q) [
          | inl d ↦ inl (let u : to c.0 ≡ to q = ap to d in let v : L.slots (hdr c.0) ≡ L.slots (hdr q) = ap (λ x. L.slots (hdr x)) d in omega arith)
          | inr ne ↦ elim (r.apart c.0 q c.1 i ne) [ inl x ↦ inr (omega arith) | inr x ↦ inl (omega arith) ]
        ],
      )

  pub row_holds : (k a : ℕ) → start ≤ a → a ≤ e → Edge a → e ≤ a + k → row L mem k a e ≡ true
  row_holds zero a l b ed f = eq-eqb a e (omega arith)
  row_holds (suc k) a l b ed f = go (cases_eq a e) (row_holds k)
    where
      go : (a ≡ e) ⊎ (a ≡ e → ⊥) → ((a : ℕ) → start ≤ a → a ≤ e → Edge a → e ≤ a + k → row L mem k a e ≡ true) → row L mem (suc k) a e ≡ true
      go (inl q) ih = rw (eq-eqb a e q)
      go (inr ne) ih =
          let o = begins a l (omega arith) ed in
          let w = r.within o.0 o.1 in
          let n : a + suc (L.slots (mem a)) ≤ e = omega (arith, o.2, o.3) in
          cond-false (eqb a e) _ _ (ne_eqb a e ne) ∙ and_from (L.head (mem a)) (leb (a + suc (L.slots (mem a))) e && row L mem k (a + suc (L.slots (mem a))) e)
          (ap L.head (ap mem (sym o.2) ∙ r.head o.0 o.1) ∙ r.valid o.0 o.1)
          (and_from (leb (a + suc (L.slots (mem a))) e) (row L mem k (a + suc (L.slots (mem a))) e) (le-leb _ _ n) (ih (a + suc (L.slots (mem a))) (omega arith) n o.4 (omega arith)))

  pub header_holds : (q : ℕ) → In q → (k a : ℕ) → start ≤ a → Edge a → a ≤ to q → e ≤ a + k → closed_header_in L mem k a e (to q) ≡ true
  header_holds q i zero a l ed f g = absurd (omega (arith, r.within q i))
  header_holds q i (suc k) a l ed f g = go (header_holds q i k)
    where
      go : ((a : ℕ) → start ≤ a → Edge a → a ≤ to q → e ≤ a + k → closed_header_in L mem k a e (to q) ≡ true) → closed_header_in L mem (suc k) a e (to q) ≡ true
      go ih =
          let w = r.within q i in
          let o = begins a l (omega arith) ed in
          and_from (ltb a e) (eqb (to q) a || closed_header_in L mem k (a + suc (L.slots (mem a))) e (to q)) (lt-ltb a e (omega arith)) (elim (cases_eq (to q) a) [
            | inl z ↦ or_left (eqb (to q) a) (closed_header_in L mem k (a + suc (L.slots (mem a))) e (to q)) (eq-eqb (to q) a z)
            | inr ne ↦ or_right (eqb (to q) a) (closed_header_in L mem k (a + suc (L.slots (mem a))) e (to q)) (ih (a + suc (L.slots (mem a))) (omega arith) o.4 (elim (o.4 q i) [ inl x ↦ absurd (elim (ed q i) [ inl y ↦ omega arith | inr y ↦ below q i o ne x y ]) | inr x ↦ x ]) (omega arith))
          ])
        where
          below : (q : ℕ) → In q → (o : (p : ℕ) × In p × (to p ≡ a) × (L.slots (mem a) ≡ L.slots (hdr p)) × Edge (a + suc (L.slots (mem a)))) → (to q ≡ a → ⊥) → to q + suc (L.slots (hdr q)) ≤ a + suc (L.slots (mem a)) → a ≤ to q → ⊥
          below q i o ne x y = elim (cases_eq o.0 q) [
            | inl d ↦ ne (ap to (sym d) ∙ o.2)
            | inr nd ↦ elim (r.apart o.0 q o.1 i nd) [ inl z ↦ omega (arith, o.2, o.3) | inr z ↦ omega (arith, o.2, o.3) ]
          ]

  pub slots_hold : (ok : Value → Bool) → ((p i : ℕ) → In p → i < L.slots (hdr p) → ok (L.unpack (hdr p) i (mem (to p + suc i))) ≡ true) → (k a : ℕ) → start ≤ a → Edge a → slots_in L mem ok k a e ≡ true
  slots_hold ok h zero a l ed = refl
  slots_hold ok h (suc k) a l ed = go (cases_lt a e) (slots_hold ok h k)
    where
      go : (a < e) ⊎ (e ≤ a) → ((a : ℕ) → start ≤ a → Edge a → slots_in L mem ok k a e ≡ true) → slots_in L mem ok (suc k) a e ≡ true
      go (inr b) ih = cond-false (ltb a e) _ _ (le-ltb a e b)
      go (inl b) ih =
          let o = begins a l b ed in
          let hh : mem a ≡ hdr o.0 = ap mem (sym o.2) ∙ r.head o.0 o.1 in
          cond-true (ltb a e) _ _ (lt-ltb a e b) ∙ and_from _ _
          (every_from (L.slots (mem a)) (λ i. ok (L.unpack (mem a) i (mem (a + suc i)))) (λ i m. rw hh (rw o.2 at (h o.0 i o.1 (omega (arith, o.3))))))
          (ih (a + suc (L.slots (mem a))) (omega arith) o.4)
