-- The list of a row's headers: what the check of RESTORE says of the row, said of the list.
use Rattle.std.proofs.Common.{◌≡◌, ℕ, zero, suc, ◌+◌, ◌<◌, ◌≤◌, Bool, true, ◌&&◌, ◌||◌, eqb, ltb, leb, ◌≢◌, ◌⊎◌, List, [], ◌∷◌, length, get_or, sym, refl, ap, ◌∙◌, subst, inl, inr, arith}
use Rattle.std.proofs.lemmas.Bool.{cases_eq, cases_lt, false≢true, eq-eqb, ne_eqb, eqb-true, lt-ltb, le-ltb, ltb-true, leb-true, and_parts, or_cases, cond-true, cond-false}
use Rattle.layouts.specs.Layouts.{Rules}
use Rattle.layouts.specs.declared.values.Value.{Value}
use Rattle.model.specs.Objects.{slot_count}
use Rattle.model.specs.ImageHeap.{row_headers, place_in, listed}
use Rattle.theory.specs.Model.{Layout, sum_to}
use Rattle.theory.specs.Restore.{every, row, closed_header_in, slots_in}
use Rattle.theory.specs.Closed.{closed_layout}
use Rattle.theory.proofs.Again.{every_at}

-- Lists

abbrev pub nth : List ℕ → ℕ → ℕ
nth zs p = get_or zs p 0

-- an address of the list is found
pub found_at : (zs : List ℕ) (p x : ℕ) → p < length zs → nth zs p ≡ x → (place_in zs x < length zs) × (nth zs (place_in zs x) ≡ x)
found_at [] p x l e = absurd (omega arith)
found_at (z ∷ zs) p x l e = go (cases_eq z x) p l e (found_at zs)
  where
    go : (z ≡ x) ⊎ (z ≡ x → ⊥) → (p : ℕ) → p < suc (length zs) → nth (z ∷ zs) p ≡ x → ((p x : ℕ) → p < length zs → nth zs p ≡ x → (place_in zs x < length zs) × (nth zs (place_in zs x) ≡ x)) →
        (place_in (z ∷ zs) x < suc (length zs)) × (nth (z ∷ zs) (place_in (z ∷ zs) x) ≡ x)
    go (inl q) p l e ih = rw (eq-eqb z x q) (omega arith, q)
    go (inr ne) zero l e ih = absurd (ne e)
    go (inr ne) (suc p) l e ih = let o = ih p x (omega arith) e in rw (ne_eqb z x ne) (omega (arith, o.0), o.1)

pub length_listed : {A : Type 0} (n : ℕ) (f : ℕ → A) → length (listed n f) ≡ n
length_listed zero f = refl
length_listed (suc n) f = ap suc (length_listed n (λ i. f (suc i)))

pub get_d_listed : {A : Type 0} (n : ℕ) (f : ℕ → A) (i : ℕ) (d : A) → i < n → get_or (listed n f) i d ≡ f i
get_d_listed zero f i d l = absurd (omega arith)
get_d_listed (suc n) f zero d l = refl
get_d_listed (suc n) f (suc i) d l = get_d_listed n (λ j. f (suc j)) i d (omega arith)

-- a sum from its first term on
pub sum_first : (n : ℕ) (f : ℕ → ℕ) → sum_to (suc n) f ≡ f 0 + sum_to n (λ p. f (suc p))
sum_first zero f = omega arith
sum_first (suc n) f = let ih = sum_first n f in omega arith

-- a sum in two parts
pub sum_parts : (n k : ℕ) (f : ℕ → ℕ) → sum_to (k + n) f ≡ sum_to k f + sum_to n (λ p. f (k + p))
sum_parts zero k f = let e : sum_to (k + 0) f ≡ sum_to k f = ap (λ z. sum_to z f) (let q : k + 0 ≡ k = omega arith in q) in omega arith
sum_parts (suc n) k f =
    let ih = sum_parts n k f in
    let e : sum_to (k + suc n) f ≡ sum_to (suc (k + n)) f = ap (λ z. sum_to z f) (let q : k + suc n ≡ suc (k + n) = omega arith in q) in
    omega arith

-- Rows

module _ (L : Rules) (mem : ℕ → ℕ) (e : ℕ) where
  abbrev lay : Layout
  lay = closed_layout L

  -- the words of the object at x
  abbrev span : ℕ → ℕ
  span x = suc (slot_count L (mem x))

  -- the objects with these headers, in order, make up the words from a to e
  pub record Listed (zs : List ℕ) (a : ℕ) : Type 0 where
    pub valid : (p : ℕ) → p < length zs → lay.head (mem (nth zs p)) ≡ true
    pub within : (p : ℕ) → p < length zs → (a ≤ nth zs p) × (nth zs p + span (nth zs p) ≤ e)
    pub ordered : (p q : ℕ) → p < q → q < length zs → nth zs p + span (nth zs p) ≤ nth zs q
    pub cover : (x : ℕ) → a ≤ x → x < e → (p : ℕ) × (p < length zs) × (nth zs p ≤ x) × (x < nth zs p + span (nth zs p))
    pub sum : a + sum_to (length zs) (λ p. span (nth zs p)) ≡ e

  none_listed : (a : ℕ) → a ≡ e → Listed [] a
  none_listed a q = record {
    valid = λ p l. absurd (omega arith);
    within = λ p l. absurd (omega arith);
    ordered = λ p q k l. absurd (omega arith);
    cover = λ x l k. absurd (omega arith);
    sum = omega arith;
  }

  one_listed : (a : ℕ) (zs : List ℕ) → lay.head (mem a) ≡ true → a + span a ≤ e → Listed zs (a + span a) → Listed (a ∷ zs) a
  one_listed a zs h b o = record { valid = valid'; within = within'; ordered = ordered'; cover = cover'; sum = omega (arith, sum_first (length zs) (λ p. span (nth (a ∷ zs) p)), o.sum) }
    where
      valid' : (p : ℕ) → p < suc (length zs) → lay.head (mem (nth (a ∷ zs) p)) ≡ true
      valid' zero l = h
      valid' (suc p) l = o.valid p (omega arith)

      within' : (p : ℕ) → p < suc (length zs) → (a ≤ nth (a ∷ zs) p) × (nth (a ∷ zs) p + span (nth (a ∷ zs) p) ≤ e)
      within' zero l = (omega arith, b)
      within' (suc p) l = omega (arith, o.within p (omega arith))

      ordered' : (p q : ℕ) → p < q → q < suc (length zs) → nth (a ∷ zs) p + span (nth (a ∷ zs) p) ≤ nth (a ∷ zs) q
      ordered' zero zero k l = absurd (omega arith)
      ordered' zero (suc q) k l = (o.within q (omega arith)).0
      ordered' (suc p) zero k l = absurd (omega arith)
      ordered' (suc p) (suc q) k l = o.ordered p q (omega arith) (omega arith)

      cover' : (x : ℕ) → a ≤ x → x < e → (p : ℕ) × (p < suc (length zs)) × (nth (a ∷ zs) p ≤ x) × (x < nth (a ∷ zs) p + span (nth (a ∷ zs) p))
      cover' x l k = elim (cases_lt x (a + span a)) [
        | inl c ↦ (0, omega arith, l, c)
        | inr c ↦ (let z = o.cover x c k in (suc z.0, omega (arith, z.1), z.2, z.3))
      ]

  -- what a row that goes on says
  row_more : (n a : ℕ) → a ≢ e → row lay mem (suc n) a e ≡ true → (lay.head (mem a) ≡ true) × (a + span a ≤ e) × (row lay mem n (a + span a) e ≡ true)
  row_more n a ne r =
      let r₁ : (lay.head (mem a) && (leb (a + span a) e && row lay mem n (a + span a) e)) ≡ true = sym (cond-false (eqb a e) true _ (ne_eqb a e ne)) ∙ r in
      let t = and_parts (lay.head (mem a)) (leb (a + span a) e && row lay mem n (a + span a) e) r₁ in
      let u = and_parts (leb (a + span a) e) (row lay mem n (a + span a) e) t.1 in
      (t.0, leb-true (a + span a) e u.0, u.1)

  -- the list of a row that goes on, and of one that does not
  list_more : (n a : ℕ) → a < e → row_headers L mem (suc n) a e ≡ a ∷ row_headers L mem n (a + span a) e
  list_more n a l = cond-true (ltb a e) _ _ (lt-ltb a e l)

  list_none : (n a : ℕ) → e ≤ a → row_headers L mem (suc n) a e ≡ []
  list_none n a l = cond-false (ltb a e) _ _ (le-ltb a e l)

  pub row_listed : (n a : ℕ) → row lay mem n a e ≡ true → Listed (row_headers L mem n a e) a
  row_listed zero a r = none_listed a (eqb-true a e r)
  row_listed (suc n) a r = go (cases_eq a e) (row_listed n)
    where
      go : (a ≡ e) ⊎ (a ≡ e → ⊥) → ((a : ℕ) → row lay mem n a e ≡ true → Listed (row_headers L mem n a e) a) → Listed (row_headers L mem (suc n) a e) a
      go (inl q) ih = subst (λ zs. Listed zs a) (sym (list_none n a (omega arith))) (none_listed a q)
      go (inr ne) ih =
          let m = row_more n a ne r in
          subst (λ zs. Listed zs a) (sym (list_more n a (omega (arith, m.1)))) (one_listed a (row_headers L mem n (a + span a) e) m.0 m.1 (ih (a + span a) m.2))

  -- a header of the row is one of the list
  abbrev Found : ℕ → List ℕ → Type 0
  Found x zs = (p : ℕ) × (p < length zs) × (nth zs p ≡ x)

  pub header_listed : (n a x : ℕ) → closed_header_in lay mem n a e x ≡ true → Found x (row_headers L mem n a e)
  header_listed zero a x h = absurd (false≢true h)
  header_listed (suc n) a x h = go (header_listed n (a + span a) x)
    where
      go : (closed_header_in lay mem n (a + span a) e x ≡ true → Found x (row_headers L mem n (a + span a) e)) → Found x (row_headers L mem (suc n) a e)
      go ih =
          let t = and_parts (ltb a e) (eqb x a || closed_header_in lay mem n (a + span a) e x) h in
          subst (Found x) (sym (list_more n a (ltb-true a e t.0))) (elim (or_cases (eqb x a) (closed_header_in lay mem n (a + span a) e x) t.1) [
            | inl q ↦ (0, omega arith, sym (eqb-true x a q))
            | inr q ↦ (let o = ih q in (suc o.0, omega (arith, o.1), o.2))
          ])

  -- what every slot of the row passes
  abbrev Passes : (Value → Bool) → List ℕ → Type 0
  Passes ok zs = (p i : ℕ) → p < length zs → i < slot_count L (mem (nth zs p)) → ok (L.unpacked (mem (nth zs p)) i (mem (nth zs p + suc i))) ≡ true

  pub slots_listed : (ok : Value → Bool) (n a : ℕ) → row lay mem n a e ≡ true → slots_in lay mem ok n a e ≡ true → Passes ok (row_headers L mem n a e)
  slots_listed ok zero a r s = λ p i l k. absurd (omega arith)
  slots_listed ok (suc n) a r s = go (cases_eq a e) (slots_listed ok n (a + span a))
    where
      first_passes : (zs : List ℕ) → ((i : ℕ) → i < slot_count L (mem a) → ok (L.unpacked (mem a) i (mem (a + suc i))) ≡ true) → Passes ok zs → Passes ok (a ∷ zs)
      first_passes zs f more zero i l k = f i k
      first_passes zs f more (suc p) i l k = more p i (omega arith) k

      go : (a ≡ e) ⊎ (a ≡ e → ⊥) → (row lay mem n (a + span a) e ≡ true → slots_in lay mem ok n (a + span a) e ≡ true → Passes ok (row_headers L mem n (a + span a) e)) → Passes ok (row_headers L mem (suc n) a e)
      go (inl q) ih = subst (Passes ok) (sym (list_none n a (omega arith))) (λ p i l k. absurd (omega arith))
      go (inr ne) ih =
          let m = row_more n a ne r in
          let lt : a < e = omega (arith, m.1) in
          let s₁ : (every (slot_count L (mem a)) (λ i. ok (L.unpacked (mem a) i (mem (a + suc i)))) && slots_in lay mem ok n (a + span a) e) ≡ true = sym (cond-true (ltb a e) _ true (lt-ltb a e lt)) ∙ s in
          let t = and_parts (every (slot_count L (mem a)) (λ i. ok (L.unpacked (mem a) i (mem (a + suc i))))) (slots_in lay mem ok n (a + span a) e) s₁ in
          subst (Passes ok) (sym (list_more n a lt)) (first_passes (row_headers L mem n (a + span a) e) (every_at (slot_count L (mem a)) (λ i. ok (L.unpacked (mem a) i (mem (a + suc i)))) t.0) (ih m.2 t.1))
