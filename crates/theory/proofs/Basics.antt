use Rattle.std.proofs.Common.{◌≡◌, ℕ, zero, suc, ◌+◌, ◌-◌, ◌*◌, ◌/◌, ◌<◌, ◌≤◌, min, max, Bool, true, false, cond, ◌≢◌, ◌⊎◌, sym, refl, ap, ◌∙◌, inl, inr, le_trans, mul-le-mul_right, div-lt_iff_lt-mul, le-div_iff_mul-le, div-mul-le_self, arith}
use native.Mathlib.Nat.{div-zero, div-eq_of_lt-le, lt-div-mul-add}
use Rattle.std.proofs.lemmas.Bool.{eq-eqb, ne_eqb, cases_eq, cases_lt}
use Rattle.std.proofs.lemmas.Bool.Decides.{nat_tests}
use Rattle.theory.specs.Machine.{whole, Found.none, Found.found, lowest}
use Rattle.theory.specs.Model.{upd, blit, sum_to, weight}
use Rattle.layouts.specs.declared.values.Value.{Value}
use Rattle.layouts.specs.declared.values.Value.TheVariants.{Nil, Number, Reference}

pub upd_same : {X : Type 0} (m : ℕ → X) (a : ℕ) (w : X) → upd m a w a ≡ w
upd_same m a w = rw (eq-eqb a a refl)

pub upd_other : {X : Type 0} (m : ℕ → X) (a b : ℕ) (w : X) → b ≢ a → upd m a w b ≡ m b
upd_other m a b w h = rw (ne_eqb a b (λ e. h (sym e)))

pub upd_at : {X : Type 0} (m : ℕ → X) (a b : ℕ) (w : X) → b ≡ a → upd m a w b ≡ w
upd_at m a b w h = rw (eq-eqb a b (sym h))

pub blit_in : (m : ℕ → ℕ) (src dst k j : ℕ) → j < k → blit m src dst k (dst + j) ≡ m (src + j)
blit_in m src dst k j h = grind (arith, nat_tests)

pub blit_out : (m : ℕ → ℕ) (src dst k b : ℕ) → (b < dst) ⊎ (dst + k ≤ b) → blit m src dst k b ≡ m b
blit_out m src dst k b h = grind (arith, nat_tests)

pub weight_mono : (size : ℕ → ℕ) (b c : ℕ → Bool) (p : ℕ) → (b p ≡ true → c p ≡ true) → weight size b p ≤ weight size c p
weight_mono size b c p h = grind arith

pub sum_mono : (f g : ℕ → ℕ) (n : ℕ) → ((p : ℕ) → p < n → f p ≤ g p) → sum_to n f ≤ sum_to n g
sum_mono f g zero h = omega arith
sum_mono f g (suc n) h =
    let ih = sum_mono f g n (λ p l. h p (omega arith)) in
    let e = h n (omega arith) in
    omega arith

pub sum_same : (f g : ℕ → ℕ) (n : ℕ) → ((p : ℕ) → p < n → f p ≡ g p) → sum_to n f ≡ sum_to n g
sum_same f g zero h = refl
sum_same f g (suc n) h =
    let ih = sum_same f g n (λ p l. h p (omega arith)) in
    let e = h n (omega arith) in
    omega arith

-- one value raised by d at one place
pub sum_raise : (f g : ℕ → ℕ) (n p d : ℕ) → p < n → g p ≡ f p + d → ((q : ℕ) → q ≢ p → g q ≡ f q) → sum_to n g ≡ sum_to n f + d
sum_raise f g zero p d l e h = omega arith
sum_raise f g (suc n) p d l e h = go (cases_eq n p) (λ lt. sum_raise f g n p d lt e h)
  where
    go : (n ≡ p) ⊎ (n ≡ p → ⊥) → (p < n → sum_to n g ≡ sum_to n f + d) → sum_to (suc n) g ≡ sum_to (suc n) f + d
    go (inl q) ih =
        let s = sum_same g f n (λ r lt. h r (omega arith)) in
        let e1 : g n ≡ f n + d = rw q e in
        omega arith
    go (inr q) ih =
        let s = ih (omega arith) in
        let e1 : g n ≡ f n = h n q in
        omega arith

-- the weight rises by the size of a place that is added
pub weight_add : (size : ℕ → ℕ) (b : ℕ → Bool) (n p : ℕ) → p < n → b p ≡ false → sum_to n (weight size (upd b p true)) ≡ sum_to n (weight size b) + size p
weight_add size b n p l f =
    sum_raise (weight size b) (weight size (upd b p true)) n p (size p) l
    (rw (upd_same b p true, f) (omega arith))
    (λ q ne. rw (upd_other b p q true ne))

-- an order or another: a goal that `omega` does not read, made one that it does
pub or_le : (x y z w : ℕ) → (y < x → w < z → ⊥) → (x ≤ y) ⊎ (z ≤ w)
or_le x y z w f = elim (cases_lt y x) [ inr a ↦ inl a | inl a ↦ elim (cases_lt w z) [ inr b ↦ inr b | inl b ↦ absurd (f a b) ] ]

pub nil≢ref : (x : ℕ) → Nil ≡ Reference x → ⊥
nil≢ref x e = let z : ◌≡◌ {A = ℕ} 0 1 = cc in omega arith

pub num≢ref : (n x : ℕ) → Number n ≡ Reference x → ⊥
num≢ref n x e = let z : ◌≡◌ {A = ℕ} 0 1 = cc in omega arith

pub ref_inj : (v : Value) (x y : ℕ) → v ≡ Reference x → v ≡ Reference y → x ≡ y
ref_inj v x y e f = cc

pub div_mono : (P a b : ℕ) → a ≤ b → a / P ≤ b / P
div_mono zero a b l = rw (div-zero a, div-zero b) (omega arith)
div_mono (suc n) a b l = (le-div_iff_mul-le {k = suc n} {x = a / suc n} {y = b} (omega arith)).1 (le_trans (div-mul-le_self a (suc n)) l)

-- the page of an address
pub page_of : (P x n : ℕ) → n * P ≤ x → x < n * P + P → x / P ≡ n
page_of P x n l m = div-eq_of_lt-le P l (omega arith)

pub page_lo : (P x : ℕ) → x / P * P ≤ x
page_lo P x = div-mul-le_self x P

pub page_hi : (P x : ℕ) → 0 < P → x < x / P * P + P
page_hi P x l = lt-div-mul-add l

-- whole pages
pub whole_covers : (P n : ℕ) → 0 < P → n ≤ whole P n
whole_covers P n l = let t = lt-div-mul-add {a = n + (P - 1)} {b = P} l in omega arith

pub whole_fits : (P n k : ℕ) → 0 < P → n ≤ k * P → whole P n ≤ k * P
whole_fits P n k l h =
    let e : n + (P - 1) < suc k * P = omega arith in
    let q = (div-lt_iff_lt-mul {k = P} {x = n + (P - 1)} {y = suc k} l).1 e in
    mul-le-mul_right P (omega arith)

-- the two halves
pub halves_apart : (sd h : ℕ) → sd ≤ 1 → (sd * h + h ≤ (1 - sd) * h) ⊎ ((1 - sd) * h + h ≤ sd * h)
halves_apart sd h l = elim (cases_eq sd 0) [
  | inl e ↦ inl (rw e (omega arith))
  | inr ne ↦ (let e : sd ≡ 1 = omega arith in inr (rw e (omega arith)))
]

pub half_within : (sd h : ℕ) → sd ≤ 1 → h + h ≤ 16384 → sd * h + h ≤ 16384
half_within sd h l k = elim (cases_eq sd 0) [
  | inl e ↦ rw e (omega arith)
  | inr ne ↦ (let e : sd ≡ 1 = omega arith in rw e (omega arith))
]

pub twice : (h sd : ℕ) → sd ≤ 1 → sd * h + h ≤ h + h
twice h sd l = elim (cases_eq sd 0) [ inl e ↦ rw e (omega arith) | inr ne ↦ (let e : sd ≡ 1 = omega arith in rw e (omega arith)) ]

-- an address above a page's start lies on that page or above
pub aligned : (P k x : ℕ) → 0 < P → k * P ≤ x → k * P ≤ x / P * P
aligned P k x l h = mul-le-mul_right P ((le-div_iff_mul-le {k = P} {x = k} {y = x} l).1 h)

-- the lowest that passes
pub lowest_passes : (k n : ℕ) (f : ℕ → Bool) (x : ℕ) → lowest k n f ≡ found x → f x ≡ true
lowest_passes zero n f x e = absurd (let z : ◌≡◌ {A = ℕ} 0 1 = cc in omega arith)
lowest_passes (suc k) n f x e = go (f n) refl e (lowest_passes k (suc n) f x)
  where
    go : (t : Bool) → f n ≡ t → cond t (found n) (lowest k (suc n) f) ≡ found x → (lowest k (suc n) f ≡ found x → f x ≡ true) → f x ≡ true
    go true q e ih = let z : n ≡ x = cc in ap f (sym z) ∙ q
    go false q e ih = ih e

pub lowest_fails : (k n : ℕ) (f : ℕ → Bool) → lowest k n f ≡ none → (x : ℕ) → n ≤ x → x < n + k → f x ≡ false
lowest_fails zero n f e x l m = absurd (omega arith)
lowest_fails (suc k) n f e x l m = go (f n) refl e (λ d j. lowest_fails k (suc n) f d x j (omega arith))
  where
    go : (t : Bool) → f n ≡ t → cond t (found n) (lowest k (suc n) f) ≡ none → (lowest k (suc n) f ≡ none → suc n ≤ x → f x ≡ false) → f x ≡ false
    go true q e ih = absurd (let z : ◌≡◌ {A = ℕ} 0 1 = cc in omega arith)
    go false q e ih = elim (cases_eq x n) [ inl z ↦ ap f z ∙ q | inr ne ↦ ih e (omega arith) ]

-- pages in a row from x, each scanned as far as t reaches: together t - x
pub scanned_sum : (P x t k : ℕ) (f : ℕ → ℕ) → x ≤ t → ((j : ℕ) → j < k → f j ≡ min (x + j * P + P) (max (x + j * P) t) - (x + j * P)) → sum_to k f ≡ min (k * P) (t - x)
scanned_sum P x t zero f l h = omega arith
scanned_sum P x t (suc k) f l h =
    let ih = scanned_sum P x t k f l (λ j b. h j (omega arith)) in
    let e = h k (omega arith) in
    omega arith

pub lowest_least : (k n : ℕ) (f : ℕ → Bool) (x : ℕ) → lowest k n f ≡ found x → (n ≤ x) × (x < n + k) × ((j : ℕ) → n ≤ j → j < x → f j ≡ false)
lowest_least zero n f x e = absurd (let z : ◌≡◌ {A = ℕ} 0 1 = cc in omega arith)
lowest_least (suc k) n f x e = go (f n) refl e (lowest_least k (suc n) f x)
  where
    go : (t : Bool) → f n ≡ t → cond t (found n) (lowest k (suc n) f) ≡ found x → (lowest k (suc n) f ≡ found x → (suc n ≤ x) × (x < suc n + k) × ((j : ℕ) → suc n ≤ j → j < x → f j ≡ false)) → (n ≤ x) × (x < n + suc k) × ((j : ℕ) → n ≤ j → j < x → f j ≡ false)
    go true q e ih = let z : n ≡ x = cc in (omega arith, omega arith, λ j a b. absurd (omega arith))
    go false q e ih = let o = ih e in (omega (arith, o.0), omega (arith, o.1), λ j a b. elim (cases_eq j n) [ inl z ↦ ap f z ∙ q | inr ne ↦ o.2 j (omega arith) b ])
