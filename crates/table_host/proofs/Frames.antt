-- A list of frames has each number below the page count.
use Rattle.std.proofs.Common.{◌≡◌, ℕ, zero, suc, ◌<◌, cond, eqb, List, get_or, inl, inr, arith}
use Rattle.std.proofs.lemmas.Bool.{cases_eq}
use Rattle.std.proofs.lemmas.Bool.Decides.{nat_tests}
use Rattle.table_host.specs.Entries.{Frames}

-- n numbers below n, no two equal
record Spread (n : ℕ) (f : ℕ → ℕ) : Type 0 where
  below : (p : ℕ) → p < n → f p < n
  apart : (p q : ℕ) → p < q → q < n → f p ≡ f q → ⊥

-- two numbers swapped
abbrev swap : ℕ → ℕ → ℕ → ℕ
swap a b x = cond (eqb x a) b (cond (eqb x b) a x)

swap_same : (a b x y : ℕ) → swap a b x ≡ swap a b y → x ≡ y
swap_same a b x y e = grind (arith, nat_tests)

-- without the last place, and with the last place's number in place of the highest
spread_less : (m : ℕ) (f : ℕ → ℕ) → Spread (suc m) f → Spread m (λ p. swap m (f m) (f p))
spread_less m f s = record {
  below = λ p h.
      let here = s.below p (omega arith) in
      let last = s.below m (omega arith) in
      let ne = s.apart p m h (omega arith) in
      grind (arith, nat_tests, ne);
  apart = λ p q l h e.
      s.apart p q l (omega arith) (swap_same m (f m) (f p) (f q) e);
}

onto : (n : ℕ) (f : ℕ → ℕ) → Spread n f → (v : ℕ) → v < n → (p : ℕ) × (p < n) × (f p ≡ v)
onto zero f s v h = absurd (omega arith)
onto (suc m) f s v h =
    let last = s.below m (omega arith) in
    elim (cases_eq (f m) v) [
      | inl e ↦ (m, omega arith, e)
      | inr ne ↦
          let small : swap m (f m) v < m = grind (arith, nat_tests) in
          let found = onto m (λ p. swap m (f m) (f p)) (spread_less m f s) (swap m (f m) v) small in
          (found.0, omega (arith, found.1), swap_same m (f m) (f found.0) v found.2)
    ]

pub each_frame : (count : ℕ) (fs : List ℕ) → Frames count fs → (f : ℕ) → f < count → (p : ℕ) × (p < count) × (get_or fs p 0 ≡ f)
each_frame count fs is f h = onto count (λ p. get_or fs p 0) (record { below = is.below; apart = is.apart }) f h
