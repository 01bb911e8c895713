-- Arrays that `array::from_fn` makes, with a closure that its calls leave as it is.
use Rattle.std.proofs.Common.{◌≡◌, ℕ, zero, suc, ◌+◌, ◌<◌, ◌≤◌, List, get_or, subst, inl, inr, arith}
use Rattle.std.proofs.lemmas.Bool.{cases_eq}
use Rattle.std.specs.Array.{IsFromFnResult, IsFromFnResultFrom}
use Rattle.std.specs.Fn.{Called}
use denote.Param.Members.{Mut}

made_from : {F B : Type 0} {g : Mut F (ℕ × Unit {0}) B} {f : F} (P : ℕ → B → Type 0) → ((i : ℕ) (y : B) (q : F) → Called g f (i, tt) y q → (q ≡ f) × P i y) → (ys : List B) (i n k : ℕ) (d : B) → IsFromFnResultFrom g f ys i n → i ≤ k → k < i + n → P k (get_or ys k d)
made_from P gives ys i zero k d made low high = absurd (omega arith)
made_from {g = g} P gives ys i (suc n) k d made low high =
    let here = gives i made.1 made.0 made.3 in
    elim (cases_eq k i) [
      | inl e ↦ rw (e, made.2.1 d) here.1
      | inr e ↦ made_from P gives ys (i + 1) n k d (subst (λ p. IsFromFnResultFrom g p ys (i + 1) n) here.0 made.4) (omega arith) (omega arith)
    ]

pub each_from_fn : {F B : Type 0} {g : Mut F (ℕ × Unit {0}) B} {f : F} (P : ℕ → B → Type 0) (ys : List B) (n : ℕ) → IsFromFnResult g f ys n → ((i : ℕ) (y : B) (q : F) → Called g f (i, tt) y q → (q ≡ f) × P i y) → (k : ℕ) (d : B) → k < n → P k (get_or ys k d)
each_from_fn P ys n made gives k d h = made_from P gives ys 0 n k d made.each (omega arith) (omega arith)

-- the closure computes h
pub made-from_fn : {F B : Type 0} {g : Mut F (ℕ × Unit {0}) B} (f : F) (h : ℕ → B) (ys : List B) (d : B) → ((i : ℕ) (y : B) (q : F) → Called g f (i, tt) y q → (q ≡ f) × (y ≡ h i)) → (n : ℕ) → IsFromFnResult g f ys n → (k : ℕ) → k < n → get_or ys k d ≡ h k
made-from_fn f h ys d computes n made k few = each_from_fn (λ i y. y ≡ h i) ys n made computes k d few
