-- A call that is lent the first words of a buffer, as a call on the whole of it.
use Rattle.std.proofs.Common.{◌≡◌, ℕ, ◌+◌, ◌-◌, ◌≤◌, min, List, ◌++◌, length, get_or, take, drop, sym, ap, ◌∙◌, inl, inr, arith}
use Rattle.std.proofs.lemmas.List.{length-take-le, get_or-take, get_or-drop, get_or_append_left, get_or-append_right}
use Rattle.std.proofs.lemmas.Bool.{cases_lt, cond-true, cond-false, lt-ltb, le-ltb}
use Rattle.layouts.specs.Layouts.{Rules}
use Rattle.model.specs.declared.calls.Answer.{Answer}
use Rattle.model.specs.declared.calls.Call.{Call}
use Rattle.model.specs.Heap.{Heap as Model}
use Rattle.model.specs.Outcomes.{outcome}
use Rattle.model.specs.Calls.{call}
use Rattle.images.specs.Lent.{lent, Writes}
use Rattle.restoring.specs.Restored.{image_view}
use Rattle.whole_runs.specs.Lists.{with_buffer}

-- the first n words before, and behind them the rest
before : (xs : List ℕ) (n : ℕ) → n ≤ length xs → (j : ℕ) → lent (take n xs) (image_view xs) j ≡ image_view xs j
before xs n few j =
    let long = length-take-le n xs few in
    elim (cases_lt j n) [
      | inl h ↦ cond-true _ (get_or (take n xs) j 0) (get_or xs j 0) (lt-ltb j (length (take n xs)) (omega (arith, long))) ∙ get_or-take n xs j 0 h
      | inr h ↦ cond-false _ (get_or (take n xs) j 0) (get_or xs j 0) (le-ltb j (length (take n xs)) (omega (arith, long)))
    ]

behind : (xs ys : List ℕ) (n : ℕ) → length ys ≡ n → (j : ℕ) → lent ys (image_view xs) j ≡ image_view (ys ++ drop n xs) j
behind xs ys n long j =
    elim (cases_lt j n) [
      | inl h ↦ cond-true _ (get_or ys j 0) (get_or xs j 0) (lt-ltb j (length ys) (omega (arith, long))) ∙ sym (get_or_append_left ys (drop n xs) 0 j (omega (arith, long)))
      | inr h ↦
          let at : n + (j - n) ≡ j = omega arith in
          cond-false _ (get_or ys j 0) (get_or xs j 0) (le-ltb j (length ys) (omega (arith, long)))
          ∙ sym (get_or-append_right ys (drop n xs) n j 0 long h ∙ get_or-drop n xs (j - n) 0 ∙ ap (λ k. get_or xs k 0) at)
    ]

pub prefix : (L : Rules) (h g : Model) (a : Answer) (c : ℕ → Call) (n : ℕ) (xs ys : List ℕ) → n ≤ length xs → length ys ≡ n → Writes L h (take n xs) (c (length (take n xs))) g ys a → call L (with_buffer h xs) (c n) ≡ outcome (with_buffer g (ys ++ drop n xs)) a
prefix L h g a c n xs ys few long did =
    sym (λ i. call L (record { heap = h; buffer = λ j. before xs n few j i }) (c (length-take-le n xs few i)))
    ∙ did (image_view xs)
    ∙ (λ i. outcome (record { heap = g; buffer = λ j. behind xs ys n long j i }) a)

-- a call that is lent so many words, or all if there are fewer
pub lent_first : (L : Rules) (h g : Model) (a : Answer) (c : ℕ → Call) (xs ys : List ℕ) (k n : ℕ) → n ≡ min k (length xs) → length ys ≡ n → Writes L h (take n xs) (c (length (take n xs))) g ys a → call L (with_buffer h xs) (c (min k (length xs))) ≡ outcome (with_buffer g (ys ++ drop n xs)) a
lent_first L h g a c xs ys k n is long did = sym (ap (λ m. call L (with_buffer h xs) (c m)) is) ∙ prefix L h g a c n xs ys (omega (arith, is)) long did
