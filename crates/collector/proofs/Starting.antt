-- A table of 64 pages' first words.
use Rattle.std.proofs.Common.{◌≡◌, ℕ, ◌+◌, ◌*◌, ◌<◌, List, length, get_or, set, sym, ap, ◌∙◌, inl, inr, arith}
use Rattle.std.proofs.lemmas.List.{get_or_past, get_or-set_same, get_or-set_other}
use Rattle.std.proofs.lemmas.Bool.{cases_eq, cases_lt, cond-true, cond-false, lt-ltb, le-ltb}
use Rattle.collector.specs.Starts.{starts_view}

pub starts_at : (xs : List ℕ) (size : ℕ) → length xs ≡ 64 → ((k : ℕ) → k < 64 → get_or xs k 0 ≡ k * size) → (q : ℕ) → get_or xs q 0 ≡ starts_view size q
starts_at xs size long all q =
    elim (cases_lt q 64) [
      | inl h ↦ all q h ∙ sym (cond-true _ (q * size) 0 (lt-ltb q 64 h))
      | inr h ↦ get_or_past xs q 0 (omega arith) ∙ sym (cond-false _ (q * size) 0 (le-ltb q 64 h))
    ]

-- one page more has its first word
pub one_start : (xs : List ℕ) (size p : ℕ) → p < length xs → ((k : ℕ) → k < p → get_or xs k 0 ≡ k * size) → (k : ℕ) → k < p + 1 → get_or (set xs p (p * size)) k 0 ≡ k * size
one_start xs size p in_row all k h =
    elim (cases_eq k p) [
      | inl e ↦ ap (λ j. get_or (set xs p (p * size)) j 0) e ∙ get_or-set_same xs p (p * size) 0 in_row ∙ ap (λ j. j * size) (sym e)
      | inr n ↦ get_or-set_other xs p k (p * size) 0 n ∙ all k (omega arith)
    ]
