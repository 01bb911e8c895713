-- The crossing map: the pages that begin in an object, and one turn of the loop over them.
use Rattle.std.proofs.Common.{◌≡◌, ℕ, suc, ◌+◌, ◌-◌, ◌*◌, ◌/◌, ◌^◌, ◌<◌, ◌≤◌, min, Bool, cond, ◌&&◌, ltb, leb, List, length, get_or, set, ap, ◌∙◌, inl, inr, suc-mul, arith}
use Rattle.std.proofs.lemmas.Nat.{div_below, le-div, mul-le}
use Rattle.std.proofs.lemmas.List.{get_or-set_same, get_or-set_other}
use Rattle.std.proofs.lemmas.Bool.{cases_eq, cases_lt}
use Rattle.std.proofs.lemmas.Bool.Decides.{nat_tests}
use Rattle.model.specs.Heap.{plus}

-- the first page that begins at a or above, and where the pages of n words from a on stop, of 64
abbrev pub first_from : ℕ → ℕ → ℕ
first_from size a = plus a (size - 1) / size

abbrev pub pages_to : ℕ → ℕ → ℕ → ℕ
pages_to size a n = min (plus a (n - 1) / size) 63 + 1

-- page q is one of those from first on that come before page p and before the stop
abbrev pub noted : ℕ → ℕ → ℕ → ℕ → Bool
noted first stop p q = leb first q && ltb q p && ltb q stop

pub noted_none : (first stop q a b : ℕ) → b ≡ cond (noted first stop first q) a b
noted_none first stop q a b = grind (arith, nat_tests)

pub noted_more : (xs : List ℕ) (first stop p a : ℕ) (f : ℕ → ℕ) → p < length xs → first ≤ p → p < stop → ((q : ℕ) → get_or xs q 0 ≡ cond (noted first stop p q) a (f q)) → (q : ℕ) → get_or (set xs p a) q 0 ≡ cond (noted first stop (p + 1) q) a (f q)
noted_more xs first stop p a f long from under told q =
    elim (cases_eq q p) [
      | inl e ↦ rw e (get_or-set_same xs p a 0 long ∙ grind (arith, nat_tests))
      | inr n ↦ get_or-set_other xs p q a 0 n ∙ told q ∙ grind (arith, nat_tests)
    ]

from_page : (size a q : ℕ) → 1 ≤ size → leb ((a + (size - 1)) / size) q ≡ leb a (q * size)
from_page size a q some =
    elim (cases_lt (q * size) a) [
      | inl h ↦ let f = le-div (suc q) (a + (size - 1)) size some (rw suc-mul (omega arith)) in grind (arith, nat_tests)
      | inr h ↦ let f = div_below (a + (size - 1)) size (suc q) some (rw suc-mul (omega arith)) in grind (arith, nat_tests)
    ]

to_page : (size b q : ℕ) → 1 ≤ size → ltb q (b / size + 1) ≡ leb (q * size) b
to_page size b q some =
    elim (cases_lt b (q * size)) [
      | inl h ↦ let f = div_below b size q some h in grind (arith, nat_tests)
      | inr h ↦ let f = le-div q b size some h in grind (arith, nat_tests)
    ]

-- the loop has come to its stop: a page is noted if it begins in the object
pub noted_all : (size a n p q : ℕ) → 1 ≤ size → size ≤ 256 → 1 ≤ n → n ≤ 256 → pages_to size a n ≤ p → noted (first_from size a) (pages_to size a n) p q ≡ (ltb q 64 && leb a (q * size) && ltb (q * size) (a + n))
noted_all size a n p q some few one small past =
    elim (cases_lt q 64) [
      | inr far ↦ grind (arith, nat_tests)
      | inl near ↦
          let bound : q * size ≤ 63 * 256 = mul-le q size 63 256 (omega arith) few in
          elim (cases_lt (a + 256) (2 ^ 32)) [
            | inl fits ↦
                let up : plus a (size - 1) ≡ a + (size - 1) = omega arith in
                let end : plus a (n - 1) ≡ a + (n - 1) = omega arith in
                let from : leb (first_from size a) q ≡ leb a (q * size) = ap (λ x. leb (x / size) q) up ∙ from_page size a q some in
                let to : ltb q (plus a (n - 1) / size + 1) ≡ leb (q * size) (a + (n - 1)) = ap (λ x. ltb q (x / size + 1)) end ∙ to_page size (a + (n - 1)) q some in
                grind (arith, nat_tests)
            | inr high ↦
                let first : 64 ≤ first_from size a = le-div 64 (plus a (size - 1)) size some (omega arith) in
                grind (arith, nat_tests)
          ]
    ]
