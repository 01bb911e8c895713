-- Tables whose places all hold the same.
use Rattle.std.proofs.Common.{◌≡◌, ℕ, ◌≤◌, get_or, replicate, inl, inr}
use lib.ListN.{length-replicate}
use Rattle.std.proofs.lemmas.Bool.{cases_lt}
use Rattle.std.proofs.lemmas.List.{get_or-replicate, get_or_past}

pub past : {A : Type 0} (n q : ℕ) (x d : A) → n ≤ q → get_or (replicate n x) q d ≡ d
past n q x d h = get_or_past (replicate n x) q d (rw (length-replicate n x) h)

pub blank_at : {A : Type 0} (n q : ℕ) (x : A) → get_or (replicate n x) q x ≡ x
blank_at n q x = elim (cases_lt q n) [ inl h ↦ get_or-replicate n q x x h | inr h ↦ past n q x x h ]
