-- A list of frames, looked through up to a place.
use Rattle.std.proofs.Common.{◌≡◌, ℕ, ◌<◌, Bool, true, false, List, length, get_or, replicate, refl, ⊎_elim, arith}
use Rattle.std.proofs.lemmas.Bool.{cases_lt, both_ways}
use Rattle.std.proofs.lemmas.List.{get_or-replicate, get_or_past}

-- of the first i numbers each is below the page count, no two are equal, and they are the ones marked as seen
pub record Seen (count : ℕ) (fs : List ℕ) (i : ℕ) (seen : List Bool) : Type 0 where
  pub wide : length seen ≡ 64
  pub below : (k : ℕ) → k < i → get_or fs k 0 < count
  pub apart : (j k : ℕ) → j < k → k < i → get_or fs j 0 ≡ get_or fs k 0 → ⊥
  pub marked : (k : ℕ) → k < i → get_or seen (get_or fs k 0) false ≡ true
  pub found : (v : ℕ) → get_or seen v false ≡ true → (k : ℕ) × (k < i) × (get_or fs k 0 ≡ v)

none_marked : (v : ℕ) → get_or (replicate 64 false) v false ≡ false
none_marked v = ⊎_elim (λ h. get_or-replicate 64 v false false h) (λ h. get_or_past (replicate 64 false) v false h) (cases_lt v 64)

pub none_seen : (count : ℕ) (fs : List ℕ) → Seen count fs 0 (replicate 64 false)
none_seen count fs = record {
  wide = refl;
  below = λ k h. absurd (omega arith);
  apart = λ j k h l. absurd (omega arith);
  marked = λ k h. absurd (omega arith);
  found = λ v e. absurd (both_ways _ (none_marked v) e);
}
