-- What the registers reach, computed in rounds.
use Rattle.std.specs.Prelude.{ℕ, zero, suc, Bool, ◌&&◌, ◌||◌}
use Rattle.theory.specs.Model.{Layout, sum_to, weight}
use Rattle.layouts.specs.declared.values.Value.{Value}
use Rattle.model.specs.Reaching.{any_below, refers_to}
use Rattle.theory.specs.Collect.{Heap, size}

-- some k below n passes
abbrev pub any : ℕ → (ℕ → Bool) → Bool
any n f = any_below n f

abbrev pub closed_refers_to : ℕ → Value → Bool
closed_refers_to p v = refers_to p v

-- the places reached from the n registers in at most r steps
unfoldable pub within : Layout → Heap → ℕ → (ℕ → Value) → ℕ → ℕ → Bool
within L A n reg zero p = any n (λ k. closed_refers_to p (reg k))
within L A n reg (suc r) p = within L A n reg r p || any A.many (λ q. within L A n reg r q && any (L.slots (A.hdr q)) (λ i. closed_refers_to p (A.val q i)))

-- no path to a place is longer than there are places
abbrev pub reaches : Layout → Heap → ℕ → (ℕ → Value) → ℕ → Bool
reaches L A n reg p = within L A n reg A.many p

-- the words of all objects reached
abbrev pub closed_reached_words : Layout → Heap → ℕ → (ℕ → Value) → ℕ
closed_reached_words L A n reg = sum_to A.many (weight (size L A) (reaches L A n reg))
