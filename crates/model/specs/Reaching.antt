-- Objects that never move, and what the registers reach among them.
use Rattle.std.specs.Prelude.{◌≡◌, ℕ, zero, suc, ◌+◌, ◌<◌, Bool, false, cond, ◌&&◌, ◌||◌, List, [], length, ◌==◌, slice_index_or}
use Rattle.layouts.specs.declared.values.Value.{Value}
use Rattle.layouts.specs.declared.values.Value.TheVariants.{Nil, Number, Reference}

-- An object: its header, and what its slots hold. A reference is a place in the list of objects.
pub record Object : Type 0 where
  pub header : ℕ
  pub slots : List Value

abbrev pub object_at : List Object → ℕ → Object
object_at xs p = slice_index_or xs p (record { header = 0; slots = [] })

-- what slot i of the object at p holds
abbrev pub slot_at : List Object → ℕ → ℕ → Value
slot_at xs p i = slice_index_or (object_at xs p).slots i Nil

-- header and slots
abbrev pub words_of : List Object → ℕ → ℕ
words_of xs p = suc (length (object_at xs p).slots)

-- The places that the 32 registers reach: those of what a register holds, and of what a slot of a reached object holds
pub data Reached (xs : List Object) (register : ℕ → Value) : ℕ → Type 0 where
  held : {p : ℕ} → (k : ℕ) → k < 32 → register k ≡ Reference p → Reached xs register p
  in_slot : {p q : ℕ} → (i : ℕ) → Reached xs register p → i < length (object_at xs p).slots → slot_at xs p i ≡ Reference q → Reached xs register q

-- The same computed, in rounds

abbrev pub refers_to : ℕ → Value → Bool
refers_to p Nil = false
refers_to p (Number n) = false
refers_to p (Reference q) = q == p

-- some number below n passes
abbrev pub any_below : ℕ → (ℕ → Bool) → Bool
any_below zero f = false
any_below (suc n) f = any_below n f || f n

-- the places reached in at most r steps
unfoldable pub reached_within : List Object → (ℕ → Value) → ℕ → ℕ → Bool
reached_within xs register zero p = any_below 32 (λ k. refers_to p (register k))
reached_within xs register (suc r) p = reached_within xs register r p || any_below (length xs) (λ q. reached_within xs register r q && any_below (length (object_at xs q).slots) (λ i. refers_to p (slot_at xs q i)))

-- no path to a place is longer than there are objects
abbrev pub is_reached : List Object → (ℕ → Value) → ℕ → Bool
is_reached xs register p = reached_within xs register (length xs) p

-- the sum of f over the numbers below n
abbrev pub sum_below : ℕ → (ℕ → ℕ) → ℕ
sum_below zero f = 0
sum_below (suc n) f = sum_below n f + f n

-- the words of all objects that the registers reach
abbrev pub reached_words : List Object → (ℕ → Value) → ℕ
reached_words xs register = sum_below (length xs) (λ p. cond (is_reached xs register p) (words_of xs p) 0)
