-- What a layout's calls answer, and the laws that every layout has.
use Rattle.std.specs.Prelude.{◌≡◌, ℕ, ◌+◌, ◌%◌, ◌^◌, ◌<◌, ◌≤◌, Bool, true, cond, ◌&&◌, Some, Ok, Err, Option, Result, nat_le, nat_lt}
use Rattle.memory.specs.declared.refusals.Refusal.{Refusal}
use Rattle.memory.specs.declared.refusals.Refusal.TheVariants.{Shape, Misfit}
use Rattle.layouts.specs.declared.values.Value.{Value}
use Rattle.layouts.specs.declared.values.Value.TheVariants.{Nil, Number, Reference}

pub record Rules : Type 0 where
  -- the layout's number
  pub number : ℕ
  -- the header for so many slots meant for references and then so many for numbers
  pub header : ℕ → ℕ → ℕ
  -- how many slots stand behind a header; none for a word that is no header
  pub slots : ℕ → Option ℕ
  -- whether the slot of an object with that header may hold the value
  pub admits : ℕ → ℕ → Value → Bool
  -- the word of an admitted value in a slot
  pub packed : ℕ → ℕ → Value → ℕ
  -- the value of a word in a slot
  pub unpacked : ℕ → ℕ → ℕ → Value

-- an object has at most 255 slots
abbrev pub fits_shape : ℕ → ℕ → Bool
fits_shape r w = nat_le (r + w) 255

-- an object's address is below 16384
abbrev pub addressable : Value → Bool
addressable Nil = true
addressable (Number n) = true
addressable (Reference a) = nat_lt a 16384

abbrev pub header_answer : Rules → ℕ → ℕ → Result ℕ Refusal
header_answer L r w = cond (fits_shape r w) (Ok (L.header r w)) (Err Shape)

abbrev pub pack_answer : Rules → ℕ → ℕ → Value → Result ℕ Refusal
pack_answer L h i v = cond (L.admits h i v && addressable v) (Ok (L.packed h i v)) (Err Misfit)

pub record Lawful (L : Rules) : Type 0 where
  -- headers are odd words
  pub odd : (r w : ℕ) → r + w ≤ 255 → L.header r w % 2 ≡ 1
  pub header_fits : (r w : ℕ) → r + w ≤ 255 → L.header r w < 2 ^ 32
  -- a header tells its slots, and every word that does is a header
  pub counted : (r w : ℕ) → r + w ≤ 255 → L.slots (L.header r w) ≡ Some (r + w)
  pub shaped : (x n : ℕ) → L.slots x ≡ Some n → (r : ℕ) × (w : ℕ) × (r + w ≡ n) × (n ≤ 255) × (L.header r w ≡ x)
  -- in a slot an admitted value has a word, and unpacking undoes packing
  pub packed_fits : (r w i : ℕ) (v : Value) → r + w ≤ 255 → i < r + w → addressable v ≡ true → L.admits (L.header r w) i v ≡ true → L.packed (L.header r w) i v < 2 ^ 32
  pub unpacks : (r w i : ℕ) (v : Value) → r + w ≤ 255 → i < r + w → addressable v ≡ true → L.admits (L.header r w) i v ≡ true → L.unpacked (L.header r w) i (L.packed (L.header r w) i v) ≡ v
  -- what a word in a slot gives, addresses of no object aside, is admitted and packs back
  pub gives_admitted : (r w i x : ℕ) → r + w ≤ 255 → i < r + w → x < 2 ^ 32 → addressable (L.unpacked (L.header r w) i x) ≡ true → L.admits (L.header r w) i (L.unpacked (L.header r w) i x) ≡ true
  pub packs_back : (r w i x : ℕ) → r + w ≤ 255 → i < r + w → x < 2 ^ 32 → addressable (L.unpacked (L.header r w) i x) ≡ true → L.packed (L.header r w) i (L.unpacked (L.header r w) i x) ≡ x
  -- the first r slots admit nil and every reference, the next w every number below 2^31
  pub admits_nil : (r w i : ℕ) → r + w ≤ 255 → i < r → L.admits (L.header r w) i Nil ≡ true
  pub admits_reference : (r w i a : ℕ) → r + w ≤ 255 → i < r → L.admits (L.header r w) i (Reference a) ≡ true
  pub admits_number : (r w i n : ℕ) → r + w ≤ 255 → r ≤ i → i < r + w → n < 2 ^ 31 → L.admits (L.header r w) i (Number n) ≡ true
  -- no reference's address decides whether it is admitted
  pub any_address : (h i a b : ℕ) → L.admits h i (Reference a) ≡ L.admits h i (Reference b)
