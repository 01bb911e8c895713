-- The split layout, number 2: the first slots hold only nil and references, the others only numbers.
use Rattle.std.specs.Prelude.{ℕ, ◌+◌, ◌-◌, ◌*◌, ◌/◌, ◌%◌, ◌^◌, Bool, cond, ◌&&◌, Option, ◌==◌, nat_le, nat_lt}
use Rattle.layouts.specs.Layouts.{Rules}
use Rattle.layouts.specs.declared.values.Value.{Value}
use Rattle.layouts.specs.declared.values.Value.TheVariants.{Nil, Number, Reference}

-- how many slots behind a header are for references, and how many for numbers
abbrev pub reference_slots : ℕ → ℕ
reference_slots h = h / 2 % 256

abbrev pub number_slots : ℕ → ℕ
number_slots h = h / 512

abbrev pub split_slots : ℕ → Option ℕ
split_slots x = cond (x % 2 == 1 && nat_le (reference_slots x + number_slots x) 255) (Option.Some (reference_slots x + number_slots x)) Option.None

abbrev pub split_admits : ℕ → ℕ → Value → Bool
split_admits h i Nil = nat_lt i (reference_slots h)
split_admits h i (Number n) = nat_le (reference_slots h) i && nat_lt n (2 ^ 32)
split_admits h i (Reference a) = nat_lt i (reference_slots h)

abbrev pub split_packed : Value → ℕ
split_packed Nil = 0
split_packed (Number n) = n
split_packed (Reference a) = a + 1

abbrev pub split_unpacked : ℕ → ℕ → ℕ → Value
split_unpacked h i x = cond (nat_lt i (reference_slots h)) (cond (x == 0) Nil (Reference (x - 1))) (Number x)

abbrev pub split : Rules
split = record {
  number = 2;
  header = λ r w. 1 + 2 * r + 512 * w;
  slots = split_slots;
  admits = split_admits;
  packed = λ h i v. split_packed v;
  unpacked = split_unpacked;
}
