-- The tagged layout, number 1: 0 is nil, an odd word a number, another even word a reference.
use Rattle.std.specs.Prelude.{ℕ, ◌+◌, ◌-◌, ◌*◌, ◌/◌, ◌%◌, ◌^◌, Bool, true, cond, ◌&&◌, Option, ◌==◌, nat_le, nat_lt}
use Rattle.layouts.specs.Layouts.{Rules}
use Rattle.layouts.specs.declared.values.Value.{Value}
use Rattle.layouts.specs.declared.values.Value.TheVariants.{Nil, Number, Reference}

abbrev pub tagged_slots : ℕ → Option ℕ
tagged_slots x = cond (x % 2 == 1 && nat_le (x / 2) 255) (Option.Some (x / 2)) Option.None

abbrev pub tagged_admits : Value → Bool
tagged_admits Nil = true
tagged_admits (Number n) = nat_lt n (2 ^ 31)
tagged_admits (Reference a) = true

abbrev pub tagged_packed : Value → ℕ
tagged_packed Nil = 0
tagged_packed (Number n) = 2 * n + 1
tagged_packed (Reference a) = 2 * (a + 1)

abbrev pub tagged_unpacked : ℕ → Value
tagged_unpacked x = cond (x % 2 == 1) (Number (x / 2)) (cond (x == 0) Nil (Reference (x / 2 - 1)))

abbrev pub tagged : Rules
tagged = record {
  number = 1;
  header = λ r w. 2 * (r + w) + 1;
  slots = tagged_slots;
  admits = λ h i v. tagged_admits v;
  packed = λ h i v. tagged_packed v;
  unpacked = λ h i x. tagged_unpacked x;
}
