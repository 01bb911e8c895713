-- The tagged layout has the laws.
use Rattle.std.specs.Prelude.{◌≡◌, ℕ, ◌+◌, ◌-◌, ◌*◌, ◌/◌, ◌%◌, ◌^◌, ◌<◌, ◌≤◌, true, Some, refl}
use Rattle.std.proofs.Common.{arith}
use Rattle.std.proofs.lemmas.Bool.Decides.{nat_tests}
use Rattle.std.proofs.lemmas.Bool.{lt-ltb}
use Rattle.layouts.specs.Layouts.{Lawful, addressable}
use Rattle.layouts.specs.Tagged.{tagged, tagged_slots, tagged_admits, tagged_packed, tagged_unpacked}
use Rattle.layouts.specs.declared.values.Value.{Value}
use Rattle.layouts.specs.declared.values.Value.TheVariants.{Nil, Number, Reference}

counted : (n : ℕ) → n ≤ 255 → tagged_slots (2 * n + 1) ≡ Some n
counted n l =
    let half : (2 * n + 1) / 2 ≡ n = omega arith in
    let odd : (2 * n + 1) % 2 ≡ 1 = omega arith in
    grind (arith, nat_tests)

shaped : (x n : ℕ) → tagged_slots x ≡ Some n → (r : ℕ) × (w : ℕ) × (r + w ≡ n) × (n ≤ 255) × (2 * (r + w) + 1 ≡ x)
shaped x n e =
    let half : x / 2 ≡ n = grind (arith, nat_tests) in
    let odd : x % 2 ≡ 1 = grind (arith, nat_tests) in
    let few : x / 2 ≤ 255 = grind (arith, nat_tests) in
    (n, 0, omega arith, omega arith, omega arith)

packed_fits : (v : Value) → addressable v ≡ true → tagged_admits v ≡ true → tagged_packed v < 2 ^ 32
packed_fits Nil a e = omega arith
packed_fits (Number n) a e = grind (arith, nat_tests)
packed_fits (Reference b) a e = grind (arith, nat_tests)

unpacks : (v : Value) → tagged_unpacked (tagged_packed v) ≡ v
unpacks Nil = refl
unpacks (Number n) =
    let half : (2 * n + 1) / 2 ≡ n = omega arith in
    let odd : (2 * n + 1) % 2 ≡ 1 = omega arith in
    grind (arith, nat_tests)
unpacks (Reference a) =
    let half : 2 * (a + 1) / 2 - 1 ≡ a = omega arith in
    let even : 2 * (a + 1) % 2 ≡ 0 = omega arith in
    let some : 2 * (a + 1) ≡ 0 → ⊥ = λ z. omega arith in
    grind (arith, nat_tests)

gives_admitted : (x : ℕ) → x < 2 ^ 32 → tagged_admits (tagged_unpacked x) ≡ true
gives_admitted x l =
    let half : x / 2 < 2 ^ 31 = omega arith in
    grind (arith, nat_tests)

packs_back : (x : ℕ) → tagged_packed (tagged_unpacked x) ≡ x
packs_back x =
    let parts : 2 * (x / 2) + x % 2 ≡ x = omega arith in
    let bit : x % 2 ≤ 1 = omega arith in
    grind (arith, nat_tests)

pub tagged_lawful : Lawful tagged
tagged_lawful = record {
  odd = λ r w l. omega arith;
  header_fits = λ r w l. omega arith;
  counted = λ r w l. counted (r + w) l;
  shaped = shaped;
  packed_fits = λ r w i v l b a e. packed_fits v a e;
  unpacks = λ r w i v l b a e. unpacks v;
  gives_admitted = λ r w i x l b h a. gives_admitted x h;
  packs_back = λ r w i x l b h a. packs_back x;
  admits_nil = λ r w i l b. refl;
  admits_reference = λ r w i a l b. refl;
  admits_number = λ r w i n l b c h. lt-ltb n (2 ^ 31) h;
  any_address = λ h i a b. refl;
}
