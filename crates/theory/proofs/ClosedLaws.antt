-- A lawful layout has the laws of the closed form, and legal sizes are small.
use Rattle.std.proofs.Common.{◌≡◌, ℕ, ◌+◌, ◌/◌, ◌%◌, ◌<◌, ◌≤◌, true, Some, None, Option, refl, ap, ◌∙◌, arith}
use Rattle.std.proofs.lemmas.Bool.{false≢true}
use Rattle.std.proofs.lemmas.Bool.Decides.{nat_tests}
use Rattle.std.proofs.lemmas.Nat.{mul-le}
use Rattle.memory.specs.Memory.{legal_sizes}
use Rattle.layouts.specs.Layouts.{Rules, Lawful, addressable}
use Rattle.layouts.specs.declared.values.Value.{Value}
use Rattle.model.specs.Objects.{some_or_0, slot_count, is_some, is_header, packed_word}
use Rattle.theory.specs.Collect.{Laws}
use Rattle.theory.specs.Closed.{closed_layout, both_halves}

-- a header's slots
header_slots : (o : Option ℕ) → is_some o ≡ true → o ≡ Some (some_or_0 o)
header_slots None e = absurd (false≢true e)
header_slots (Some n) e = refl

module _ (L : Rules) (lawful : Lawful L) where
  pub slots_known : (x : ℕ) → is_header L x ≡ true → L.slots x ≡ Some (slot_count L x)
  slots_known x e = header_slots (L.slots x) e

  odd : (x : ℕ) → is_header L x ≡ true → x % 2 ≡ 1
  odd x e =
      let s = lawful.shaped x (slot_count L x) (slots_known x e) in
      rw (← s.4) (lawful.odd s.0 s.1 (omega (arith, s.2, s.3)))

  packed_as : (x i : ℕ) (v : Value) → L.admits x i v ≡ true → addressable v ≡ true → packed_word L x i v ≡ L.packed x i v
  packed_as x i v e a = rw (e, a)

  unpacks_at : (x i r w : ℕ) (v : Value) → L.header r w ≡ x → r + w ≤ 255 → i < r + w → addressable v ≡ true → L.admits x i v ≡ true → L.unpacked x i (L.packed x i v) ≡ v
  unpacks_at x i r w v h few l a e = rw (← h) (lawful.unpacks r w i v few l a (rw h e))

  unpacks : (x i : ℕ) (v : Value) → is_header L x ≡ true → i < slot_count L x → addressable v ≡ true → L.admits x i v ≡ true → L.unpacked x i (packed_word L x i v) ≡ v
  unpacks x i v e l a ad =
      let s = lawful.shaped x (slot_count L x) (slots_known x e) in
      ap (L.unpacked x i) (packed_as x i v ad a) ∙ unpacks_at x i s.0 s.1 v s.4 (omega (arith, s.2, s.3)) (omega (arith, s.2, l)) a ad

  pub closed_laws : Laws (closed_layout L)
  closed_laws = record {
    odd = odd;
    unpacks = unpacks;
    made = λ r w l. (ap is_some (lawful.counted r w l), ap some_or_0 (lawful.counted r w l));
    first = λ r w i l b. lawful.admits_nil r w i l b;
    next = λ r w i l b c. lawful.admits_number r w i 0 l b c (omega arith);
    any_ref = lawful.any_address;
  }

-- Sizes

pub sizes_small : (count size : ℕ) → legal_sizes count size ≡ true → both_halves count size ≤ 16384
sizes_small count size e =
    let k : count ≤ 64 = grind (arith, nat_tests, e) in
    let s : size ≤ 256 = grind (arith, nat_tests, e) in
    let h : count / 2 ≤ 32 = omega arith in
    let m = mul-le (count / 2) size 32 256 h s in
    omega arith

pub size_positive : (count size : ℕ) → legal_sizes count size ≡ true → 0 < size
size_positive count size e = grind (arith, nat_tests, e)

pub size_few : (count size : ℕ) → legal_sizes count size ≡ true → size ≤ 256
size_few count size e = grind (arith, nat_tests, e)

pub count_few : (count size : ℕ) → legal_sizes count size ≡ true → count ≤ 64
count_few count size e = grind (arith, nat_tests, e)
