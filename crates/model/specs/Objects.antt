-- Objects in memory, by the rules of a layout.
use Rattle.std.specs.Prelude.{ℕ, suc, Bool, true, false, cond, ◌&&◌, Some, None, Option, ◌==◌, nat_lt}
use Rattle.layouts.specs.Layouts.{Rules, addressable}
use Rattle.layouts.specs.declared.values.Value.{Value}
use Rattle.layouts.specs.declared.values.Value.TheVariants.{Nil, Number, Reference}
use Rattle.model.specs.declared.calls.Kind.{Kind}

abbrev pub some_or_0 : Option ℕ → ℕ
some_or_0 None = 0
some_or_0 (Some n) = n

-- the slots of the object with this header; a word that is no header has none
abbrev pub slot_count : Rules → ℕ → ℕ
slot_count L x = some_or_0 (L.slots x)

-- its words, header and slots
abbrev pub object_words : Rules → ℕ → ℕ
object_words L x = suc (slot_count L x)

abbrev pub is_some : Option ℕ → Bool
is_some None = false
is_some (Some n) = true

abbrev pub is_header : Rules → ℕ → Bool
is_header L x = is_some (L.slots x)

-- the word of a value in a slot, 0 where it is not admitted
abbrev pub packed_word : Rules → ℕ → ℕ → Value → ℕ
packed_word L x i v = cond (L.admits x i v && addressable v) (L.packed x i v) 0

-- what slot i of a new object holds, its first r slots being meant for references
abbrev pub initial : ℕ → ℕ → Value
initial r i = cond (nat_lt i r) Nil (Number 0)

-- Values

abbrev pub is_reference : Value → Bool
is_reference Nil = false
is_reference (Number n) = false
is_reference (Reference a) = true

-- the address or place of a reference, else 0
abbrev pub referred : Value → ℕ
referred Nil = 0
referred (Number n) = 0
referred (Reference a) = a

-- two nils, equal numbers or one object
abbrev pub same_value : Value → Value → Bool
same_value Nil Nil = true
same_value Nil (Number n) = false
same_value Nil (Reference b) = false
same_value (Number m) Nil = false
same_value (Number m) (Number n) = m == n
same_value (Number m) (Reference b) = false
same_value (Reference a) Nil = false
same_value (Reference a) (Number n) = false
same_value (Reference a) (Reference b) = a == b

abbrev pub kind_of : Value → Kind
kind_of Nil = Kind.Nil
kind_of (Number n) = Kind.Number n
kind_of (Reference a) = Kind.Reference
