-- An image's words by where they lie in the restored heap, and the tests of them.
use Rattle.std.specs.Prelude.{◌≡◌, ℕ, suc, ◌+◌, ◌-◌, ◌*◌, Bool, true, cond, ◌&&◌, ◌||◌, ◌==◌, nat_le, nat_lt}
use Rattle.memory.specs.Memory.{Memory}
use Rattle.layouts.specs.Layouts.{Rules}
use Rattle.layouts.specs.declared.values.Value.{Value}
use Rattle.layouts.specs.declared.values.Value.TheVariants.{Nil, Number, Reference}
use Rattle.model.specs.Heap.{half_words, first_word}
use Rattle.model.specs.Restoring.{every_below, is_row, heads_row, slots_pass, half_of, register_of}
use Rattle.restoring.specs.Restored.{image_view}
use Rattle.restoring.specs.declared.objects.Objects.{Objects}
use Rattle.restoring.specs.declared.outlines.Outline.{Outline}

-- o is where an image's objects lie
abbrev pub IsOutline : Memory → (ℕ → ℕ) → Outline → Type 0
IsOutline m b o = record {
  start : o.start ≡ first_word m (half_of (b 3));
  words : o.words ≡ half_words m;
  copy_end : o.copy_end ≡ first_word m (half_of (b 3)) + b 4;
  new_start : o.new_start ≡ first_word m (half_of (b 3)) + half_words m - b 5;
}

-- register k; there is none above 31
abbrev pub register_in : (ℕ → ℕ) → ℕ → Value
register_in b k = cond (nat_lt k 32) (register_of (b (6 + 2 * k)) (b (7 + 2 * k))) Nil

-- word j of a to-space of so many words is used, or 0
abbrev pub unused_in : ℕ → (ℕ → ℕ) → ℕ → Bool
unused_in words b j = nat_lt j (b 4) || nat_le (words - b 5) j || b (70 + j) == 0

-- of the objects of an image
module _ {A : Type 0} where
  -- the word at an address
  abbrev pub word_in : Objects A → ℕ → ℕ
  word_in o a = cond (nat_le o.outline.start a && nat_lt a (o.outline.start + o.outline.words)) (image_view o.image.words.now (70 + (a - o.outline.start))) 0

  -- a is the header of a copied or of a new object
  abbrev pub object_in : Rules → Objects A → ℕ → Bool
  object_in L o a = heads_row L (word_in o) o.outline.words o.outline.start o.outline.copy_end a || heads_row L (word_in o) o.outline.words o.outline.new_start (o.outline.start + o.outline.words) a

  abbrev pub refers_in : Rules → Objects A → Value → Bool
  refers_in L o Nil = true
  refers_in L o (Number n) = true
  refers_in L o (Reference a) = object_in L o a

  -- of the value in slot i of an object at a with header x
  abbrev pub slot_refers : Rules → Objects A → ℕ → ℕ → ℕ → Bool
  slot_refers L o a x i = refers_in L o (L.unpacked x i (word_in o (a + suc i)))

  abbrev pub register_refers : Rules → Objects A → ℕ → Bool
  register_refers L o k = refers_in L o (register_in (image_view o.image.words.now) k)

  -- the copied words and the new words are whole objects in a row, and every reference in a slot or register is one's
  abbrev pub made_in : Rules → Objects A → Bool
  made_in L o =
      is_row L (word_in o) o.outline.words o.outline.start o.outline.copy_end
      && is_row L (word_in o) o.outline.words o.outline.new_start (o.outline.start + o.outline.words)
      && slots_pass L (word_in o) (refers_in L o) o.outline.words o.outline.start o.outline.copy_end
      && slots_pass L (word_in o) (refers_in L o) o.outline.words o.outline.new_start (o.outline.start + o.outline.words)
      && every_below 32 (register_refers L o)
