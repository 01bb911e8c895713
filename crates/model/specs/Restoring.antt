-- RESTORE: when an image is refused, and the heap that it makes of one on a host.
use Rattle.std.specs.Prelude.{ℕ, zero, suc, ◌+◌, ◌-◌, ◌*◌, ◌%◌, Bool, true, false, cond, not, ◌&&◌, ◌||◌, Option, ◌==◌, nat_le, nat_lt}
use Rattle.memory.specs.Memory.{Memory}
use Rattle.memory.specs.declared.refusals.Refusal.{Refusal}
use Rattle.memory.specs.declared.refusals.Refusal.TheVariants.{Size, Short, OtherImage, BadImage}
use Rattle.memory.specs.declared.rights.Right.TheVariants as Right
use Rattle.layouts.specs.Layouts.{Rules}
use Rattle.layouts.specs.declared.values.Value.{Value}
use Rattle.layouts.specs.declared.values.Value.TheVariants.{Nil, Number, Reference}
use Rattle.model.specs.declared.states.Half.{Half}
use Rattle.model.specs.declared.states.Half.TheVariants.{Lower, Upper}
use Rattle.model.specs.declared.states.Phase.TheVariants.{Idle}
use Rattle.model.specs.declared.states.State.TheVariants.{Running}
use Rattle.model.specs.Heap.{Heap, half_pages, half_words, first_page, first_word}
use Rattle.model.specs.Objects.{slot_count, object_words, is_header}
use Rattle.model.specs.Refusing.{refuse_if}
use Rattle.model.specs.Images.{image_words}

-- every number below n passes
unfoldable pub every_below : ℕ → (ℕ → Bool) → Bool
every_below zero f = true
every_below (suc n) f = every_below n f && f n

-- Rows of objects. word a is the word at a; a row goes from a up to stop, with at most n objects.

-- the words are whole objects in a row
abbrev pub is_row : Rules → (ℕ → ℕ) → ℕ → ℕ → ℕ → Bool
is_row L word zero a stop = a == stop
is_row L word (suc n) a stop = cond (a == stop) true (is_header L (word a) && nat_le (a + object_words L (word a)) stop && is_row L word n (a + object_words L (word a)) stop)

-- x is the address of a header in the row
abbrev pub heads_row : Rules → (ℕ → ℕ) → ℕ → ℕ → ℕ → ℕ → Bool
heads_row L word zero a stop x = false
heads_row L word (suc n) a stop x = nat_lt a stop && (x == a || heads_row L word n (a + object_words L (word a)) stop x)

-- every value in a slot of the row passes
abbrev pub slots_pass : Rules → (ℕ → ℕ) → (Value → Bool) → ℕ → ℕ → ℕ → Bool
slots_pass L word ok zero a stop = true
slots_pass L word ok (suc n) a stop = cond (nat_lt a stop) (every_below (slot_count L (word a)) (λ i. ok (L.unpacked (word a) i (word (a + suc i)))) && slots_pass L word ok n (a + object_words L (word a)) stop) true

-- The heap of an image b

abbrev pub half_of : ℕ → Half
half_of zero = Lower
half_of (suc n) = Upper

-- a register by its kind and its payload
abbrev pub register_of : ℕ → ℕ → Value
register_of kind pay = cond (kind == 0) Nil (cond (kind == 1) (Number pay) (Reference pay))

-- the used words as in the image, every other word 0; to-space at all, from-space at none
abbrev pub restored_memory : Memory → (ℕ → ℕ) → Memory
restored_memory m b = record {
  page_size = m.page_size;
  page_count = m.page_count;
  word = λ a. cond (nat_le (first_word m (half_of (b 3))) a && nat_lt a (first_word m (half_of (b 3)) + half_words m)) (b (70 + (a - first_word m (half_of (b 3))))) 0;
  right = λ p. cond (nat_le (first_page m (half_of (b 3))) p && nat_lt p (first_page m (half_of (b 3)) + half_pages m)) Right.All Right.None;
}

abbrev pub restored : Memory → (ℕ → ℕ) → Heap
restored m b = record {
  memory = restored_memory m b;
  space = record { copy_end = first_word m (half_of (b 3)) + b 4; crossing = λ p. 0 };
  half = half_of (b 3);
  new_start = first_word m (half_of (b 3)) + half_words m - b 5;
  unscanned = λ p. 0;
  flip_used = 0;
  unsaved = λ p. false;
  mark_start = 0;
  register = λ k. cond (nat_lt k 32) (register_of (b (6 + 2 * k)) (b (7 + 2 * k))) Nil;
  state = λ m. Running;
  phase = Idle;
  traps = 0;
}

-- What an image must be

-- kind at most 2, and nil without a payload
abbrev pub register_fits : (ℕ → ℕ) → ℕ → Bool
register_fits b k = nat_le (b (6 + 2 * k)) 2 && (not (b (6 + 2 * k) == 0) || b (7 + 2 * k) == 0)

-- word j of to-space is used, or 0
abbrev pub unused_is_0 : Memory → (ℕ → ℕ) → ℕ → Bool
unused_is_0 m b j = nat_lt j (b 4) || nat_le (half_words m - b 5) j || b (70 + j) == 0

-- half 0 or 1, the copied and the new words fit, registers and unused words are as they must be
abbrev pub is_written_well : Memory → (ℕ → ℕ) → Bool
is_written_well m b = nat_le (b 3) 1 && nat_le (b 4 + b 5) (half_words m) && every_below 32 (register_fits b) && every_below (half_words m) (unused_is_0 m b)

-- a is the header of a copied or of a new object
abbrev pub is_object : Rules → Heap → ℕ → Bool
is_object L h a =
    heads_row L h.memory.word (half_words h.memory) (first_word h.memory h.half) h.space.copy_end a
    || heads_row L h.memory.word (half_words h.memory) h.new_start (first_word h.memory h.half + half_words h.memory) a

abbrev pub refers_well : Rules → Heap → Value → Bool
refers_well L h Nil = true
refers_well L h (Number n) = true
refers_well L h (Reference a) = is_object L h a

-- the copied words and the new words are whole objects in a row, and every reference in a slot or register is one's
abbrev pub is_made_of_objects : Rules → Heap → Bool
is_made_of_objects L h =
    is_row L h.memory.word (half_words h.memory) (first_word h.memory h.half) h.space.copy_end
    && is_row L h.memory.word (half_words h.memory) h.new_start (first_word h.memory h.half + half_words h.memory)
    && slots_pass L h.memory.word (refers_well L h) (half_words h.memory) (first_word h.memory h.half) h.space.copy_end
    && slots_pass L h.memory.word (refers_well L h) (half_words h.memory) h.new_start (first_word h.memory h.half + half_words h.memory)
    && every_below 32 (λ k. refers_well L h (h.register k))

-- words 0 to 2 are those of a sealed image of this size and layout
abbrev pub is_of_this : Rules → Memory → (ℕ → ℕ) → Bool
is_of_this L m b = b 0 == m.page_size && b 1 == half_pages m && b 2 == L.number

-- why RESTORE refuses the first n words of b on a host, if it does
abbrev pub restore_refusal : Rules → Memory → ℕ → (ℕ → ℕ) → Option Refusal
restore_refusal L m n b =
    refuse_if (m.page_count % 2 == 1) Size
    (refuse_if (nat_lt n (image_words m)) Short
    (refuse_if (not (b 0 == 0) && not (is_of_this L m b)) OtherImage
    (refuse_if (b 0 == 0 || not (is_written_well m b && is_made_of_objects L (restored m b))) BadImage Option.None)))
