-- The words of a page go to an image one by one.
use Rattle.std.specs.Prelude.{◌≡◌, ℕ, zero, suc, ◌+◌, ◌-◌, ◌<◌, Bool, true, false, cond, ◌&&◌, ◌||◌, Some, None, Option, nat_le, nat_lt}
use Rattle.memory.specs.Memory.{Memory, changed, after_unprot}
use Rattle.memory.specs.declared.rights.Right.TheVariants as Right
use Rattle.model.specs.Heap.{Heap as Model, half_words, to_start, with_memory, with_unsaved}
use Rattle.model.specs.Outcomes.{Machine}
use Rattle.model.specs.Images.{page_saved}
use Rattle.images.specs.declared.saving.Imaged.{Imaged}

-- the words of to-space that an image of the heap has
abbrev pub imaged_of : Model → Imaged
imaged_of h = record { start = to_start h; words = half_words h.memory; copy_end = h.space.copy_end; mark_start = h.mark_start }

-- an image has the word at a: it lies in to-space and was used
abbrev pub has_word : Imaged → ℕ → Bool
has_word i a = nat_le i.start a && nat_lt (a - i.start) i.words && (nat_lt a i.copy_end || nat_le i.mark_start a)

-- the word at a, if an image has it
abbrev pub HoldsWord : Memory → Imaged → ℕ → Option ℕ → Type 0
HoldsWord m i a (Some w) = (has_word i a ≡ true) × (w ≡ m.word a)
HoldsWord m i a None = has_word i a ≡ false

abbrev pub word_saved : Memory → Imaged → ℕ → (ℕ → ℕ) → ℕ → ℕ
word_saved m i a b = cond (has_word i a) (changed b (70 + (a - i.start)) (m.word a)) b

-- n words from a on
abbrev pub words_saved : ℕ → Memory → Imaged → ℕ → (ℕ → ℕ) → ℕ → ℕ
words_saved zero m i a b = b
words_saved (suc n) m i a b = word_saved m i (a + n) (words_saved n m i a b)

-- page p is saved, and may be written again
abbrev pub page_reopened : Model → ℕ → Model
page_reopened h p = with_unsaved (with_memory h (after_unprot h.memory p Right.All)) (changed h.unsaved p false)

-- the page is saved, if there is one
abbrev pub next_saved : Machine → Option ℕ → Machine
next_saved x None = x
next_saved x (Some p) = page_saved x p

abbrev pub is_none : Option ℕ → Bool
is_none None = true
is_none (Some p) = false

-- a page, if one is found, is one of 64
abbrev pub Few : Option ℕ → Type 0
Few None = Unit {0}
Few (Some p) = p < 64
