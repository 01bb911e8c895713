-- The image of a heap: what MARK and SAVE do and write, where they are not refused.
use Rattle.std.specs.Prelude.{ℕ, zero, suc, ◌+◌, ◌-◌, ◌/◌, ◌%◌, Bool, true, false, cond, ◌&&◌, ◌||◌, Some, None, Option, ◌==◌, nat_le, nat_lt}
use Rattle.memory.specs.Memory.{Memory, changed, after_prot1, after_unprot}
use Rattle.memory.specs.declared.rights.Right.TheVariants as Right
use Rattle.layouts.specs.Layouts.{Rules}
use Rattle.layouts.specs.declared.values.Value.{Value}
use Rattle.layouts.specs.declared.values.Value.TheVariants.{Nil, Number, Reference}
use Rattle.model.specs.declared.calls.Answer.TheVariants as Answer
use Rattle.model.specs.declared.states.Phase.TheVariants.{Idle, Imaging}
use Rattle.model.specs.Heap.{Heap, half_number, half_pages, half_words, to_page, to_start, copied_words, new_words, with_memory, with_unsaved, with_phase, with_mark_start}
use Rattle.model.specs.Scanning.{page_start, page_stop, lowest}
use Rattle.model.specs.Outcomes.{Machine, Outcome, outcome, done}

-- the words that an image takes
abbrev pub image_words : Memory → ℕ
image_words m = 70 + half_words m

-- A register's two words

abbrev pub kind_number : Value → ℕ
kind_number Nil = 0
kind_number (Number n) = 1
kind_number (Reference a) = 2

abbrev pub payload : Value → ℕ
payload Nil = 0
payload (Number n) = n
payload (Reference a) = a

abbrev pub register_word : Value → ℕ → ℕ
register_word v j = cond (j % 2 == 0) (kind_number v) (payload v)

-- words 0 to 69 of an image that is not sealed: 0; the pages of a half; the layout's number; the half; the copied words;
-- the new words; the registers, two words each
abbrev pub preamble : Rules → Heap → ℕ → ℕ
preamble L h j =
    cond (j == 1) (half_pages h.memory)
    (cond (j == 2) L.number
    (cond (j == 3) (half_number h.half)
    (cond (j == 4) (copied_words h)
    (cond (j == 5) (new_words h)
    (cond (nat_le 6 j && nat_lt j 70) (register_word (h.register ((j - 6) / 2)) j) 0)))))

-- the address of the word of to-space that word j of an image is for
abbrev pub imaged_address : Heap → ℕ → ℕ
imaged_address h j = to_start h + (j - 70)

-- MARK

-- a page of to-space with a used word
abbrev pub is_used_page : Heap → ℕ → Bool
is_used_page h p = nat_le (to_page h) p && nat_lt p (to_page h + half_pages h.memory) && (nat_lt (page_start h.memory p) h.space.copy_end || nat_lt h.new_start (page_stop h.memory p))

-- the used pages among the n pages from p on lowered to read
abbrev pub used_lowered : Heap → ℕ → Memory → ℕ → Memory
used_lowered h zero m p = m
used_lowered h (suc n) m p = cond (is_used_page h (p + n)) (after_prot1 (used_lowered h n m p) (p + n) Right.Read) (used_lowered h n m p)

abbrev pub marked : Heap → Heap
marked h = with_phase (with_mark_start (with_unsaved (with_memory h (used_lowered h (half_pages h.memory) h.memory (to_page h))) (is_used_page h)) h.new_start) Imaging

abbrev pub marked_buffer : Rules → Heap → (ℕ → ℕ) → ℕ → ℕ
marked_buffer L h b j = cond (nat_lt j (image_words h.memory)) (preamble L h j) (b j)

abbrev pub mark : Rules → Machine → Outcome Machine
mark L x = done (record { heap = marked x.heap; buffer = marked_buffer L x.heap x.buffer })

-- SAVE

-- the word at an address of to-space was used at MARK
abbrev pub was_used : Heap → ℕ → Bool
was_used h a = nat_lt a h.space.copy_end || nat_le h.mark_start a

-- word j of an image is for a word on page p that was used at MARK
abbrev pub saves_word : Heap → ℕ → ℕ → Bool
saves_word h p j = nat_le 70 j && nat_lt j (image_words h.memory) && imaged_address h j / h.memory.page_size == p && was_used h (imaged_address h j)

abbrev pub saved_buffer : Heap → ℕ → (ℕ → ℕ) → ℕ → ℕ
saved_buffer h p b j = cond (saves_word h p j) (h.memory.word (imaged_address h j)) (b j)

-- page p saved: its words that were used at MARK copied, and the page at all
abbrev pub page_saved : Machine → ℕ → Machine
page_saved x p = record {
  heap = with_unsaved (with_memory x.heap (after_unprot x.heap.memory p Right.All)) (changed x.heap.unsaved p false);
  buffer = saved_buffer x.heap p x.buffer;
}

abbrev pub lowest_unsaved : Heap → Option ℕ
lowest_unsaved h = lowest (half_pages h.memory) (to_page h) h.unsaved

-- word 0 is the page size: the image is sealed
abbrev pub image_sealed : Machine → Machine
image_sealed x = record { heap = with_phase x.heap Idle; buffer = changed x.buffer 0 x.heap.memory.page_size }

abbrev pub save_left : Machine → Option ℕ → Outcome Machine
save_left x None = outcome (image_sealed x) (Answer.Saved true)
save_left x (Some p) = outcome x (Answer.Saved false)

abbrev pub save_on : Machine → Option ℕ → Outcome Machine
save_on x None = save_left x None
save_on x (Some p) = save_left (page_saved x p) (lowest_unsaved (page_saved x p).heap)

abbrev pub save : Machine → Outcome Machine
save x = save_on x (lowest_unsaved x.heap)
