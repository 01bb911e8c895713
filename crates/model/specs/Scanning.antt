-- Scanning a page: each reference in a slot becomes that to the forwarded object.
use Rattle.std.specs.Prelude.{ℕ, zero, suc, ◌+◌, ◌-◌, ◌*◌, min, Bool, cond, ◌&&◌, Some, None, Option, ◌==◌, nat_le, nat_lt}
use Rattle.memory.specs.Memory.{Memory, after_set, after_unprot}
use Rattle.memory.specs.declared.rights.Right.TheVariants as Right
use Rattle.layouts.specs.Layouts.{Rules}
use Rattle.layouts.specs.declared.values.Value.{Value}
use Rattle.layouts.specs.declared.values.Value.TheVariants.{Nil, Number, Reference}
use Rattle.model.specs.Heap.{Moving, Heap, moving, with_moving, with_memory, with_unscanned, to_page, half_pages}
use Rattle.model.specs.Objects.{object_words, packed_word}
use Rattle.model.specs.Forwarding.{forwarded, new_address}

-- slot i of the object with header x, at address a, that holds v
abbrev pub slot_scanned : Rules → Moving → ℕ → ℕ → ℕ → Value → Moving
slot_scanned L s x i a Nil = s
slot_scanned L s x i a (Number n) = s
slot_scanned L s x i a (Reference b) = record { memory = after_set (forwarded L s b).memory a (packed_word L x i (Reference (new_address s b))); space = (forwarded L s b).space }

-- the word at a, its object's header lying at head; a header stays
abbrev pub word_scanned : Rules → Moving → ℕ → ℕ → Moving
word_scanned L s head a = cond (a == head) s (slot_scanned L s (s.memory.word head) (a - head - 1) a (L.unpacked (s.memory.word head) (a - head - 1) (s.memory.word a)))

-- where the header of the object with the word at a lies, head being that of the word before, or of this one
abbrev pub head_at : Rules → Memory → ℕ → ℕ → ℕ
head_at L m head a = cond (a - head == object_words L (m.word head)) a head

-- the words from a on, up to stop or the copy end, read afresh each time, at most n of them; and where that ends
unfoldable pub run_scanned : Rules → ℕ → ℕ → Moving → ℕ → ℕ → Moving × ℕ
run_scanned L zero stop s head a = (s, a)
run_scanned L (suc n) stop s head a = cond (nat_lt a stop && nat_lt a s.space.copy_end) (run_scanned L n stop (word_scanned L s (head_at L s.memory head a) a) (head_at L s.memory head a) (suc a)) (s, a)

-- the first and the last word of a page, the latter not in it
abbrev pub page_start : Memory → ℕ → ℕ
page_start m p = p * m.page_size

abbrev pub page_stop : Memory → ℕ → ℕ
page_stop m p = p * m.page_size + m.page_size

-- where the object with the first unscanned word of a page begins: in the crossing map, or there
abbrev pub scan_head : Heap → ℕ → ℕ
scan_head h p = cond (h.unscanned p == page_start h.memory p) (h.space.crossing p) (h.unscanned p)

abbrev pub page_run : Rules → Heap → ℕ → Moving × ℕ
page_run L h p = run_scanned L (page_stop h.memory p - h.unscanned p) (page_stop h.memory p) (moving h) (scan_head h p) (h.unscanned p)

-- the page scanned, and then at all
abbrev pub page_left : Heap → ℕ → Moving × ℕ → Heap
page_left h p x = with_memory (with_unscanned (with_moving h x.0) p x.1) (after_unprot x.0.memory p Right.All)

abbrev pub page_scanned : Rules → Heap → ℕ → Heap
page_scanned L h p = page_left h p (page_run L h p)

-- the words scanned and the words copied
abbrev pub page_counts : Rules → Heap → ℕ → ℕ × ℕ
page_counts L h p = ((page_run L h p).1 - h.unscanned p, (page_run L h p).0.space.copy_end - h.space.copy_end)

-- Which page is next

-- page p of to-space has an unscanned word
abbrev pub has_unscanned : Heap → ℕ → Bool
has_unscanned h p = nat_lt p 64 && nat_le (to_page h) p && nat_lt (h.unscanned p) (min (page_stop h.memory p) h.space.copy_end)

-- the lowest of n numbers from p on that passes
unfoldable pub lowest : ℕ → ℕ → (ℕ → Bool) → Option ℕ
lowest zero p f = None
lowest (suc n) p f = cond (f p) (Some p) (lowest n (suc p) f)

abbrev pub lowest_unscanned : Heap → Option ℕ
lowest_unscanned h = lowest (half_pages h.memory) (to_page h) (has_unscanned h)
