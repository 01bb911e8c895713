-- What FLIP and STEP do, where they are not refused.
use Rattle.std.specs.Prelude.{ℕ, zero, suc, ◌+◌, ◌-◌, ◌*◌, true, false, cond, Some, None, Option, nat_lt}
use Rattle.memory.specs.Memory.{Memory, after_protn, after_unprot}
use Rattle.memory.specs.declared.rights.Right.TheVariants as Right
use Rattle.layouts.specs.Layouts.{Rules}
use Rattle.model.specs.declared.calls.Answer.TheVariants as Answer
use Rattle.model.specs.declared.states.Phase.TheVariants.{Idle, Collecting}
use Rattle.model.specs.Heap.{Heap, plus, other_half, half_pages, half_words, first_page, first_word, to_page, copied_words, new_words, whole_pages, moving, with_memory, with_moving, with_phase, with_registers}
use Rattle.model.specs.Forwarding.{Roots, roots_forwarded}
use Rattle.model.specs.Scanning.{page_scanned, page_counts, lowest_unscanned}
use Rattle.model.specs.Outcomes.{Outcome, outcome}

-- n pages from p on at all
abbrev pub opened : ℕ → Memory → ℕ → Memory
opened zero m p = m
opened (suc n) m p = after_unprot (opened n m p) (p + n) Right.All

-- FLIP

-- the words in use: those of copied and of new objects
abbrev pub words_used : Heap → ℕ
words_used h = plus (copied_words h) (new_words h)

-- the old to-space and the first n pages of the new one at none, the rest of the new one at all
abbrev pub flipped_memory : Memory → ℕ → ℕ → ℕ → Memory
flipped_memory m old new n = opened (half_pages m - n) (after_protn (after_protn m old (half_pages m) Right.None) new n Right.None) (new + n)

-- the halves swapped, nothing forwarded yet
abbrev pub swapped : Heap → Heap
swapped h = record {
  memory = flipped_memory h.memory (to_page h) (first_page h.memory (other_half h.half)) (whole_pages h.memory (words_used h));
  space = record { copy_end = first_word h.memory (other_half h.half); crossing = h.space.crossing };
  half = other_half h.half;
  new_start = first_word h.memory (other_half h.half) + half_words h.memory;
  unscanned = λ p. cond (nat_lt p 64) (p * h.memory.page_size) 0;
  flip_used = words_used h;
  unsaved = h.unsaved;
  mark_start = h.mark_start;
  register = h.register;
  state = h.state;
  phase = Collecting;
  traps = h.traps;
}

-- the references in the registers forwarded, mutator by mutator, register by register
abbrev pub with_roots : Heap → Roots → Heap
with_roots h x = with_registers (with_moving h x.moving) x.register

abbrev pub roots_of : Heap → Roots
roots_of h = record { moving = moving h; register = h.register }

abbrev pub flipped : Rules → Heap → Heap
flipped L h = with_roots (swapped h) (roots_forwarded L (roots_of (swapped h)) 32)

abbrev pub flip : Rules → Heap → Outcome Heap
flip L h = outcome (flipped L h) (Answer.Copied ((flipped L h).space.copy_end - (swapped h).space.copy_end))

-- STEP

-- to-space at all, and the collection over
abbrev pub finished : Heap → Heap
finished h = with_phase (with_memory h (opened (half_pages h.memory) h.memory (to_page h))) Idle

-- after a scan, whether a page with unscanned words is left decides
abbrev pub step_left : Heap → ℕ × ℕ → Option ℕ → Outcome Heap
step_left h counts None = outcome (finished h) (Answer.Stepped true counts.0 counts.1)
step_left h counts (Some p) = outcome h (Answer.Stepped false counts.0 counts.1)

abbrev pub step_on : Rules → Heap → Option ℕ → Outcome Heap
step_on L h None = step_left h (0, 0) None
step_on L h (Some p) = step_left (page_scanned L h p) (page_counts L h p) (lowest_unscanned (page_scanned L h p))

abbrev pub step : Rules → Heap → Outcome Heap
step L h = step_on L h (lowest_unscanned h)
