-- What a check host means, and what making one gives.
use Rattle.std.specs.Prelude.{◌≡◌, ℕ, ◌*◌, ◌<◌, ◌≤◌, true, false, cond, Ok, Err, vec_items, vec_len, Result, Vec, nat_lt, slice_index_or}
use Rattle.memory.specs.Memory.{Memory, legal_sizes, word_at, fresh}
use Rattle.memory.specs.Rights.{allowing}
use Rattle.memory.specs.declared.refusals.Refusal.TheVariants.{Size, Short}
use Rattle.memory.specs.declared.refusals.Rejected.{Rejected}
use Rattle.memory.specs.declared.rights.Right.{Right}
use Rattle.memory.specs.declared.rights.Right.TheVariants.{None}
use Rattle.check_host.specs.declared.marks.CheckHost.{CheckHost}
use Rattle.check_host.specs.declared.marks.Marks.{Marks}
use Rattle.std.specs.declared.alloc.Global.{Global}

-- what the marks of a page allow
abbrev pub marked_right : Marks → Right
marked_right m = allowing m.readable m.writable

-- the marks of a page that allows nothing
abbrev pub unmarked : Marks
unmarked = record { readable = false; writable = false }

abbrev pub check_meaning : CheckHost → Memory
check_meaning h = record {
  page_size = h.page_size;
  page_count = h.page_count;
  word = λ a. cond (nat_lt a (h.page_count * h.page_size)) (word_at (vec_items h.memory) a) 0;
  right = λ p. cond (nat_lt p h.page_count) (marked_right (slice_index_or h.marks p unmarked)) None;
}

-- a host over the memory, or why there is none, with the memory handed back
abbrev pub Made : Vec ℕ Global → ℕ → ℕ → Result CheckHost (Rejected (Vec ℕ Global)) → Type 0
Made memory count size (Ok h) = (legal_sizes count size ≡ true) × (count * size ≤ vec_len memory) × (check_meaning h ≡ fresh count size (word_at (vec_items memory)))
Made memory count size (Err e) = (e.given ≡ memory) × (e.refusal ≡ cond (legal_sizes count size) Short Size) × (legal_sizes count size ≡ true → vec_len memory < count * size)
