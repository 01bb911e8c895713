-- What a table host means.
use Rattle.std.specs.Prelude.{◌≡◌, ℕ, ◌*◌, ◌<◌, cond, vec_items, nat_lt, slice_index}
use Rattle.memory.specs.Memory.{Memory, word_at, extent, page_of}
use Rattle.memory.specs.declared.rights.Right.TheVariants.{None}
use Rattle.table_host.specs.Entries.{translate, table_frame, entry_right}
use Rattle.table_host.specs.declared.table.TableHost.{TableHost}

-- where the word at an address lies in the host's memory
abbrev pub translated : TableHost → ℕ → ℕ
translated h a = translate (table_frame h.entries) h.page_size a

-- each word from its page's frame, each right from its page's entry; outside, words are 0 and rights none
abbrev pub table_meaning : TableHost → Memory
table_meaning h = record {
  page_size = h.page_size;
  page_count = h.page_count;
  word = λ a. cond (nat_lt a (h.page_count * h.page_size)) (word_at (vec_items h.memory) (translated h a)) 0;
  right = λ p. cond (nat_lt p h.page_count) (entry_right (slice_index h.entries p)) None;
}

-- address a lies inside, on page p
abbrev pub OnPage : Memory → ℕ → ℕ → Type 0
OnPage m p a = (a < extent m) × (p ≡ page_of m a)
