-- The two parts of moving an object to the copy end: its words, and where the next goes.
use Rattle.std.specs.Prelude.{ℕ}
use Rattle.memory.specs.Memory.{Memory, after_set}
use Rattle.model.specs.Heap.{Space, plus}
use Rattle.model.specs.Forwarding.{copied, closed, crossed}

-- n words copied from a to e, the forwarding word in place of the header, the pages of the copy at none
abbrev pub words_moved : Memory → ℕ → ℕ → ℕ → Memory
words_moved m a e n = closed (after_set (copied n m a e) a (plus e e)) e n

abbrev pub with_crossing : Space → (ℕ → ℕ) → Space
with_crossing s f = record { copy_end = s.copy_end; crossing = f }

-- the copy end past n words, which are an object's
abbrev pub advanced : ℕ → Space → ℕ → Space
advanced size s n = record { copy_end = plus s.copy_end n; crossing = crossed size s.crossing s.copy_end n }
