-- How large a host is.
use Rattle.std.specs.Prelude.{◌≡◌, ℕ}
use Rattle.memory.specs.Memory.{Memory}

-- so many pages of so many words
abbrev pub HasSizes : Memory → ℕ → ℕ → Type 0
HasSizes m pages size = (m.page_count ≡ pages) × (m.page_size ≡ size)
