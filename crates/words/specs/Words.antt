-- Runs of words.
use Rattle.std.specs.Prelude.{ℕ, zero, suc}
use Rattle.memory.specs.Memory.{Memory, after_set}

-- the first n words 0
abbrev pub zeroed : ℕ → Memory → Memory
zeroed zero m = m
zeroed (suc n) m = after_set (zeroed n m) n 0
