-- Where pages begin.
use Rattle.std.specs.Prelude.{ℕ, ◌*◌, cond, nat_lt}

-- the first word of each of 64 pages
abbrev pub starts_view : ℕ → ℕ → ℕ
starts_view size p = cond (nat_lt p 64) (p * size) 0
