-- What MARK does page by page and word by word.
use Rattle.std.specs.Prelude.{ℕ, zero, suc, ◌+◌, Bool, cond, nat_lt}
use Rattle.memory.specs.Memory.{Memory, after_prot1}
use Rattle.memory.specs.declared.rights.Right.TheVariants as Right

-- the pages that pass, among the n pages from p on, lowered to read
abbrev pub lowered : (ℕ → Bool) → ℕ → Memory → ℕ → Memory
lowered f zero m p = m
lowered f (suc n) m p = cond (f (p + n)) (after_prot1 (lowered f n m p) (p + n) Right.Read) (lowered f n m p)

-- the first n words those of f
abbrev pub fronted : ℕ → (ℕ → ℕ) → (ℕ → ℕ) → ℕ → ℕ
fronted n f b j = cond (nat_lt j n) (f j) (b j)
