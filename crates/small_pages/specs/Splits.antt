-- Splitting each page of a memory into small pages.
use Rattle.std.specs.Prelude.{◌≡◌, ℕ, zero, suc, ◌+◌, ◌*◌, ◌/◌, ◌<◌, Bool, false, cond, ◌&&◌, ◌||◌, List, ◌==◌, nat_lt, slice_index_or, Result, MatchResult}
use Rattle.memory.specs.Memory.{Memory, legal_sizes}
use Rattle.memory.specs.Rights.{lesser}
use Rattle.memory.specs.declared.refusals.Refusal.{Refusal}
use Rattle.memory.specs.declared.refusals.Refusal.TheVariants.{Size}
use Rattle.memory.specs.declared.rights.Right.{Right}
use Rattle.memory.specs.declared.rights.Right.TheVariants.{None, All}
use Rattle.small_pages.specs.declared.parts.Parts.{Parts}
use Rattle.small_pages.specs.declared.parts.Parts.TheVariants.{Two, Four, Eight}

-- how many small pages make up a page
abbrev pub number : Parts → ℕ
number Two = 2
number Four = 4
number Eight = 8

-- Sizes

-- k small pages out of each page of m have sizes that a host may have: at least 16 words, at most 64 pages
abbrev pub fits : Memory → ℕ → Bool
fits m k = legal_sizes (m.page_count * k) (m.page_size / k)

-- the divisors that a layer may be made with
abbrev pub legal_split : Memory → ℕ → Bool
legal_split m k = (k == 2 || k == 4 || k == 8) && fits m k

-- the parts that a number stands for, or a refusal where it stands for none
abbrev pub Divides : ℕ → Result Parts Refusal → Type 0
Divides k r = MatchResult r (λ parts. number parts ≡ k) (λ e. (e ≡ Size) × ((k == 2 || k == 4 || k == 8) ≡ false))

-- How many small pages each page of m makes. A layer whose small pages do not fit is never made; 1 only has to say
-- something there.
abbrev pub divisor : Memory → Parts → ℕ
divisor m parts = cond (fits m (number parts)) (number parts) 1

-- Memories

-- n pages at all
abbrev pub all_open : ℕ → ℕ → Right
all_open n p = cond (nat_lt p n) All None

-- m with every page at all
abbrev pub opened : Memory → Memory
opened m = record { page_size = m.page_size; page_count = m.page_count; word = m.word; right = all_open m.page_count }

-- k pages out of each page of m, every one at all: the same words at the same addresses
abbrev pub split : Memory → ℕ → Memory
split m k = record { page_size = m.page_size / k; page_count = m.page_count * k; word = m.word; right = all_open (m.page_count * k) }

-- k pages out of each page of m, with the listed rights
abbrev pub small_memory : Memory → ℕ → List Right → Memory
small_memory m k rights = record { page_size = m.page_size / k; page_count = m.page_count * k; word = m.word; right = λ p. cond (nat_lt p (m.page_count * k)) (slice_index_or rights p None) None }

-- Rights

-- the lowest of n rights from first on
abbrev pub lowest : (ℕ → Right) → ℕ → ℕ → Right
lowest right first zero = All
lowest right first (suc n) = lesser (lowest right first n) (right (first + n))

-- each page of m has the least right of its k small pages in n
abbrev pub LeastIn : Memory → Memory → ℕ → Type 0
LeastIn m n k = (p : ℕ) → p < m.page_count → m.right p ≡ lowest n.right (p * k) k
