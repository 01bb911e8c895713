-- What a paged host means: its sizes, its words and its rights, and what each call answers and leaves.
use Rattle.std.specs.Prelude.{ℕ, ◌+◌, ◌*◌, ◌/◌, ◌%◌, ◌^◌, Bool, true, cond, ◌&&◌, ◌||◌, List, Ok, Err, Result, ◌==◌, nat_le, nat_lt, slice_index}
use Rattle.memory.specs.Rights.{lesser, greater, may_read, may_write}
use Rattle.memory.specs.declared.hosts.Denied.{Denied}
use Rattle.memory.specs.declared.hosts.Denied.TheVariants.{Refused, Fault}
use Rattle.memory.specs.declared.refusals.Refusal.{Refusal}
use Rattle.memory.specs.declared.refusals.Refusal.TheVariants.{Outside}
use Rattle.memory.specs.declared.rights.Right.{Right}
use Rattle.memory.specs.declared.rights.Right.TheVariants.{None, All}

-- the word at every address and the right of every page, in pages of one size
pub record Memory : Type 0 where
  pub page_size : ℕ
  pub page_count : ℕ
  pub word : ℕ → ℕ
  pub right : ℕ → Right

-- Sizes

abbrev pub legal_page_size : ℕ → Bool
legal_page_size n = n == 16 || n == 32 || n == 64 || n == 128 || n == 256

-- sizes that a host may have: 1 to 64 pages
abbrev pub legal_sizes : ℕ → ℕ → Bool
legal_sizes count size = legal_page_size size && nat_le 1 count && nat_le count 64

-- how many words there are
abbrev pub extent : Memory → ℕ
extent m = m.page_count * m.page_size

-- the page of an address
abbrev pub page_of : Memory → ℕ → ℕ
page_of m a = a / m.page_size

abbrev pub inside : Memory → ℕ → Bool
inside m a = nat_lt a (extent m)

-- the page of an address, if that lies inside
abbrev pub page_found : Memory → ℕ → Result ℕ Refusal
page_found m a = cond (inside m a) (Ok (page_of m a)) (Err Outside)

-- a run of count pages from first on lies inside, or is empty
abbrev pub run_inside : Memory → ℕ → ℕ → Bool
run_inside m first count = cond (count == 0) true (nat_le (first + count) m.page_count)

-- Changes

-- a function changed at one place
abbrev pub changed : {A : Type 0} → (ℕ → A) → ℕ → A → ℕ → A
changed f a x b = cond (a == b) x (f b)

abbrev pub with_word : Memory → ℕ → ℕ → Memory
with_word m a w = record { page_size = m.page_size; page_count = m.page_count; word = changed m.word a w; right = m.right }

abbrev pub with_right : Memory → ℕ → Right → Memory
with_right m p r = record { page_size = m.page_size; page_count = m.page_count; word = m.word; right = changed m.right p r }

-- the pages of a run lowered
abbrev pub lowered_run : Memory → ℕ → ℕ → Right → Memory
lowered_run m first count r = record { page_size = m.page_size; page_count = m.page_count; word = m.word; right = λ q. cond (nat_le first q && nat_lt q (first + count)) (lesser (m.right q) r) (m.right q) }

-- Answers

abbrev pub look_answer : Memory → ℕ → Result ℕ Denied
look_answer m a = cond (inside m a) (cond (may_read (m.right (page_of m a))) (Ok (m.word a)) (Err (Fault (page_of m a)))) (Err (Refused Outside))

abbrev pub put_answer : Memory → ℕ → Result (Unit {0}) Denied
put_answer m a = cond (inside m a) (cond (may_write (m.right (page_of m a))) (Ok tt) (Err (Fault (page_of m a)))) (Err (Refused Outside))

abbrev pub see_answer : Memory → ℕ → Result ℕ Refusal
see_answer m a = cond (inside m a) (Ok (m.word a)) (Err Outside)

abbrev pub set_answer : Memory → ℕ → Result (Unit {0}) Refusal
set_answer m a = cond (inside m a) (Ok tt) (Err Outside)

-- of a call on page p
abbrev pub page_answer : Memory → ℕ → Result (Unit {0}) Refusal
page_answer m p = cond (nat_lt p m.page_count) (Ok tt) (Err Outside)

-- of a call on a run of pages
abbrev pub run_answer : Memory → ℕ → ℕ → Result (Unit {0}) Refusal
run_answer m first count = cond (run_inside m first count) (Ok tt) (Err Outside)

-- What is left. LOOK and SEE leave all as it was.

abbrev pub after_put : Memory → ℕ → ℕ → Memory
after_put m a w = cond (inside m a) (cond (may_write (m.right (page_of m a))) (with_word m a w) m) m

abbrev pub after_set : Memory → ℕ → ℕ → Memory
after_set m a w = cond (inside m a) (with_word m a w) m

abbrev pub after_prot1 : Memory → ℕ → Right → Memory
after_prot1 m p r = cond (nat_lt p m.page_count) (with_right m p (lesser (m.right p) r)) m

abbrev pub after_protn : Memory → ℕ → ℕ → Right → Memory
after_protn m first count r = cond (run_inside m first count) (lowered_run m first count r) m

abbrev pub after_unprot : Memory → ℕ → Right → Memory
after_unprot m p r = cond (nat_lt p m.page_count) (with_right m p (greater (m.right p) r)) m

-- A fresh host

-- word a of a list of 32-bit words, 0 past its end; the remainder leaves such a word as it is
abbrev pub word_at : List ℕ → ℕ → ℕ
word_at xs a = slice_index xs a % 2 ^ 32

-- count pages of size words, the words read by f, every page at all
abbrev pub fresh : ℕ → ℕ → (ℕ → ℕ) → Memory
fresh count size f = record { page_size = size; page_count = count; word = λ a. cond (nat_lt a (count * size)) (f a) 0; right = λ p. cond (nat_lt p count) All None }
