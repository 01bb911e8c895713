-- Equal memories, and what a call makes of one where it is allowed.
use Rattle.std.proofs.Common.{◌≡◌, ℕ, ◌+◌, ◌-◌, ◌<◌, ◌≤◌, true, Ok, Err, refl, ap, ◌∙◌, arith}
use Rattle.std.proofs.lemmas.Bool.{cond-true, lt-ltb}
use Rattle.std.proofs.lemmas.Bool.Decides.{nat_tests}
use Rattle.std.proofs.lemmas.Nat.{mul-le}
use Rattle.memory.specs.Memory.{Memory, legal_sizes, extent, page_of, inside, look_answer, put_answer, see_answer, set_answer, with_word, with_right, lowered_run, after_put, after_set, after_prot1}
use Rattle.memory.specs.Rights.{lesser, may_read, may_write}
use Rattle.memory.specs.declared.hosts.Denied.{Denied}
use Rattle.memory.specs.declared.rights.Right.{Right}

pub same_memory : (m n : Memory) → m.page_size ≡ n.page_size → m.page_count ≡ n.page_count → ((a : ℕ) → m.word a ≡ n.word a) → ((p : ℕ) → m.right p ≡ n.right p) → m ≡ n
same_memory m n s p w r = λ i. record { page_size = s i; page_count = p i; word = λ a. w a i; right = λ q. r q i }

-- a run of pages lowered, one page more at a time
pub run_none : (m : Memory) (first : ℕ) (r : Right) → lowered_run m first 0 r ≡ m
run_none m first r = same_memory _ _ refl refl (λ a. refl) (λ q. grind (arith, nat_tests))

run_more : (m : Memory) (first n p : ℕ) (r : Right) → first + n ≡ p → with_right (lowered_run m first n r) p (lesser (m.right p) r) ≡ lowered_run m first (n + 1) r
run_more m first n p r e = same_memory _ _ refl refl (λ a. refl) (λ q. grind (arith, nat_tests))

-- a page that the run has not come to
run_right : (m : Memory) (first n p : ℕ) (r : Right) → first + n ≤ p → (lowered_run m first n r).right p ≡ m.right p
run_right m first n p r h = grind (arith, nat_tests)

-- the turn at page p of a loop that lowers the pages from first on
pub run_turn : (m n o : Memory) (first p : ℕ) (r : Right) → first ≤ p → p < m.page_count → n ≡ lowered_run m first (p - first) r → o ≡ after_prot1 n p r → o ≡ lowered_run m first (p + 1 - first) r
run_turn m n o first p r h lt inv did =
    let run : Memory = lowered_run m first (p - first) r in
    let e : first + (p - first) ≡ p = omega arith in
    let more : p - first + 1 ≡ p + 1 - first = omega arith in
    let allowed : after_prot1 run p r ≡ with_right run p (lesser (run.right p) r) = cond-true _ _ run (lt-ltb p m.page_count lt) in
    let at : run.right p ≡ m.right p = run_right m first (p - first) p r (omega arith) in
    did ∙ ap (λ x. after_prot1 x p r) inv ∙ allowed ∙ ap (λ x. with_right run p (lesser x r)) at ∙ run_more m first (p - first) p r e ∙ ap (λ k. lowered_run m first k r) more

-- a host has few words
pub extent_small : (m : Memory) → legal_sizes m.page_count m.page_size ≡ true → extent m ≤ 16384
extent_small m s = grind (arith, nat_tests, s, mul-le)

-- Answers and effects of calls that are allowed, and those of calls by their answers

pub see_inside : (m : Memory) (a : ℕ) → a < extent m → see_answer m a ≡ Ok (m.word a)
see_inside m a h = grind (arith, nat_tests)

pub set_inside : (m : Memory) (a : ℕ) → a < extent m → set_answer m a ≡ Ok tt
set_inside m a h = grind (arith, nat_tests)

pub after_set_inside : (m : Memory) (a w : ℕ) → a < extent m → after_set m a w ≡ with_word m a w
after_set_inside m a w h = cond-true (inside m a) (with_word m a w) m (lt-ltb a (extent m) h)

pub look_allowed : (m : Memory) (a : ℕ) → a < extent m → may_read (m.right (page_of m a)) ≡ true → look_answer m a ≡ Ok (m.word a)
look_allowed m a h r = grind (arith, nat_tests)

pub look_ok : (m : Memory) (a w : ℕ) → look_answer m a ≡ Ok w → w ≡ m.word a
look_ok m a w e = grind (arith, nat_tests)

pub put_allowed : (m : Memory) (a : ℕ) → a < extent m → may_write (m.right (page_of m a)) ≡ true → put_answer m a ≡ Ok tt
put_allowed m a h r = grind (arith, nat_tests)

pub after_put_allowed : (m : Memory) (a w : ℕ) → a < extent m → may_write (m.right (page_of m a)) ≡ true → after_put m a w ≡ with_word m a w
after_put_allowed m a w h r = cond-true _ _ m (lt-ltb a (extent m) h) ∙ cond-true _ _ m r

pub after_put_ok : (m : Memory) (a w : ℕ) → put_answer m a ≡ Ok tt → after_put m a w ≡ with_word m a w
after_put_ok m a w e = grind (arith, nat_tests)

pub after_put_err : (m : Memory) (a w : ℕ) (d : Denied) → put_answer m a ≡ Err d → after_put m a w ≡ m
after_put_err m a w d e = grind (arith, nat_tests)
