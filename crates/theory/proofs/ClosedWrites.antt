-- Words written on pages at all: the memory that is left.
use Rattle.std.proofs.Common.{◌≡◌, ℕ, zero, suc, ◌+◌, ◌-◌, ◌<◌, ◌≤◌, true, false, cond, ◌&&◌, eqb, ltb, leb, ◌≢◌, Ok, Err, Result, sym, refl, ap, ◌∙◌, inl, inr, arith}
use Rattle.std.proofs.lemmas.Bool.{cases_eq, eq-eqb, ne_eqb}
use Rattle.std.proofs.lemmas.Bool.Decides.{nat_tests}
use Rattle.memory.specs.Rights.{rank, may_read, may_write}
use Rattle.memory.specs.Memory.{Memory, changed, extent, page_of, inside, look_answer, put_answer, with_word, after_put}
use Rattle.memory.specs.declared.hosts.Denied.{Denied}
use Rattle.memory.specs.declared.hosts.Denied.TheVariants.{Fault}
use Rattle.memory.specs.declared.rights.Right.{Right}
use Rattle.memory.specs.declared.rights.Right.TheVariants.{None, Read, All}
use Rattle.memory.proofs.Memories.{same_memory, after_put_allowed}
use Rattle.layouts.specs.Layouts.{Rules}
use Rattle.model.specs.Objects.{packed_word, initial}
use Rattle.model.specs.Mutators.{slots_put, object_put}

-- Rights by their ranks

pub reads_as : (r : Right) → may_read r ≡ cond (eqb (rank r) 0) false true
reads_as None = refl
reads_as Read = refl
reads_as All = refl

pub writes_as : (r : Right) → may_write r ≡ eqb (rank r) 2
writes_as None = refl
writes_as Read = refl
writes_as All = refl

-- what LOOK and PUT answer inside
pub look_as : (m : Memory) (a : ℕ) → a < extent m → look_answer m a ≡ cond (eqb (rank (m.right (page_of m a))) 0) (Err (Fault (page_of m a))) (Ok (m.word a))
look_as m a l = rw (inside_true m a l) (by (m.right (page_of m a)))
  where
    inside_true : (m : Memory) (a : ℕ) → a < extent m → inside m a ≡ true
    inside_true m a l = grind (arith, nat_tests)

    by : (r : Right) → cond (may_read r) (Ok (m.word a)) (Err (Fault (page_of m a))) ≡ cond (eqb (rank r) 0) (Err (Fault (page_of m a))) (Ok (m.word a))
    by None = refl
    by Read = refl
    by All = refl

pub put_as : (m : Memory) (a : ℕ) → a < extent m → put_answer m a ≡ cond (eqb (rank (m.right (page_of m a))) 2) (Ok tt) (Err (Fault (page_of m a)))
put_as m a l = rw (inside_true m a l) (by (m.right (page_of m a)))
  where
    inside_true : (m : Memory) (a : ℕ) → a < extent m → inside m a ≡ true
    inside_true m a l = grind (arith, nat_tests)

    by : (r : Right) → ◌≡◌ {A = Result (Unit {0}) Denied} (cond (may_write r) (Ok tt) (Err (Fault (page_of m a)))) (cond (eqb (rank r) 2) (Ok tt) (Err (Fault (page_of m a))))
    by None = refl
    by Read = refl
    by All = refl

-- A new object

-- the words from a on, an object's header and its first n slots
abbrev pub with_object : Rules → Memory → ℕ → ℕ → ℕ → ℕ → Memory
with_object L m a x r n = record {
  page_size = m.page_size;
  page_count = m.page_count;
  word = λ y. cond (leb a y && ltb y (a + suc n)) (cond (eqb y a) x (packed_word L x (y - suc a) (initial r (y - suc a)))) (m.word y);
  right = m.right;
}

module _ (L : Rules) (m : Memory) (a r w : ℕ)
    (within : a + suc (r + w) ≤ extent m) (open_pages : (b : ℕ) → a ≤ b → b < a + suc (r + w) → may_write (m.right (page_of m b)) ≡ true) where
  abbrev x : ℕ
  x = L.header r w

  written : (b v : ℕ) → a ≤ b → b < a + suc (r + w) → (k : Memory) → k.page_size ≡ m.page_size → k.page_count ≡ m.page_count → k.right ≡ m.right → after_put k b v ≡ with_word k b v
  written b v l h k es ec er = after_put_allowed k b v (rw (es, ec) (omega arith)) (rw (es, er) (open_pages b l h))

  first : after_put m a x ≡ with_object L m a x r 0
  first = written a x (omega arith) (omega arith) m refl refl refl ∙ same_memory _ _ refl refl (λ y. at y) (λ p. refl)
    where
      at : (y : ℕ) → changed m.word a x y ≡ (with_object L m a x r 0).word y
      at y = elim (cases_eq y a) [
        | inl e ↦ rw (eq-eqb a y (sym e), eq-eqb y a e) (grind (arith, nat_tests))
        | inr ne ↦ rw (ne_eqb a y (λ e. ne (sym e)), ne_eqb y a ne) (grind (arith, nat_tests))
      ]

  next : (n : ℕ) → n < r + w → after_put (with_object L m a x r n) (a + suc n) (packed_word L x n (initial r n)) ≡ with_object L m a x r (suc n)
  next n l = written (a + suc n) (packed_word L x n (initial r n)) (omega arith) (omega arith) (with_object L m a x r n) refl refl refl ∙ same_memory _ _ refl refl (λ y. at y) (λ p. refl)
    where
      at : (y : ℕ) → changed (with_object L m a x r n).word (a + suc n) (packed_word L x n (initial r n)) y ≡ (with_object L m a x r (suc n)).word y
      at y = elim (cases_eq y (a + suc n)) [
        | inl e ↦ (
            let z : y - suc a ≡ n = omega arith in
            let ne : y ≢ a = omega arith in
            let i : (leb a y && ltb y (a + suc (suc n))) ≡ true = grind (arith, nat_tests) in
            rw (eq-eqb (a + suc n) y (sym e), ne_eqb y a ne, i, z))
        | inr ne ↦ (
            let i : (leb a y && ltb y (a + suc n)) ≡ (leb a y && ltb y (a + suc (suc n))) = grind (arith, nat_tests) in
            rw (ne_eqb (a + suc n) y (λ e. ne (sym e)), i))
      ]

  slots_written : (n : ℕ) → n ≤ r + w → slots_put L n (after_put m a x) x a r ≡ with_object L m a x r n
  slots_written zero l = first
  slots_written (suc n) l = ap (λ k. after_put k (a + suc n) (packed_word L x n (initial r n))) (slots_written n (omega arith)) ∙ next n (omega arith)

  pub object_written : object_put L m a r w ≡ with_object L m a x r (r + w)
  object_written = slots_written (r + w) (omega arith)
