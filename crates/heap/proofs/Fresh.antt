-- A heap as MAKE leaves it.
use Rattle.std.proofs.Common.{◌≡◌, ℕ, zero, suc, ◌+◌, ◌/◌, ◌%◌, ◌≤◌, cond, ltb, get_or, replicate, refl, ap, ◌∙◌, inl, inr, arith}
use Rattle.std.proofs.lemmas.Bool.{cases_lt, cond-true, lt-ltb}
use Rattle.std.proofs.lemmas.Bool.Decides.{nat_tests}
use Rattle.std.proofs.lemmas.List.{get_or-replicate}
use Rattle.memory.proofs.Memories.{same_memory, after_set_inside}
use Rattle.memory.specs.Memory.{Memory, extent, with_right, lowered_run, after_set, after_protn, after_unprot}
use Rattle.memory.specs.Rights.{lesser, greater}
use Rattle.memory.specs.declared.rights.Right.{Right}
use Rattle.memory.specs.declared.rights.Right.TheVariants.{None, Read, All}
use Rattle.layouts.specs.declared.values.Value.{Value}
use Rattle.words.specs.Words.{zeroed}
use Rattle.model.specs.Heap.{half_pages}
use Rattle.model.specs.Collecting.{opened}
use Rattle.model.specs.Calls.{fresh_memory}
use Rattle.model.specs.declared.states.State.TheVariants.{Running}
use Rattle.heap.specs.Making.{cleared}
use Rattle.state.proofs.Blank.{past, blank_at}
use Rattle.state.specs.View.{held_value, no_such, register_view, state_view}
use Rattle.state.specs.declared.mutators.Held.TheVariants.{Nil}
use Rattle.state.specs.declared.mutators.Mutator.{Mutator}

-- Tables

abbrev pub fresh_mutator : Mutator
fresh_mutator = record { registers = replicate 8 Nil; state = Running }

pub registers_nil : (k : ℕ) → register_view (replicate 4 fresh_mutator) k ≡ Value.Nil
registers_nil k =
    elim (cases_lt (k / 8) 4) [
      | inl h ↦ ap (λ x. held_value (get_or x.registers (k % 8) Nil)) (get_or-replicate 4 (k / 8) fresh_mutator no_such h) ∙ ap held_value (blank_at 8 (k % 8) Nil)
      | inr h ↦ ap (λ x. held_value (get_or x.registers (k % 8) Nil)) (past 4 (k / 8) fresh_mutator no_such h)
    ]

pub states_running : (q : ℕ) → state_view (replicate 4 fresh_mutator) q ≡ Running
states_running q =
    elim (cases_lt q 4) [
      | inl h ↦ ap (λ x. x.state) (get_or-replicate 4 q fresh_mutator no_such h)
      | inr h ↦ ap (λ x. x.state) (past 4 q fresh_mutator no_such h)
    ]

-- Memory

-- the first n words 0
abbrev words_zero : ℕ → Memory → Memory
words_zero n m = record { page_size = m.page_size; page_count = m.page_count; word = λ a. cond (ltb a n) 0 (m.word a); right = m.right }

zeroed_is : (n : ℕ) (m : Memory) → n ≤ extent m → zeroed n m ≡ words_zero n m
zeroed_is zero m h = same_memory _ _ refl refl (λ a. grind (arith, nat_tests)) (λ p. refl)
zeroed_is (suc n) m h =
    ap (λ x. after_set x n 0) (zeroed_is n m (omega arith))
    ∙ after_set_inside (words_zero n m) n 0 (omega arith)
    ∙ same_memory _ _ refl refl (λ a. grind (arith, nat_tests)) (λ p. refl)

-- the first n pages at all
abbrev pages_open : ℕ → Memory → Memory
pages_open n m = record { page_size = m.page_size; page_count = m.page_count; word = m.word; right = λ p. cond (ltb p n) All (m.right p) }

greater_all : (r : Right) → greater r All ≡ All
greater_all None = refl
greater_all Read = refl
greater_all All = refl

opened_is : (n : ℕ) (m : Memory) → n ≤ m.page_count → opened n m 0 ≡ pages_open n m
opened_is zero m h = same_memory _ _ refl refl (λ a. refl) (λ p. grind (arith, nat_tests))
opened_is (suc n) m h =
    let here : 0 + n ≡ n = omega arith in
    let inside : after_unprot (pages_open n m) n All ≡ with_right (pages_open n m) n (greater ((pages_open n m).right n) All) = cond-true _ _ (pages_open n m) (lt-ltb n m.page_count (omega arith)) in
    (λ i. after_unprot (opened_is n m (omega arith) i) (here i) All)
    ∙ inside
    ∙ ap (with_right (pages_open n m) n) (greater_all ((pages_open n m).right n))
    ∙ same_memory _ _ refl refl (λ a. refl) (λ p. grind (arith, nat_tests))

lesser_none : (r : Right) → lesser r None ≡ None
lesser_none None = refl
lesser_none Read = refl
lesser_none All = refl

module _ (m : Memory) (even : m.page_count % 2 ≡ 0) (blank : (a : ℕ) → extent m ≤ a → m.word a ≡ 0) (shut : (p : ℕ) → m.page_count ≤ p → m.right p ≡ None) where
  both : half_pages m + half_pages m ≡ m.page_count
  both = omega arith

  lowered : after_protn (pages_open (half_pages m) (words_zero (extent m) m)) (half_pages m) (half_pages m) None ≡ lowered_run (pages_open (half_pages m) (words_zero (extent m) m)) (half_pages m) (half_pages m) None
  lowered = let fit = both in cond-true _ _ (pages_open (half_pages m) (words_zero (extent m) m)) (grind (arith, nat_tests))

  word_is : (a : ℕ) → cond (ltb a (extent m)) 0 (m.word a) ≡ 0
  word_is a = elim (cases_lt a (extent m)) [ inl h ↦ cond-true _ 0 _ (lt-ltb a (extent m) h) | inr h ↦ let z = blank a h in grind (arith, nat_tests) ]

  right_is : (p : ℕ) → (lowered_run (pages_open (half_pages m) (words_zero (extent m) m)) (half_pages m) (half_pages m) None).right p ≡ cond (ltb p (half_pages m)) All None
  right_is p =
      let fit = both in
      elim (cases_lt p m.page_count) [
        | inl h ↦ let n = lesser_none (cond (ltb p (half_pages m)) All (m.right p)) in grind (arith, nat_tests)
        | inr h ↦ let n = shut p h in grind (arith, nat_tests)
      ]

  pub cleared_is : cleared m ≡ fresh_memory m.page_count m.page_size
  cleared_is =
      (λ i. after_protn (opened (half_pages m) (zeroed_is (extent m) m (omega arith) i) 0) (half_pages m) (half_pages m) None)
      ∙ ap (λ x. after_protn x (half_pages m) (half_pages m) None) (opened_is (half_pages m) (words_zero (extent m) m) (omega arith))
      ∙ lowered
      ∙ same_memory _ _ refl refl word_is right_is
