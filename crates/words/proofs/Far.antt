-- A host's sizes are small, so an address or a page too large for 32 bits lies outside, and so does the largest such number.
use Rattle.std.proofs.Common.{◌≡◌, ℕ, ◌-◌, ◌^◌, ◌≤◌, min, true, cond, ltb, Ok, Err, sym, ap, ◌∙◌, inl, inr, arith}
use Rattle.std.proofs.lemmas.Bool.{cases_lt, cond-false, le-ltb}
use Rattle.std.proofs.lemmas.Bool.Decides.{nat_tests}
use Rattle.memory.proofs.Memories.{extent_small}
use Rattle.memory.specs.Memory.{Memory, extent, page_of, legal_sizes, with_word, with_right, look_answer, put_answer, after_put, after_unprot}
use Rattle.memory.specs.Rights.{greater, may_read, may_write}
use Rattle.memory.specs.declared.hosts.Denied.TheVariants.{Refused, Fault}
use Rattle.memory.specs.declared.refusals.Refusal.TheVariants.{Outside}
use Rattle.memory.specs.declared.rights.Right.{Right}

pub sizes_in_range : (m : Memory) → legal_sizes m.page_count m.page_size ≡ true → (16 ≤ m.page_size) × (m.page_size ≤ 256) × (m.page_count ≤ 64)
sizes_in_range m s = (grind (arith, nat_tests, s), grind (arith, nat_tests, s), grind (arith, nat_tests, s))

-- a test against a small number, and what hangs on it
far : {A : Type 0} (f : ℕ → A) (x : A) (n a : ℕ) → n ≤ 16384 → cond (ltb (min a (2 ^ 32 - 1)) n) (f (min a (2 ^ 32 - 1))) x ≡ cond (ltb a n) (f a) x
far f x n a small =
    elim (cases_lt a (2 ^ 32)) [
      | inl h ↦ ap (λ b. cond (ltb b n) (f b) x) (omega arith)
      | inr h ↦ cond-false _ _ x (le-ltb (min a (2 ^ 32 - 1)) n (omega arith)) ∙ sym (cond-false _ _ x (le-ltb a n (omega arith)))
    ]

module _ (m : Memory) (sized : legal_sizes m.page_count m.page_size ≡ true) where
  pub look_far : (a : ℕ) → look_answer m (min a (2 ^ 32 - 1)) ≡ look_answer m a
  look_far a = far (λ b. cond (may_read (m.right (page_of m b))) (Ok (m.word b)) (Err (Fault (page_of m b)))) (Err (Refused Outside)) (extent m) a (extent_small m sized)

  pub put_far : (a : ℕ) → put_answer m (min a (2 ^ 32 - 1)) ≡ put_answer m a
  put_far a = far (λ b. cond (may_write (m.right (page_of m b))) (Ok tt) (Err (Fault (page_of m b)))) (Err (Refused Outside)) (extent m) a (extent_small m sized)

  pub after_put_far : (a w : ℕ) → after_put m (min a (2 ^ 32 - 1)) w ≡ after_put m a w
  after_put_far a w = far (λ b. cond (may_write (m.right (page_of m b))) (with_word m b w) m) m (extent m) a (extent_small m sized)

  pub unprot_far : (p : ℕ) (r : Right) → after_unprot m (min p (2 ^ 32 - 1)) r ≡ after_unprot m p r
  unprot_far p r = let few = sizes_in_range m sized in far (λ q. with_right m q (greater (m.right q) r)) m m.page_count p (omega arith)
