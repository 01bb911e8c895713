-- The rights of pages by their ranks, and runs of pages opened and shut.
use Rattle.std.proofs.Common.{◌≡◌, ℕ, zero, suc, ◌+◌, ◌≤◌, min, Bool, true, false, cond, ◌&&◌, ltb, leb, sym, refl, ap, ◌∙◌, inl, inr, arith}
use Rattle.std.proofs.lemmas.Bool.{cases_eq, cond-true, eq-eqb, ne_eqb, lt-ltb}
use Rattle.std.proofs.lemmas.Bool.Decides.{nat_tests}
use Rattle.memory.specs.Rights.{rank, lesser, greater}
use Rattle.memory.specs.Memory.{Memory, run_inside, lowered_run, with_right, after_protn, after_unprot}
use Rattle.memory.specs.declared.rights.Right.{Right}
use Rattle.memory.proofs.Memories.{same_memory}
use Rattle.memory.proofs.Ranks.{rank_lesser}
use Rattle.model.specs.Collecting.{opened}

pub rank_all : (t : Bool) (r : Right) → rank (cond t Right.All r) ≡ cond t 2 (rank r)
rank_all true r = refl
rank_all false r = refl

pub rank_read : (t : Bool) (r : Right) → rank (cond t (lesser r Right.Read) r) ≡ cond t (min 1 (rank r)) (rank r)
rank_read true r = rank_lesser r Right.Read ∙ omega arith
rank_read false r = refl

pub greater_all : (r : Right) → greater r Right.All ≡ Right.All
greater_all Right.None = refl
greater_all Right.Read = refl
greater_all Right.All = refl

pub lowers : (x : Right) → rank (lesser x Right.None) ≡ 0
lowers x = rank_lesser x Right.None ∙ omega arith

-- n pages from p on at all
abbrev pub raised_run : Memory → ℕ → ℕ → Memory
raised_run m p n = record { page_size = m.page_size; page_count = m.page_count; word = m.word; right = λ q. cond (leb p q && ltb q (p + n)) Right.All (m.right q) }

raised_none : (m : Memory) (p : ℕ) → m ≡ raised_run m p 0
raised_none m p = same_memory _ _ refl refl (λ b. refl) (λ q. grind (arith, nat_tests))

raised_more : (m : Memory) (p n : ℕ) → with_right (raised_run m p n) (p + n) Right.All ≡ raised_run m p (suc n)
raised_more m p n = same_memory _ _ refl refl (λ b. refl) (λ q. elim (cases_eq q (p + n)) [
  | inl e ↦ rw (eq-eqb (p + n) q (sym e)) (grind (arith, nat_tests))
  | inr ne ↦ rw (ne_eqb (p + n) q (λ e. ne (sym e))) (grind (arith, nat_tests))
])

pub opened_as : (n : ℕ) (m : Memory) (p : ℕ) → p + n ≤ m.page_count → opened n m p ≡ raised_run m p n
opened_as zero m p l = raised_none m p
opened_as (suc n) m p l =
    ap (λ k. after_unprot k (p + n) Right.All) (opened_as n m p (omega arith))
    ∙ cond-true _ _ (raised_run m p n) (lt-ltb (p + n) m.page_count (omega arith))
    ∙ ap (with_right (raised_run m p n) (p + n)) (greater_all ((raised_run m p n).right (p + n))) ∙ raised_more m p n

pub protn_as : (m : Memory) (first count : ℕ) (r : Right) → first + count ≤ m.page_count → after_protn m first count r ≡ lowered_run m first count r
protn_as m first count r l = let e : run_inside m first count ≡ true = grind (arith, nat_tests) in cond-true _ _ m e
