-- Forwarding an object, copied word by word, is forwarding it in closed form.
use Rattle.std.proofs.Common.{◌≡◌, ℕ, zero, suc, ◌+◌, ◌-◌, ◌*◌, ◌/◌, ◌<◌, ◌≤◌, Bool, true, false, cond, ◌&&◌, ltb, leb, refl, ap, ◌∙◌, inl, inr, mul-le-mul_right, arith}
use Rattle.std.proofs.lemmas.Bool.{cases_lt, cond-true}
use Rattle.std.proofs.lemmas.Bool.Decides.{nat_tests}
use Rattle.std.proofs.lemmas.Nat.{div_below}
use Rattle.memory.specs.Rights.{rank, lesser}
use Rattle.memory.specs.Memory.{Memory, legal_sizes, extent, run_inside, with_word, lowered_run, after_set, after_protn}
use Rattle.memory.specs.declared.rights.Right.{Right}
use Rattle.memory.proofs.Memories.{same_memory, after_set_inside, extent_small}
use Rattle.layouts.specs.Layouts.{Rules}
use Rattle.model.specs.Heap.{Moving, plus}
use Rattle.model.specs.Objects.{slot_count, object_words}
use Rattle.model.specs.Forwarding.{copied, closed as closed_pages, crossed, is_forwarded, moved, forwarded, new_address}
use Rattle.theory.specs.Model.{blit}
use Rattle.theory.specs.Collect.{St, Clear, copied as copied_row, forward}
use Rattle.theory.specs.Closed.{closed_layout, closed_moving}
use Rattle.theory.proofs.Basics.{div_mono}
use Rattle.theory.proofs.ClosedRights.{lowers}
use Rattle.theory.proofs.ClosedLaws.{size_positive, count_few}

-- Copies

abbrev block : Memory → ℕ → ℕ → ℕ → Memory
block m old new n = record { page_size = m.page_size; page_count = m.page_count; word = blit m.word old new n; right = m.right }

block_none : (m : Memory) (old new : ℕ) → m ≡ block m old new 0
block_none m old new = same_memory _ _ refl refl (λ b. grind (arith, nat_tests)) (λ q. refl)

block_more : (m : Memory) (old new n : ℕ) → Clear old (suc n) new (suc n) → with_word (block m old new n) (new + n) ((block m old new n).word (old + n)) ≡ block m old new (suc n)
block_more m old new n apart = same_memory _ _ refl refl (λ b. grind (arith, nat_tests)) (λ q. refl)

fewer : (x y k : ℕ) → Clear x (suc k) y (suc k) → Clear x k y k
fewer x y k h = grind arith

-- words copied one by one to a row inside that shares none with theirs are the row copied
pub copied_as : (m : Memory) (old new n : ℕ) → new + n ≤ extent m → Clear old n new n → copied n m old new ≡ block m old new n
copied_as m old new zero fits apart = block_none m old new
copied_as m old new (suc n) fits apart =
    let ih = copied_as m old new n (omega arith) (fewer old new n apart) in
    (λ i. after_set (ih i) (new + n) ((ih i).word (old + n))) ∙ after_set_inside (block m old new n) (new + n) _ (omega arith) ∙ block_more m old new n apart

-- The memory once an object has moved

shuts : (x : Right) (f l q : ℕ) → f ≤ l → rank (cond (leb f q && ltb q (f + suc (l - f))) (lesser x Right.None) x) ≡ cond (leb f q && leb q l) 0 (rank x)
shuts x f l q h = grind (arith, nat_tests, lowers x)

module _ (m : Memory) (a e n : ℕ) (legal : legal_sizes m.page_count m.page_size ≡ true) (within : a < extent m) (fits : e + suc n ≤ extent m) (apart : Clear a (suc n) e (suc n)) where
  abbrev copied_there : Memory
  copied_there = with_word (block m a e (suc n)) a (2 * e)

  positive : 0 < m.page_size
  positive = size_positive m.page_count m.page_size legal

  written : after_set (copied (suc n) m a e) a (plus e e) ≡ copied_there
  written =
      let few = extent_small m legal in
      let twice : plus e e ≡ 2 * e = omega arith in
      (λ i. after_set (copied_as m a e (suc n) fits apart i) a (twice i)) ∙ after_set_inside (block m a e (suc n)) a (2 * e) within

  last_page : (e + n) / m.page_size < m.page_count
  last_page = div_below (e + n) m.page_size m.page_count positive (omega arith)

  pages_as : plus (plus e (suc n - 1) / m.page_size - e / m.page_size) 1 ≡ suc ((e + n) / m.page_size - e / m.page_size)
  pages_as =
      let few = extent_small m legal in
      let lp = last_page in
      let cf = count_few m.page_count m.page_size legal in
      let z : plus e (suc n - 1) ≡ e + n = omega arith in
      rw z (omega arith)

  memory_as : closed_pages (after_set (copied (suc n) m a e) a (plus e e)) e (suc n) ≡ lowered_run copied_there (e / m.page_size) (suc ((e + n) / m.page_size - e / m.page_size)) Right.None
  memory_as =
      let lp = last_page in
      let up = div_mono m.page_size e (e + n) (omega arith) in
      let inside : run_inside copied_there (e / m.page_size) (suc ((e + n) / m.page_size - e / m.page_size)) ≡ true = grind (arith, nat_tests) in
      (λ i. closed_pages (written i) e (suc n)) ∙ ap (λ k. after_protn copied_there (e / m.page_size) k Right.None) pages_as ∙ cond-true _ _ copied_there inside

  pub right_as : (q : ℕ) → rank ((lowered_run copied_there (e / m.page_size) (suc ((e + n) / m.page_size - e / m.page_size)) Right.None).right q) ≡ cond (leb (e / m.page_size) q && leb q ((e + n) / m.page_size)) 0 (rank (m.right q))
  right_as q = shuts (m.right q) (e / m.page_size) ((e + n) / m.page_size) q (div_mono m.page_size e (e + n) (omega arith))

  -- no page past the last begins inside
  crossed_as : (f : ℕ → ℕ) (q : ℕ) → crossed m.page_size f e (suc n) q ≡ cond (leb e (q * m.page_size) && leb (q * m.page_size) (e + n)) e (f q)
  crossed_as f q = elim (cases_lt q 64) [
    | inl l ↦ grind (arith, nat_tests)
    | inr l ↦ (
        let up = mul-le-mul_right m.page_size l in
        let cf = mul-le-mul_right m.page_size (count_few m.page_count m.page_size legal) in
        let past : e + n < q * m.page_size = omega arith in
        grind (arith, nat_tests))
  ]

-- What forwarding the object at a needs: it lies inside, and its copy too, clear of it
pub record Ready (L : Rules) (s : Moving) (a : ℕ) : Type 0 where
  pub within : a < extent s.memory
  pub fits : s.space.copy_end + object_words L (s.memory.word a) ≤ extent s.memory
  pub apart : Clear a (object_words L (s.memory.word a)) s.space.copy_end (object_words L (s.memory.word a))

module _ (L : Rules) (s : Moving) (low a : ℕ) (legal : legal_sizes s.memory.page_count s.memory.page_size ≡ true) where
  moved_as : Ready L s a → closed_moving (moved s a (object_words L (s.memory.word a))) low ≡ copied_row (closed_layout L) s.memory.page_size (closed_moving s low) a
  moved_as r =
      let e = s.space.copy_end in
      let n = slot_count L (s.memory.word a) in
      let few = extent_small s.memory legal in
      let fits = r.fits in
      let top : plus e (suc n) ≡ e + suc n = omega arith in
      let m = memory_as s.memory a e n legal r.within r.fits r.apart in
      λ i. record {
        mem = (m i).word;
        top = top i;
        low = low;
        right = λ q. (ap (λ x. rank (x.right q)) m ∙ right_as s.memory a e n legal r.within r.fits r.apart q) i;
        cross = λ q. crossed_as s.memory a e n legal r.within r.fits r.apart s.space.crossing q i;
      }

  either : (t : Bool) (x y : Moving) (z : St) (p q : ℕ) → (t ≡ false → closed_moving y low ≡ z) → ◌≡◌ {A = St × ℕ} (closed_moving (cond t x y) low, cond t p q) (cond t (closed_moving x low, p) (z, q))
  either true x y z p q h = refl
  either false x y z p q h = ap (λ t. (t, q)) (h refl)

  pub forward_as : (is_forwarded s a ≡ false → Ready L s a) → ◌≡◌ {A = St × ℕ} (closed_moving (forwarded L s a) low, new_address s a) (forward (closed_layout L) s.memory.page_size (closed_moving s low) a)
  forward_as r = either (is_forwarded s a) s (moved s a (object_words L (s.memory.word a))) (copied_row (closed_layout L) s.memory.page_size (closed_moving s low) a) (s.memory.word a / 2) s.space.copy_end (λ e. moved_as (r e))
