-- The fourth promise: images, by what holds in closed form.
use Rattle.std.proofs.Common.{◌≡◌, ℕ, zero, suc, ◌+◌, ◌-◌, ◌*◌, ◌/◌, ◌%◌, ◌<◌, ◌≤◌, Bool, true, false, cond, not, ◌&&◌, eqb, ltb, leb, ◌∷◌, Option, sym, refl, ap, ◌∙◌, subst, ap₂, arith}
use Rattle.std.proofs.lemmas.Bool.Decides.{nat_tests}
use Rattle.memory.specs.Memory.{Memory, legal_sizes}
use Rattle.memory.specs.declared.refusals.Refusal.TheVariants.{Short, Busy, Nothing}
use Rattle.layouts.specs.Layouts.{Rules, Lawful}
use Rattle.model.specs.declared.states.Half.{Half}
use Rattle.model.specs.declared.states.Half.TheVariants.{Lower, Upper}
use Rattle.model.specs.declared.states.Phase.{Phase}
use Rattle.model.specs.declared.states.Phase.TheVariants.{Idle, Collecting, Imaging}
use Rattle.model.specs.declared.calls.Call.TheVariants.{Mark, Save}
use Rattle.model.specs.Heap.{half_number, half_pages, half_words, first_word, to_start, to_stop}
use Rattle.model.specs.Refusing.{refuse_if, is_idle, is_imaging}
use Rattle.model.specs.Images.{image_words}
use Rattle.model.specs.Outcomes.{Machine, unless}
use Rattle.model.specs.Calls.{call, carried_out, turned_down, after}
use Rattle.model.specs.Runs.{is_mark}
use Rattle.model.specs.Restoring.{half_of, restored, restore_refusal}
use Rattle.model.specs.Checkpoints.{SameContents, ImagesRestoreTheirMoment, saves, RestoredHeapsWriteTheirImage}
use Rattle.theory.specs.Machine.{Shape, refused}
use Rattle.theory.specs.Steps.{act, did, denied, call as closed_call}
use Rattle.theory.specs.Runs.{after as closed_after}
use Rattle.theory.specs.Restore.{SameHeap, restored as closed_restored, closed_restore_refusal, save_times}
use Rattle.theory.specs.Closed.{both_halves, closed_shape, closed}
use Rattle.theory.specs.Promises.{AllRestoredHeapsWriteTheirImage}
use Rattle.theory.proofs.Restores.{image_restores}
use Rattle.theory.proofs.Again.{image_again_whole}
use Rattle.theory.proofs.ClosedLaws.{closed_laws, sizes_small, size_positive}
use Rattle.theory.proofs.ClosedKept.{kept_refl}
use Rattle.theory.proofs.ClosedRefusals.{code, code_none}
use Rattle.theory.proofs.ClosedMutators.{Meets}
use Rattle.theory.proofs.ClosedImages.{meets_mark, meets_save}
use Rattle.theory.proofs.ClosedRestoring.{half_small, accepted_says, written_fits, side_as, restored_as, refusals_as}
use Rattle.theory.proofs.Related.{small}
use Rattle.theory.proofs.MachineRuns.{H, Runs, good, met, accepted, later, later_as, later_quiet, from_start, start_as}

half_back : (s : Half) → half_of (half_number s) ≡ s
half_back Lower = refl
half_back Upper = refl

-- An image restores its moment

module _ (L : Rules) (m : Memory) where
  -- what is accepted in closed form, for the sizes of the host
  abbrev Accepts : ℕ → ℕ → Type 0
  Accepts count size = (small : both_halves count size ≤ 16384) → count % 2 ≡ 0 → (b : ℕ → ℕ) (k : ℕ) → closed_restore_refusal (closed_shape L count size small) k b ≡ 0 → restore_refusal L m k b ≡ Option.None

  accepts : (count size : ℕ) → m.page_count ≡ count → m.page_size ≡ size → Accepts count size
  accepts count size ec es = subst (λ s. Accepts count s) es (subst (λ n. Accepts n m.page_size) ec (λ small even b k e. code_none (restore_refusal L m k b) (refusals_as L m small b k even ∙ e)))

  module _ (count size : ℕ) (small : both_halves count size ≤ 16384) (x : Machine) (es : x.heap.memory.page_size ≡ size) (ec : x.heap.memory.page_count ≡ count) (ms : m.page_size ≡ size) (mc : m.page_count ≡ count)
      (b : ℕ → ℕ) (s : SameHeap (closed_shape L count size small) (closed x) (closed_restored (closed_shape L count size small) b)) where
    half_as : half_words m ≡ count / 2 * size
    half_as = rw (ms, mc)

    start_same : to_start x.heap ≡ (closed x).side * (count / 2 * size)
    start_same = rw (es, ec)

    stop_same : to_stop x.heap ≡ (closed x).side * (count / 2 * size) + count / 2 * size
    stop_same = rw (es, ec)

    first_as : first_word m (half_of (b 3)) ≡ b 3 * (count / 2 * size)
    first_as = ap₂ ◌*◌ (side_as (b 3) (omega (arith, s.side, half_small x.heap.half))) half_as

    contents : SameContents x.heap (restored m b)
    contents = record {
      half = ap half_of s.side ∙ half_back x.heap.half;
      copied = ap (λ z. z + b 4) first_as ∙ s.copied;
      new = ap₂ (λ z w. z + w - b 5) first_as half_as ∙ s.new;
      registers = s.registers;
      words = λ a l u t. ap₂ (λ z w. cond (leb z a && ltb a (z + w)) (b (70 + (a - z))) 0) first_as half_as ∙ s.words a (omega (arith, start_same)) (omega (arith, stop_same)) t;
    }

module _ (L : Rules) (lawful : Lawful L) (count size : ℕ) (legal : legal_sizes count size ≡ true) (even : count % 2 ≡ 0) where
  pub restores : (x₀ : Machine) → Runs L lawful count size legal even x₀ → ImagesRestoreTheirMoment L x₀
  restores x₀ o₀ xs ys zs n n₂ x ex e y ey quiet sealed w ew quiet₂ m ms mc k fits =
      let o = from_start L lawful count size legal even x₀ o₀ xs x ex in
      let oy = later L lawful count size legal even x o (Mark n) ys y ey in
      let es : x.heap.memory.page_size ≡ size = o.tied.page_size in
      let ec : x.heap.memory.page_count ≡ count = o.tied.page_count in
      let fits₂ : 70 + count / 2 * size ≤ k = rw (ms ∙ es, mc ∙ ec) at fits in
      let r = image_restores (H L lawful count size legal even) (closed_laws L lawful) (size_positive count size legal) (closed x₀) (good L lawful count size legal even x₀ o₀) xs ys zs n n₂
      (closed x) (start_as L lawful count size legal even x₀ o₀ xs x ex) (accepted L lawful count size legal even x o (Mark n) e)
      (closed y) (later_as L lawful count size legal even x o (Mark n) ys y ey) (later_quiet L lawful count size legal even x o (Mark n) ys is_mark quiet) (sym (met L lawful count size legal even y oy (Save n₂)).told_same ∙ sealed)
      (closed w) (later_as L lawful count size legal even y oy (Save n₂) zs w ew) (later_quiet L lawful count size legal even y oy (Save n₂) zs is_mark quiet₂) k fits₂ in
      (accepts L m count size (mc ∙ ec) (ms ∙ es) (small L lawful count size legal even) even w.buffer k r.0, contents L m count size (small L lawful count size legal even) x es ec (ms ∙ es) (mc ∙ ec) w.buffer r.1)

-- A restored heap writes its image again

imaging_phase : (p : Phase) → not (is_imaging p) ≡ false → p ≡ Imaging
imaging_phase Idle e = absurd (let z : ◌≡◌ {A = ℕ} 0 1 = cc in omega arith)
imaging_phase Collecting e = absurd (let z : ◌≡◌ {A = ℕ} 0 1 = cc in omega arith)
imaging_phase Imaging e = refl

module _ (L : Rules) (lawful : Lawful L) (x : Machine) where
  -- MARK and SAVE on a heap of whatever contents
  abbrev Squares : ℕ → ℕ → Type 0
  Squares count size = (small : both_halves count size ≤ 16384) → legal_sizes count size ≡ true → (n : ℕ) →
      Meets x (call L x (Mark n)) (closed_call (closed_shape L count size small) (closed x) (Mark n)) × Meets x (call L x (Save n)) (closed_call (closed_shape L count size small) (closed x) (Save n))

  squares : Squares x.heap.memory.page_count x.heap.memory.page_size
  squares small legal n = (mark_by (ltb n (image_words x.heap.memory)) (not (is_idle x.heap.phase)), save_by (ltb n (image_words x.heap.memory)) (not (is_imaging x.heap.phase)) refl)
    where
      mark_by : (s t : Bool) → Meets x (unless (refuse_if s Short (refuse_if t Busy Option.None)) (turned_down L x (Mark n)) (carried_out L x (Mark n)))
          (cond (eqb (cond s 5 (cond t 16 0)) 0) (act (closed_shape L x.heap.memory.page_count x.heap.memory.page_size small) (closed x) (Mark n)) (did (denied (closed x) (Mark n) (cond s 5 (cond t 16 0))) (refused (cond s 5 (cond t 16 0)))))
      mark_by true t = record { left = refl; answer = refl; told_same = refl; kept = kept_refl x.heap.memory; copied_same = refl; scanned_same = refl }
      mark_by false true = record { left = refl; answer = refl; told_same = refl; kept = kept_refl x.heap.memory; copied_same = refl; scanned_same = refl }
      mark_by false false = meets_mark L lawful x small legal (half_small x.heap.half) n

      save_by : (s t : Bool) → not (is_imaging x.heap.phase) ≡ t → Meets x (unless (refuse_if s Short (refuse_if t Nothing Option.None)) (turned_down L x (Save n)) (carried_out L x (Save n)))
          (cond (eqb (cond s 5 (cond t 18 0)) 0) (act (closed_shape L x.heap.memory.page_count x.heap.memory.page_size small) (closed x) (Save n)) (did (denied (closed x) (Save n) (cond s 5 (cond t 18 0))) (refused (cond s 5 (cond t 18 0)))))
      save_by true t e = record { left = refl; answer = refl; told_same = refl; kept = kept_refl x.heap.memory; copied_same = refl; scanned_same = refl }
      save_by false true e = record { left = refl; answer = refl; told_same = refl; kept = kept_refl x.heap.memory; copied_same = refl; scanned_same = refl }
      save_by false false e = meets_save L lawful x small legal (half_small x.heap.half) (imaging_phase x.heap.phase e) n

  image_calls : (count size : ℕ) → x.heap.memory.page_count ≡ count → x.heap.memory.page_size ≡ size → Squares count size
  image_calls count size ec es = subst (λ s. Squares count s) es (subst (λ n. Squares n x.heap.memory.page_size) ec squares)

module _ (L : Rules) (lawful : Lawful L) (count size : ℕ) (small : both_halves count size ≤ 16384) (legal : legal_sizes count size ≡ true) (n : ℕ) where
  abbrev S : Shape
  S = closed_shape L count size small

  saves_as : (k : ℕ) (x : Machine) → x.heap.memory.page_count ≡ count → x.heap.memory.page_size ≡ size → closed (after L x (saves k n)) ≡ closed_after S (closed x) (save_times k n)
  saves_as zero x ec es = refl
  saves_as (suc k) x ec es =
      let o = (image_calls L lawful x count size ec es small legal n).1 in
      saves_as k (call L x (Save n)).left (o.kept.page_count ∙ ec) (o.kept.page_size ∙ es) ∙ ap (λ m. closed_after S m (save_times k n)) o.left

  image_as : (k : ℕ) (x : Machine) → x.heap.memory.page_count ≡ count → x.heap.memory.page_size ≡ size → closed (after L x (Mark n ∷ saves k n)) ≡ closed_after S (closed x) (Mark n ∷ save_times k n)
  image_as k x ec es =
      let o = (image_calls L lawful x count size ec es small legal n).0 in
      saves_as k (call L x (Mark n)).left (o.kept.page_count ∙ ec) (o.kept.page_size ∙ es) ∙ ap (λ m. closed_after S m (save_times k n)) o.left

module _ (L : Rules) (lawful : Lawful L) (m : Memory) (legal : legal_sizes m.page_count m.page_size ≡ true) where
  small_here : both_halves m.page_count m.page_size ≤ 16384
  small_here = sizes_small m.page_count m.page_size legal

  abbrev here : Shape
  here = closed_shape L m.page_count m.page_size small_here

  module _ (b : ℕ → ℕ) (k : ℕ) (e : restore_refusal L m k b ≡ Option.None) where
    even_here : m.page_count % 2 ≡ 0
    even_here = (accepted_says L m b k e).0

    some_pages : 0 < m.page_count / 2
    some_pages = let ev = even_here in let c : 1 ≤ m.page_count = grind (arith, nat_tests, legal) in omega arith

    lower_half : b 3 ≤ 1
    lower_half = (written_fits m b (accepted_says L m b k e).1).0

  writes_again : RestoredHeapsWriteTheirImage L m
  writes_again b other k n e fits j l =
      let lo = lower_half b k e in
      ap (λ z. z.buf j) (image_as L lawful m.page_count m.page_size small_here legal n (half_pages m) (record { heap = restored m b; buffer = other }) refl refl)
      ∙ ap (λ z. (closed_after here z (Mark n ∷ save_times (half_pages m) n)).buf j) (restored_as L m small_here b lo other)
      ∙ image_again_whole here (closed_laws L lawful) (size_positive m.page_count m.page_size legal) (some_pages b k e) b other k n (sym (refusals_as L m small_here b k (even_here b k e)) ∙ ap code e) fits j l

pub all_restored_heaps_write_their_image : AllRestoredHeapsWriteTheirImage
all_restored_heaps_write_their_image L lawful m legal = writes_again L lawful m legal
