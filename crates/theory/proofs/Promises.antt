-- The promises, from what holds at every start.
use Rattle.std.proofs.Common.{◌≡◌, ℕ, ◌%◌, ◌<◌, max, true, ◌||◌, sym, ap, ◌∙◌, subst}
use Rattle.memory.specs.Memory.{legal_sizes}
use Rattle.layouts.specs.Layouts.{Rules, Lawful}
use Rattle.model.specs.declared.calls.Call.{Call}
use Rattle.model.specs.declared.calls.Call.TheVariants.{New, Resolve}
use Rattle.model.specs.declared.states.Phase.TheVariants.{Collecting}
use Rattle.model.specs.Outcomes.{Machine, told, Told.ended}
use Rattle.model.specs.Calls.{call}
use Rattle.model.specs.Runs.{Both, both_after, is_mark, is_resolve_of, AnswersAsIfNothingMoved}
use Rattle.model.specs.Collections.{Tally, tallied, SinceFlip, Paired, Complete, pages_for, CollectionCopiesTheReached}
use Rattle.model.specs.Repeats.{IsAccess, IsAccess.loads, IsAccess.stores, AccessesGoOn, NewsGoOn, ResolvedCallsGoOn}
use Rattle.model.specs.Checkpoints.{ImagesAreSealed, ImagesRestoreTheirMoment}
use Rattle.theory.specs.Runs.{Accesses, Accesses.loads, Accesses.stores}
use Rattle.theory.specs.Closed.{closed}
use Rattle.theory.specs.Promises.{HeapsKeepTheirPromises}
use Rattle.theory.proofs.Repeats.{access_repeats}
use Rattle.theory.proofs.NewRepeats.{new_repeats}
use Rattle.theory.proofs.ClosedLaws.{closed_laws, size_positive}
use Rattle.theory.proofs.Related.{answers_related}
use Rattle.theory.proofs.MachineRuns.{H, Runs, good, met, next, accepted, traps, later, later_as, later_quiet, again, from_start, start_as}
use Rattle.theory.proofs.CollectionsPaired.{fed, Tied, tied_after, moment, paired_now, few_steps, complete_at_end}
use Rattle.theory.proofs.ImagesSealed.{sealed_in_time}
use Rattle.theory.proofs.Checkpoints.{restores}
use Rattle.theory.proofs.Begins.{count_of, size_of, Begins, runs_from, begins}

module _ (L : Rules) (lawful : Lawful L) (count size : ℕ) (legal : legal_sizes count size ≡ true) (even : count % 2 ≡ 0) where
  -- A collection

  module _ (t : Tally) (y x : Both) (o : Tied L lawful count size legal even y) (s : SinceFlip L (fed L lawful count size legal even) y t x) (busy : x.moving.heap.phase ≡ Collecting) where
    copies : Paired L y.never x.moving.heap x.never
        × (t.steps < max 1 (pages_for x.moving.heap.memory.page_size x.never.reached))
        × ((c : Call) → told (call L x.moving c).answer ≡ ended → Complete L y.never (tallied t (call L x.moving c).answer) (call L x.moving c).left.heap (both_after L (fed L lawful count size legal even) x c).never)
    copies =
        let n = moment L lawful count size legal even y o s in
        (paired_now L lawful count size legal even y o t x n busy, few_steps L lawful count size legal even y o t x n busy, complete_at_end L lawful count size legal even y o t x n busy)

  -- Repeats

  module _ (x₀ : Machine) (o₀ : Runs L lawful count size legal even x₀) where
    -- LOAD and STORE

    abbrev slot_of : {m : ℕ} {c : Call} → IsAccess m c → ℕ × ℕ
    slot_of (loads d s i) = (s, i)
    slot_of (stores s i v) = (s, i)

    accesses : (m : ℕ) (c : Call) → (a : IsAccess m c) → Accesses m (slot_of a).0 (slot_of a).1 c
    accesses m c (loads d s i) = Accesses.loads d
    accesses m c (stores s i v) = Accesses.stores v

    accesses_go_on : AccessesGoOn L x₀
    accesses_go_on xs ys c m p n a x ex trapped y ey quiet e q trapped₂ =
        let o = from_start L lawful count size legal even x₀ o₀ xs x ex in
        let oy = later L lawful count size legal even x o c ys y ey in
        access_repeats (H L lawful count size legal even) (closed_laws L lawful) (size_positive count size legal) (closed x₀) (good L lawful count size legal even x₀ o₀) xs ys c m (slot_of a).0 (slot_of a).1 p n (accesses m c a)
        (closed x) (start_as L lawful count size legal even x₀ o₀ xs x ex) (traps L lawful count size legal even x o c p trapped)
        (closed y) (later_as L lawful count size legal even x o c ys y ey) (later_quiet L lawful count size legal even x o c ys (is_resolve_of m) quiet) (accepted L lawful count size legal even y oy (Resolve m p n) e)
        q (again L lawful count size legal even y oy (Resolve m p n) c q trapped₂)

    -- NEW

    news_go_on : NewsGoOn L x₀
    news_go_on xs ys zs m d r w p p₂ n n₂ x ex trapped y ey quiet e y₂ ey₂ trapped₂ z ez quiet₂ e₂ q trapped₃ =
        let o = from_start L lawful count size legal even x₀ o₀ xs x ex in
        let oy = later L lawful count size legal even x o (New m d r w) ys y ey in
        let oy₂ : Runs L lawful count size legal even y₂ = subst (Runs L lawful count size legal even) (sym ey₂) (next L lawful count size legal even y oy (Resolve m p n)) in
        let oz = later L lawful count size legal even y₂ oy₂ (New m d r w) zs z ez in
        new_repeats (H L lawful count size legal even) (closed_laws L lawful) (size_positive count size legal) (closed x₀) (good L lawful count size legal even x₀ o₀) xs ys zs m d r w p p₂ n n₂
        (closed x) (start_as L lawful count size legal even x₀ o₀ xs x ex) (traps L lawful count size legal even x o (New m d r w) p trapped)
        (closed y) (later_as L lawful count size legal even x o (New m d r w) ys y ey) (later_quiet L lawful count size legal even x o (New m d r w) ys (λ c. is_resolve_of m c || is_mark c) quiet) (accepted L lawful count size legal even y oy (Resolve m p n) e)
        (closed y₂) (ap closed ey₂ ∙ (met L lawful count size legal even y oy (Resolve m p n)).left) (traps L lawful count size legal even y₂ oy₂ (New m d r w) p₂ trapped₂)
        (closed z) (later_as L lawful count size legal even y₂ oy₂ (New m d r w) zs z ez) (later_quiet L lawful count size legal even y₂ oy₂ (New m d r w) zs (λ c. is_resolve_of m c || is_mark c) quiet₂) (accepted L lawful count size legal even z oz (Resolve m p₂ n₂) e₂)
        q (again L lawful count size legal even z oz (Resolve m p₂ n₂) (New m d r w) q trapped₃)

-- From any start

module _ (L : Rules) (lawful : Lawful L) (y : Both) (s : Begins L lawful y) where
  answers_alike : AnswersAsIfNothingMoved L y
  answers_alike cs = answers_related L lawful (count_of y) (size_of y) s.legal s.even y.moving y.never s.tied cs

  collection_copies : CollectionCopiesTheReached L y
  collection_copies cs t y₁ x e f busy =
      copies L lawful (count_of y) (size_of y) s.legal s.even t y₁ x (subst (Tied L lawful (count_of y) (size_of y) s.legal s.even) (sym e) (tied_after L lawful (count_of y) (size_of y) s.legal s.even y s.tied cs)) f busy

  resolved_go_on : ResolvedCallsGoOn L y.moving
  resolved_go_on = (accesses_go_on L lawful (count_of y) (size_of y) s.legal s.even y.moving (runs_from L lawful y s), news_go_on L lawful (count_of y) (size_of y) s.legal s.even y.moving (runs_from L lawful y s))

  images_sealed : ImagesAreSealed L y.moving
  images_sealed = sealed_in_time L lawful (count_of y) (size_of y) s.legal s.even y.moving (runs_from L lawful y s)

  images_restore : ImagesRestoreTheirMoment L y.moving
  images_restore = restores L lawful (count_of y) (size_of y) s.legal s.even y.moving (runs_from L lawful y s)

pub heaps_keep_their_promises : HeapsKeepTheirPromises
heaps_keep_their_promises L lawful y s =
    let o = begins L lawful y s in
    record { answers = answers_alike L lawful y o; collection = collection_copies L lawful y o; repeats = resolved_go_on L lawful y o; sealed = images_sealed L lawful y o; images = images_restore L lawful y o }
