-- Every call on the moving heap is that on its closed form.
use Rattle.std.proofs.Common.{◌≡◌, ℕ, ◌%◌, ◌≤◌, true, false, not, ltb, sym, refl, ap, ◌∙◌, subst}
use Rattle.std.proofs.lemmas.Bool.{false≢true}
use Rattle.std.specs.declared.option.Option.TheVariants as Option
use Rattle.memory.specs.Rights.{rank}
use Rattle.memory.specs.Memory.{legal_sizes}
use Rattle.memory.specs.declared.refusals.Refusal.TheVariants.{Short, Busy, Nothing}
use Rattle.layouts.specs.Layouts.{Rules, Lawful}
use Rattle.model.specs.declared.calls.Call.{Call}
use Rattle.model.specs.declared.calls.Call.TheVariants.{New, Load, Store, Copy, SetNumber, SetNil, Same, Tell, Count, Flip, Step, Take, Resolve, Mark, Save}
use Rattle.model.specs.declared.states.Phase.{Phase}
use Rattle.model.specs.declared.states.Phase.TheVariants.{Idle, Collecting, Imaging}
use Rattle.model.specs.Refusing.{refusal, is_idle, is_collecting, is_imaging}
use Rattle.model.specs.Outcomes.{Machine}
use Rattle.model.specs.Calls.{moving_view, carried_out, call}
use Rattle.theory.specs.Collect.{Flip as Flipping}
use Rattle.theory.specs.Machine.{view_m, refusal as closed_refusal, Never as ClosedNeverMoving}
use Rattle.theory.specs.Steps.{act, call as closed_call}
use Rattle.theory.specs.Closed.{both_halves, closed_shape, closed}
use Rattle.theory.proofs.World.{World}
use Rattle.theory.proofs.Rights.{RightsOf}
use Rattle.theory.proofs.ClosedKept.{kept_refl}
use Rattle.theory.proofs.ClosedRefusals.{code, code_none, passes, refusals_same}
use Rattle.theory.proofs.ClosedMutators.{Meets, same_view, meets_carried, meets_from}
use Rattle.theory.proofs.ClosedFlip.{meets_flip}
use Rattle.theory.proofs.ClosedImages.{meets_mark, meets_save}
use Rattle.theory.proofs.ClosedSteps.{meets_step, meets_resolve}

idle_phase : (p : Phase) → not (is_idle p) ≡ false → p ≡ Idle
idle_phase Idle e = refl
idle_phase Collecting e = absurd (false≢true (sym e))
idle_phase Imaging e = absurd (false≢true (sym e))

collecting_phase : (p : Phase) → not (is_collecting p) ≡ false → p ≡ Collecting
collecting_phase Idle e = absurd (false≢true (sym e))
collecting_phase Collecting e = refl
collecting_phase Imaging e = absurd (false≢true (sym e))

imaging_phase : (p : Phase) → not (is_imaging p) ≡ false → p ≡ Imaging
imaging_phase Idle e = absurd (false≢true (sym e))
imaging_phase Collecting e = absurd (false≢true (sym e))
imaging_phase Imaging e = refl

-- the state's sizes are those of the shape
module _ (L : Rules) (lawful : Lawful L) (x : Machine) where
  abbrev Squares : ℕ → ℕ → Type 0
  Squares count size =
      (small : both_halves count size ≤ 16384) → legal_sizes count size ≡ true → count % 2 ≡ 0 → ((p : ℕ) → count ≤ p → rank (x.heap.memory.right p) ≡ 0) →
      (F : Flipping) (a : ClosedNeverMoving) → World (closed_shape L count size small) F (closed x) a → RightsOf (closed_shape L count size small) (closed x) →
      (k : Call) → Meets x (call L x k) (closed_call (closed_shape L count size small) (closed x) k)

  squares : Squares x.heap.memory.page_count x.heap.memory.page_size
  squares small legal even past F a w rights k = meets_from L lawful _ _ small legal x refl refl F a w rights k (carried k)
    where
      carried : (k : Call) → refusal (moving_view L x.heap) k ≡ Option.None → Meets x (carried_out L x k) (act (closed_shape L x.heap.memory.page_count x.heap.memory.page_size small) (closed x) k)
      carried (New k d r n) e = meets_carried L lawful _ _ small legal x refl refl F a w rights (New k d r n) refl e
      carried (Load k d o j) e = meets_carried L lawful _ _ small legal x refl refl F a w rights (Load k d o j) refl e
      carried (Store k o j y) e = meets_carried L lawful _ _ small legal x refl refl F a w rights (Store k o j y) refl e
      carried (Copy k d f o) e = meets_carried L lawful _ _ small legal x refl refl F a w rights (Copy k d f o) refl e
      carried (SetNumber k d n) e = meets_carried L lawful _ _ small legal x refl refl F a w rights (SetNumber k d n) refl e
      carried (SetNil k d) e = meets_carried L lawful _ _ small legal x refl refl F a w rights (SetNil k d) refl e
      carried (Same k y z) e = meets_carried L lawful _ _ small legal x refl refl F a w rights (Same k y z) refl e
      carried (Tell k o) e = meets_carried L lawful _ _ small legal x refl refl F a w rights (Tell k o) refl e
      carried Count e = meets_carried L lawful _ _ small legal x refl refl F a w rights Count refl e
      carried Flip e = meets_flip L lawful x small legal even past F a w (idle_phase x.heap.phase (passes (not (is_idle x.heap.phase)) Busy _ e).0)
      carried Step e = meets_step L lawful x small legal F a w (collecting_phase x.heap.phase (passes (not (is_collecting x.heap.phase)) Nothing Option.None e).0)
      carried (Take k) e = record { left = refl; answer = refl; told_same = refl; kept = kept_refl x.heap.memory; copied_same = refl; scanned_same = refl }
      carried (Resolve k p n) e = meets_resolve L lawful x small legal F a w rights k p n
      carried (Mark n) e = meets_mark L lawful x small legal w.body.which n
      carried (Save n) e = meets_save L lawful x small legal w.body.which (imaging_phase x.heap.phase (passes (not (is_imaging x.heap.phase)) Nothing Option.None (passes (ltb n (moving_view L x.heap).image_words) Short _ e).1).0) n

  pub meets_call : (count size : ℕ) → x.heap.memory.page_count ≡ count → x.heap.memory.page_size ≡ size → Squares count size
  meets_call count size ec es = subst (λ s. Squares count s) es (subst (λ n. Squares n x.heap.memory.page_size) ec squares)

-- what is accepted is so in closed form
module _ (L : Rules) (lawful : Lawful L) (count size : ℕ) (small : both_halves count size ≤ 16384) (legal : legal_sizes count size ≡ true) (x : Machine)
    (es : x.heap.memory.page_size ≡ size) (ec : x.heap.memory.page_count ≡ count)
    (F : Flipping) (a : ClosedNeverMoving) (w : World (closed_shape L count size small) F (closed x) a) (rights : RightsOf (closed_shape L count size small) (closed x)) (k : Call) where
  codes_same : code (refusal (moving_view L x.heap) k) ≡ closed_refusal (view_m (closed_shape L count size small) (closed x)) k
  codes_same = refusals_same (moving_view L x.heap) (view_m (closed_shape L count size small) (closed x)) (same_view L lawful count size small legal x es ec F a w rights) k

  pub accepted_closed : refusal (moving_view L x.heap) k ≡ Option.None → closed_refusal (view_m (closed_shape L count size small) (closed x)) k ≡ 0
  accepted_closed e = sym codes_same ∙ ap code e

  pub closed_accepted : closed_refusal (view_m (closed_shape L count size small) (closed x)) k ≡ 0 → refusal (moving_view L x.heap) k ≡ Option.None
  closed_accepted e = code_none (refusal (moving_view L x.heap) k) (codes_same ∙ e)
