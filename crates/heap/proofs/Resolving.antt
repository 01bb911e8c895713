-- A fault that is worked off.
use Rattle.std.proofs.Common.{◌≡◌, ℕ, ◌<◌, ◌≤◌, Bool, true, false, cond, not, ◌&&◌, eqb, ltb, List, length, is_some, Some, None, Ok, Err, Result, sym, refl, ap, ◌∙◌, subst, ap₂, arith}
use Rattle.std.proofs.lemmas.Bool.{cond-false, le-ltb, true≢false}
use Rattle.memory.specs.declared.refusals.Refusal.{Refusal}
use Rattle.memory.specs.declared.refusals.Refusal.TheVariants.{Short, NoFault}
use Rattle.layouts.specs.Layouts.{Rules}
use Rattle.model.specs.declared.calls.Answer.TheVariants as Answer
use Rattle.model.specs.declared.calls.Call.TheVariants as Call
use Rattle.model.specs.declared.states.Phase.{Phase}
use Rattle.model.specs.declared.states.Phase.TheVariants.{Idle, Collecting, Imaging}
use Rattle.model.specs.declared.states.State.{State}
use Rattle.model.specs.declared.states.State.TheVariants.{Running, Waiting, InHand}
use Rattle.model.specs.Heap.{Heap as Model, with_state}
use Rattle.model.specs.Scanning.{has_unscanned, page_scanned, page_counts}
use Rattle.model.specs.Images.{image_words, page_saved}
use Rattle.model.specs.Faults.{runs_again, resolve}
use Rattle.model.specs.Refusing.{is_in_hand, is_collecting, is_imaging, holds_fault, refuse_if}
use Rattle.model.specs.Outcomes.{Machine, with_heap, outcome, unless}
use Rattle.model.specs.Calls.{moving_view, turned_down}
use Rattle.images.specs.Lent.{machine, Writes}
use Rattle.state.specs.Moves.{next}
use Rattle.state.specs.declared.mutators.Event.{Event}
use Rattle.heap.specs.Effects.{served, counts_served, Serves, resolve_answer}
use Rattle.heap.specs.Moves.{moves, to_state, advanced}

-- what the phase asks of the page, the mutator running before or after it
by_phase : (L : Rules) (x : Machine) (m p : ℕ) (φ : Phase) →
    cond (is_collecting φ && has_unscanned x.heap p) (outcome (runs_again (with_heap x (page_scanned L x.heap p)) m) (Answer.Scanned (page_counts L x.heap p).0 (page_counts L x.heap p).1))
    (cond (is_imaging φ && x.heap.unsaved p) (outcome (runs_again (page_saved x p) m) (Answer.Scanned 0 0)) (outcome (runs_again x m) (Answer.Scanned 0 0)))
    ≡ outcome (served L (runs_again x m) p φ) (Answer.Scanned (counts_served L (runs_again x m).heap p φ).0 (counts_served L (runs_again x m).heap p φ).1)
by_phase L x m p Idle = refl
by_phase L x m p Collecting =
    elim (has_unscanned x.heap p) as (λ u.
    cond u (outcome (runs_again (with_heap x (page_scanned L x.heap p)) m) (Answer.Scanned (page_counts L x.heap p).0 (page_counts L x.heap p).1)) (outcome (runs_again x m) (Answer.Scanned 0 0))
    ≡ outcome (with_heap (runs_again x m) (cond u (page_scanned L (runs_again x m).heap p) (runs_again x m).heap)) (Answer.Scanned (cond u (page_counts L (runs_again x m).heap p) (0, 0)).0 (cond u (page_counts L (runs_again x m).heap p) (0, 0)).1)) [ true ↦ refl | false ↦ refl ]
by_phase L x m p Imaging =
    elim (x.heap.unsaved p) as (λ u.
    cond u (outcome (runs_again (page_saved x p) m) (Answer.Scanned 0 0)) (outcome (runs_again x m) (Answer.Scanned 0 0))
    ≡ outcome (cond u (page_saved (runs_again x m) p) (runs_again x m)) (Answer.Scanned 0 0)) [ true ↦ refl | false ↦ refl ]

-- a fault that fits its mutator's state

module _ (p : ℕ) where
  held_by : (b : Bool) → is_some (cond b (Some Running) None) ≡ true → (b ≡ true) × (cond b (Some Running) None ≡ Some Running)
  held_by true e = (refl, refl)
  held_by false e = absurd (true≢false (sym e))

  held : (s : State) → is_some (next s (Event.Resolve p)) ≡ true → (is_in_hand p s ≡ true) × (next s (Event.Resolve p) ≡ Some Running)
  held Running e = absurd (true≢false (sym e))
  held (Waiting q) e = absurd (true≢false (sym e))
  held (InHand q) e = held_by (eqb q p) e

held_of : (b : Bool) (s : State) (p : ℕ) → is_some (cond b None (next s (Event.Resolve p))) ≡ true → ((not b && is_in_hand p s) ≡ true) × (cond b None (next s (Event.Resolve p)) ≡ Some Running)
held_of true s p e = absurd (true≢false (sym e))
held_of false s p e = held p s e

module _ (L : Rules) (h : Model) (old : List ℕ) (m p : ℕ) (long : image_words h.memory ≤ length old) (fits : is_some (moves h m (Event.Resolve p)) ≡ true) where
  fault : (holds_fault (moving_view L h) m p ≡ true) × (moves h m (Event.Resolve p) ≡ Some Running)
  fault = held_of (ltb 3 m) (h.state m) p fits

  run : advanced h m (Event.Resolve p) ≡ with_state h m Running
  run = ap (to_state h m) fault.1

  accepted : refuse_if (ltb (length old) (image_words h.memory)) Short (refuse_if (not (holds_fault (moving_view L h) m p)) NoFault None) ≡ None
  accepted = cond-false _ (Some Short) _ (le-ltb (length old) (image_words h.memory) long) ∙ ap (λ b. refuse_if (not b) NoFault None) fault.0

  pub worked_off : (h₁ g : Model) (new : List ℕ) (r : Result (ℕ × ℕ) Refusal) → h₁ ≡ advanced h m (Event.Resolve p) → Serves L h₁ old p g new r → Writes L h old (Call.Resolve m p (length old)) g new (resolve_answer r)
  worked_off h₁ g new (Err e) is short b = absurd (omega (arith, long, subst (λ k. length old < image_words k.memory) (is ∙ run) short))
  worked_off h₁ g new (Ok n) is serves b =
      let x = machine h old b in
      let s = subst (λ k. Serves L k old p g new (Ok n)) (is ∙ run) serves in
      ap (λ o. unless o (turned_down L x (Call.Resolve m p (length old))) (resolve L x m p)) accepted
      ∙ by_phase L x m p h.phase
      ∙ sym (ap₂ (λ y c. outcome y (Answer.Scanned c.0 c.1)) (s.0 b) s.1)
