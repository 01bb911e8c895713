-- Which calls answer as STEP does, and which as SAVE does.
use Rattle.std.proofs.Common.{◌≡◌, ℕ, suc, ◌+◌, Bool, true, false, cond, not, eqb, ◌≢◌, ◌⊎◌, Ok, Err, Option, Result, sym, refl, ap, ◌∙◌, subst, inl, inr, arith}
use Rattle.memory.specs.Memory.{look_answer, put_answer}
use Rattle.memory.specs.declared.hosts.Denied.{Denied}
use Rattle.memory.specs.declared.refusals.Refusal.{Refusal}
use Rattle.memory.specs.declared.refusals.Refusal.TheVariants.{Nothing}
use Rattle.layouts.specs.Layouts.{Rules}
use Rattle.model.specs.declared.calls.Answer.{Answer}
use Rattle.model.specs.declared.calls.Call.{Call}
use Rattle.model.specs.declared.calls.Call.TheVariants.{New, Load, Store, Copy, SetNumber, SetNil, Same, Tell, Count, Flip, Step, Take, Resolve, Mark, Save}
use Rattle.model.specs.declared.states.Phase.TheVariants.{Collecting}
use Rattle.model.specs.Heap.{Heap}
use Rattle.model.specs.Refusing.{refusal, refuse_if, is_collecting}
use Rattle.model.specs.Outcomes.{Machine, Outcome, outcome, unless, with_heap, told, Told.ended}
use Rattle.model.specs.Mutators.{slot_address, new_place, unsaved_in, new_at, load_by, store_by}
use Rattle.model.specs.Scanning.{page_scanned, page_counts, lowest_unscanned}
use Rattle.model.specs.Collecting.{step_left, step_on}
use Rattle.model.specs.Images.{lowest_unsaved, page_saved, save_left, save_on}
use Rattle.model.specs.Faults.{wants_scan, wants_save, runs_again}
use Rattle.model.specs.Calls.{moving_view, carried_out, turned_down, call}
use Rattle.model.specs.Collections.{step_in}
use Rattle.model.specs.Checkpoints.{save_in}
use Rattle.theory.specs.Bounds.{steps}
use Rattle.theory.proofs.StepBound.{step_or}

-- 1 for STEP's, 2 for SAVE's, 0 for any other
abbrev answer_kind : Answer → ℕ
answer_kind (Answer.Refused e) = 0
answer_kind (Answer.Trapped p) = 0
answer_kind Answer.Done = 0
answer_kind (Answer.Same b) = 0
answer_kind (Answer.Kind k) = 0
answer_kind (Answer.Count n) = 0
answer_kind (Answer.Fault p) = 0
answer_kind (Answer.Copied n) = 0
answer_kind (Answer.Scanned s n) = 0
answer_kind (Answer.Stepped e s n) = 1
answer_kind (Answer.Saved e) = 2

abbrev pub call_kind : Call → ℕ
call_kind (New m d r w) = 0
call_kind (Load m d s i) = 0
call_kind (Store m s i x) = 0
call_kind (Copy m d f s) = 0
call_kind (SetNumber m d n) = 0
call_kind (SetNil m d) = 0
call_kind (Same m a b) = 0
call_kind (Tell m s) = 0
call_kind Count = 0
call_kind Flip = 0
call_kind Step = 1
call_kind (Take m) = 0
call_kind (Resolve m p n) = 0
call_kind (Mark n) = 0
call_kind (Save n) = 2

step_by_kind : (a : Answer) → step_in a ≡ cond (eqb (answer_kind a) 1) 1 0
step_by_kind (Answer.Refused e) = refl
step_by_kind (Answer.Trapped p) = refl
step_by_kind Answer.Done = refl
step_by_kind (Answer.Same b) = refl
step_by_kind (Answer.Kind k) = refl
step_by_kind (Answer.Count n) = refl
step_by_kind (Answer.Fault p) = refl
step_by_kind (Answer.Copied n) = refl
step_by_kind (Answer.Scanned s n) = refl
step_by_kind (Answer.Stepped e s n) = refl
step_by_kind (Answer.Saved e) = refl

save_by_kind : (a : Answer) → save_in a ≡ cond (eqb (answer_kind a) 2) 1 0
save_by_kind (Answer.Refused e) = refl
save_by_kind (Answer.Trapped p) = refl
save_by_kind Answer.Done = refl
save_by_kind (Answer.Same b) = refl
save_by_kind (Answer.Kind k) = refl
save_by_kind (Answer.Count n) = refl
save_by_kind (Answer.Fault p) = refl
save_by_kind (Answer.Copied n) = refl
save_by_kind (Answer.Scanned s n) = refl
save_by_kind (Answer.Stepped e s n) = refl
save_by_kind (Answer.Saved e) = refl

steps_by_kind : (c : Call) → steps c ≡ cond (eqb (call_kind c) 1) 1 0
steps_by_kind (New m d r w) = refl
steps_by_kind (Load m d s i) = refl
steps_by_kind (Store m s i x) = refl
steps_by_kind (Copy m d f s) = refl
steps_by_kind (SetNumber m d n) = refl
steps_by_kind (SetNil m d) = refl
steps_by_kind (Same m a b) = refl
steps_by_kind (Tell m s) = refl
steps_by_kind Count = refl
steps_by_kind Flip = refl
steps_by_kind Step = refl
steps_by_kind (Take m) = refl
steps_by_kind (Resolve m p n) = refl
steps_by_kind (Mark n) = refl
steps_by_kind (Save n) = refl

-- only an answer of STEP's tells that it ended
ended_kind : (a : Answer) → told a ≡ ended → answer_kind a ≡ 1
ended_kind (Answer.Refused e) t = absurd (let z : ◌≡◌ {A = ℕ} 0 1 = cc in omega arith)
ended_kind (Answer.Trapped p) t = absurd (let z : ◌≡◌ {A = ℕ} 0 1 = cc in omega arith)
ended_kind Answer.Done t = absurd (let z : ◌≡◌ {A = ℕ} 0 1 = cc in omega arith)
ended_kind (Answer.Same b) t = absurd (let z : ◌≡◌ {A = ℕ} 0 1 = cc in omega arith)
ended_kind (Answer.Kind k) t = absurd (let z : ◌≡◌ {A = ℕ} 0 1 = cc in omega arith)
ended_kind (Answer.Count n) t = absurd (let z : ◌≡◌ {A = ℕ} 0 1 = cc in omega arith)
ended_kind (Answer.Fault p) t = absurd (let z : ◌≡◌ {A = ℕ} 0 1 = cc in omega arith)
ended_kind (Answer.Copied n) t = absurd (let z : ◌≡◌ {A = ℕ} 0 1 = cc in omega arith)
ended_kind (Answer.Scanned s n) t = absurd (let z : ◌≡◌ {A = ℕ} 0 1 = cc in omega arith)
ended_kind (Answer.Stepped e s n) t = refl
ended_kind (Answer.Saved true) t = absurd (let z : ◌≡◌ {A = ℕ} 0 1 = cc in omega arith)
ended_kind (Answer.Saved false) t = absurd (let z : ◌≡◌ {A = ℕ} 0 1 = cc in omega arith)

-- Calls that are not refused

new_kind : (L : Rules) (h : Heap) (m d r w a : ℕ) (f : Option ℕ) → answer_kind (new_at L h m d r w a f).answer ≡ 0
new_kind L h m d r w a Option.None = refl
new_kind L h m d r w a (Option.Some p) = refl

load_kind : (L : Rules) (h : Heap) (m d s i : ℕ) (r : Result ℕ Denied) → answer_kind (load_by L h m d s i r).answer ≡ 0
load_kind L h m d s i (Ok x) = refl
load_kind L h m d s i (Err (Denied.Refused e)) = refl
load_kind L h m d s i (Err (Denied.Fault p)) = refl

store_kind : (L : Rules) (h : Heap) (m s i x : ℕ) (r : Result (Unit {0}) Denied) → answer_kind (store_by L h m s i x r).answer ≡ 0
store_kind L h m s i x (Ok u) = refl
store_kind L h m s i x (Err (Denied.Refused e)) = refl
store_kind L h m s i x (Err (Denied.Fault p)) = refl

save_left_kind : (x : Machine) (f : Option ℕ) → answer_kind (save_left x f).answer ≡ 2
save_left_kind x Option.None = refl
save_left_kind x (Option.Some p) = refl

save_kind : (x : Machine) (f : Option ℕ) → answer_kind (save_on x f).answer ≡ 2
save_kind x Option.None = refl
save_kind x (Option.Some p) = save_left_kind (page_saved x p) (lowest_unsaved (page_saved x p).heap)

step_left_kind : (h : Heap) (counts : ℕ × ℕ) (f : Option ℕ) → answer_kind (step_left h counts f).answer ≡ 1
step_left_kind h counts Option.None = refl
step_left_kind h counts (Option.Some p) = refl

module _ (L : Rules) (x : Machine) where
  step_kind : (f : Option ℕ) → answer_kind (step_on L x.heap f).answer ≡ 1
  step_kind Option.None = refl
  step_kind (Option.Some p) = step_left_kind (page_scanned L x.heap p) (page_counts L x.heap p) (lowest_unscanned (page_scanned L x.heap p))

  resolve_kind : (m p : ℕ) (t u : Bool) →
      answer_kind (cond {A = Outcome Machine} t (outcome (runs_again (with_heap x (page_scanned L x.heap p)) m) (Answer.Scanned (page_counts L x.heap p).0 (page_counts L x.heap p).1)) (cond u (outcome (runs_again (page_saved x p) m) (Answer.Scanned 0 0)) (outcome (runs_again x m) (Answer.Scanned 0 0)))).answer ≡ 0
  resolve_kind m p true u = refl
  resolve_kind m p false true = refl
  resolve_kind m p false false = refl

  carried_kind : (c : Call) → answer_kind (carried_out L x c).answer ≡ call_kind c
  carried_kind (New m d r w) = new_kind L x.heap m d r w (new_place x.heap (suc (r + w))) (unsaved_in x.heap (new_place x.heap (suc (r + w))) (suc (r + w)) x.heap.phase)
  carried_kind (Load m d s i) = load_kind L x.heap m d s i (look_answer x.heap.memory (slot_address x.heap m s i))
  carried_kind (Store m s i y) = store_kind L x.heap m s i y (put_answer x.heap.memory (slot_address x.heap m s i))
  carried_kind (Copy m d f s) = refl
  carried_kind (SetNumber m d n) = refl
  carried_kind (SetNil m d) = refl
  carried_kind (Same m a b) = refl
  carried_kind (Tell m s) = refl
  carried_kind Count = refl
  carried_kind Flip = refl
  carried_kind Step = step_kind (lowest_unscanned x.heap)
  carried_kind (Take m) = refl
  carried_kind (Resolve m p n) = resolve_kind m p (wants_scan x.heap p) (wants_save x.heap p)
  carried_kind (Mark n) = refl
  carried_kind (Save n) = save_kind x (lowest_unsaved x.heap)

  -- Every call

  kind_by : (c : Call) (o : Option Refusal) → (o ≡ Option.None → answer_kind (unless o (turned_down L x c) (carried_out L x c)).answer ≡ call_kind c) × (o ≢ Option.None → answer_kind (unless o (turned_down L x c) (carried_out L x c)).answer ≡ 0)
  kind_by c Option.None = ((λ e. carried_kind c), λ ne. absurd (ne refl))
  kind_by c (Option.Some y) = ((λ e. absurd (let z : ◌≡◌ {A = ℕ} 0 1 = cc in omega arith)), λ ne. refl)

  accepted_kind : (c : Call) → refusal (moving_view L x.heap) c ≡ Option.None → answer_kind (call L x c).answer ≡ call_kind c
  accepted_kind c e = (kind_by c (refusal (moving_view L x.heap) c)).0 e

  refused_kind : (c : Call) → refusal (moving_view L x.heap) c ≢ Option.None → answer_kind (call L x c).answer ≡ 0
  refused_kind c e = (kind_by c (refusal (moving_view L x.heap) c)).1 e

  is_none : (o : Option Refusal) → (o ≡ Option.None) ⊎ (o ≢ Option.None)
  is_none Option.None = inl refl
  is_none (Option.Some y) = inr (λ e. let z : ◌≡◌ {A = ℕ} 0 1 = cc in omega arith)

  -- the answer's kind is the call's, or that of a refusal
  either_kind : (c : Call) → (answer_kind (call L x c).answer ≡ call_kind c) ⊎ (answer_kind (call L x c).answer ≡ 0)
  either_kind c = elim (is_none (refusal (moving_view L x.heap) c)) [ inl e ↦ inl (accepted_kind c e) | inr e ↦ inr (refused_kind c e) ]

  pub stepless : (c : Call) → steps c ≡ 0 → step_in (call L x c).answer ≡ 0
  stepless c e = elim (either_kind c) [
    | inl k ↦ step_by_kind (call L x c).answer ∙ ap (λ z. cond (eqb z 1) 1 0) k ∙ sym (steps_by_kind c) ∙ e
    | inr k ↦ step_by_kind (call L x c).answer ∙ ap (λ z. cond (eqb z 1) 1 0) k
  ]

  pub steps_as : x.heap.phase ≡ Collecting → (c : Call) → step_in (call L x c).answer ≡ steps c
  steps_as busy c = elim (step_or c) [
    | inl e ↦ stepless c e ∙ sym e
    | inr e ↦ subst (λ k. step_in (call L x k).answer ≡ steps k) (sym e) (step_by_kind (call L x Step).answer ∙ ap (λ z. cond (eqb z 1) 1 0) (accepted_kind Step (ap (λ z. refuse_if (not (is_collecting z)) Nothing Option.None) busy)))
  ]

  -- the call that ends a collection
  pub ends_by_step : (c : Call) → told (call L x c).answer ≡ ended → c ≡ Step
  ends_by_step c t = elim (step_or c) [
    | inl e ↦ absurd (let z : ◌≡◌ {A = ℕ} 0 1 = sym (stepless c e) ∙ step_by_kind (call L x c).answer ∙ ap (λ k. cond (eqb k 1) 1 0) (ended_kind (call L x c).answer t) in omega arith)
    | inr e ↦ e
  ]

  -- SAVEs that are accepted
  pub saves_accepted : (c : Call) → refusal (moving_view L x.heap) c ≡ Option.None → save_in (call L x c).answer ≡ cond (eqb (call_kind c) 2) 1 0
  saves_accepted c e = save_by_kind (call L x c).answer ∙ ap (λ z. cond (eqb z 2) 1 0) (accepted_kind c e)

  pub saves_refused : (c : Call) → refusal (moving_view L x.heap) c ≢ Option.None → save_in (call L x c).answer ≡ 0
  saves_refused c e = save_by_kind (call L x c).answer ∙ ap (λ z. cond (eqb z 2) 1 0) (refused_kind c e)
