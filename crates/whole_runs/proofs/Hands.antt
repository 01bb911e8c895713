-- A call that is neither TAKE nor RESOLVE leaves every mutator in hand as it was.
use Rattle.std.proofs.Common.{◌≡◌, ℕ, suc, ◌+◌, Bool, true, false, not, ◌||◌, ltb, Some, None, Ok, Err, Option, Result, sym, refl, ap, ◌∙◌, inl, inr}
use Rattle.std.proofs.lemmas.Bool.{cases_eq, eq-eqb, ne_eqb, cond-true, cond-false, true≢false, false≢true}
use Rattle.memory.specs.Memory.{changed, look_answer, put_answer}
use Rattle.memory.specs.declared.hosts.Denied.{Denied}
use Rattle.memory.specs.declared.hosts.Denied.TheVariants.{Refused, Fault}
use Rattle.memory.specs.declared.refusals.Refusal.{Refusal}
use Rattle.memory.specs.declared.refusals.Refusal.TheVariants.{Name, Shape, Waits, Misfit, NoSpace}
use Rattle.layouts.specs.Layouts.{Rules}
use Rattle.model.specs.declared.calls.Call.{Call}
use Rattle.model.specs.declared.calls.Call.TheVariants.{New, Load, Store, Copy, SetNumber, SetNil, Same, Tell, Count, Flip, Step, Take, Resolve, Mark, Save}
use Rattle.model.specs.declared.states.State.{State}
use Rattle.model.specs.declared.states.State.TheVariants.{Running, Waiting, InHand}
use Rattle.model.specs.Heap.{Heap, register_number}
use Rattle.model.specs.Outcomes.{Machine, Outcome, unless}
use Rattle.model.specs.Refusing.{is_running, no_mutator, no_register, refuse_if, unless_slot, refusal}
use Rattle.model.specs.Mutators.{has_room, new_at, new_place, unsaved_in, denied, load_by, store_by, slot_address}
use Rattle.model.specs.Scanning.{page_scanned, page_counts, lowest_unscanned}
use Rattle.model.specs.Collecting.{step_left, step_on}
use Rattle.model.specs.Images.{page_saved, lowest_unsaved, save_left, save_on}
use Rattle.model.specs.Calls.{moving_view, carried_out, turned_down, call}
use Rattle.whole_runs.specs.Hands.{handed_out}

-- a TAKE or RESOLVE
abbrev pub is_fault_call : Call → Bool
is_fault_call (New m d r w) = false
is_fault_call (Load m d s i) = false
is_fault_call (Store m s i x) = false
is_fault_call (Copy m d f s) = false
is_fault_call (SetNumber m d n) = false
is_fault_call (SetNil m d) = false
is_fault_call (Same m l r) = false
is_fault_call (Tell m s) = false
is_fault_call Count = false
is_fault_call Flip = false
is_fault_call Step = false
is_fault_call (Take m) = true
is_fault_call (Resolve m p n) = true
is_fault_call (Mark n) = false
is_fault_call (Save n) = false

-- the states t leave in hand what the states s do
abbrev pub Kept : (ℕ → State) → (ℕ → State) → Type 0
Kept s t = (k : ℕ) → handed_out (t k) ≡ handed_out (s k)

same : (s : ℕ → State) → Kept s s
same s k = refl

-- a running mutator that waits

running_none : (t : State) → is_running t ≡ true → handed_out t ≡ None
running_none Running e = refl
running_none (Waiting p) e = refl
running_none (InHand p) e = absurd (false≢true e)

traps : (s : ℕ → State) (m p : ℕ) → is_running (s m) ≡ true → Kept s (changed s m (Waiting p))
traps s m p runs k =
    elim (cases_eq m k) [
      | inl e ↦ ap handed_out (cond-true _ (Waiting p) (s k) (eq-eqb m k e)) ∙ sym (running_none (s m) runs) ∙ ap (λ j. handed_out (s j)) e
      | inr n ↦ ap handed_out (cond-false _ (Waiting p) (s k) (ne_eqb m k n))
    ]

-- what is not refused

abbrev is_some : {X : Type 0} → Option X → Bool
is_some None = false
is_some (Some y) = true

pub some_none : {X : Type 0} (y : X) → Some y ≡ None → ⊥
some_none y e = true≢false (ap is_some e)

runs_behind : (b r : Bool) (e : Refusal) (rest : Option Refusal) → refuse_if b e (refuse_if (not r) Waits rest) ≡ None → r ≡ true
runs_behind true r e rest n = absurd (some_none e n)
runs_behind false true e rest n = refl
runs_behind false false e rest n = absurd (some_none Waits n)

runs_last : (a b r : Bool) (e f : Refusal) (rest : Option Refusal) → refuse_if a e (refuse_if b f (refuse_if (not r) Waits rest)) ≡ None → r ≡ true
runs_last true b r e f rest n = absurd (some_none e n)
runs_last false b r e f rest n = runs_behind b r f rest n

either : (s : ℕ → State) (o : Option Refusal) (down : Refusal → Outcome Machine) (go : Outcome Machine) → ((e : Refusal) → Kept s (down e).left.heap.state) → (o ≡ None → Kept s go.left.heap.state) → Kept s (unless o down go).left.heap.state
either s None down go refused accepted = accepted refl
either s (Some e) down go refused accepted = refused e

-- NEW, LOAD and STORE may trap

module _ (L : Rules) (h : Heap) (m : ℕ) (runs : is_running (h.state m) ≡ true) where
  new_kept : (d r w a : ℕ) (o : Option ℕ) → Kept h.state (new_at L h m d r w a o).left.state
  new_kept d r w a (Some p) = traps h.state m p runs
  new_kept d r w a None = same h.state

  denied_kept : (e : Denied) → Kept h.state (denied h m e).left.state
  denied_kept (Refused e) = same h.state
  denied_kept (Fault p) = traps h.state m p runs

  load_kept : (d s i : ℕ) (o : Result ℕ Denied) → Kept h.state (load_by L h m d s i o).left.state
  load_kept d s i (Ok x) = same h.state
  load_kept d s i (Err e) = denied_kept e

  store_kept : (s i x : ℕ) (o : Result (Unit {0}) Denied) → Kept h.state (store_by L h m s i x o).left.state
  store_kept s i x (Ok u) = same h.state
  store_kept s i x (Err e) = denied_kept e

-- STEP and SAVE go by which page is next

step_ends : (h : Heap) (counts : ℕ × ℕ) (o : Option ℕ) → Kept h.state (step_left h counts o).left.state
step_ends h counts None = same h.state
step_ends h counts (Some p) = same h.state

step_kept : (L : Rules) (h : Heap) (o : Option ℕ) → Kept h.state (step_on L h o).left.state
step_kept L h None = step_ends h (0, 0) None
step_kept L h (Some p) = step_ends (page_scanned L h p) (page_counts L h p) (lowest_unscanned (page_scanned L h p))

save_ends : (x : Machine) (o : Option ℕ) → Kept x.heap.state (save_left x o).left.heap.state
save_ends x None = same x.heap.state
save_ends x (Some p) = same x.heap.state

save_kept : (x : Machine) (o : Option ℕ) → Kept x.heap.state (save_on x o).left.heap.state
save_kept x None = save_ends x None
save_kept x (Some p) = save_ends (page_saved x p) (lowest_unsaved (page_saved x p).heap)

-- each call
pub hands_kept : (L : Rules) (x : Machine) (c : Call) → is_fault_call c ≡ false → Kept x.heap.state (call L x c).left.heap.state
hands_kept L x (New m d r w) f =
    let h = x.heap in
    let s = h.state in
    either s (refusal (moving_view L h) (New m d r w)) (turned_down L x (New m d r w)) (carried_out L x (New m d r w)) (λ e. same s)
    (λ n. new_kept L h m (runs_last (no_mutator m || no_register d) (ltb 255 (r + w)) (is_running (s m)) Name Shape (refuse_if (not (has_room h (suc (r + w)))) NoSpace None) n) d r w (new_place h (suc (r + w))) (unsaved_in h (new_place h (suc (r + w))) (suc (r + w)) h.phase))
hands_kept L x (Load m d s i) f =
    let h = x.heap in
    either h.state (refusal (moving_view L h) (Load m d s i)) (turned_down L x (Load m d s i)) (carried_out L x (Load m d s i)) (λ e. same h.state)
    (λ n. load_kept L h m (runs_behind (no_mutator m || no_register d || no_register s) (is_running (h.state m)) Name (unless_slot (moving_view L h) m s i None) n) d s i (look_answer h.memory (slot_address h m s i)))
hands_kept L x (Store m s i v) f =
    let h = x.heap in
    either h.state (refusal (moving_view L h) (Store m s i v)) (turned_down L x (Store m s i v)) (carried_out L x (Store m s i v)) (λ e. same h.state)
    (λ n. store_kept L h m (runs_behind (no_mutator m || no_register s || no_register v) (is_running (h.state m)) Name (unless_slot (moving_view L h) m s i (refuse_if (not ((moving_view L h).admits (register_number m s) i (register_number m v))) Misfit None)) n) s i v (put_answer h.memory (slot_address h m s i)))
hands_kept L x (Copy m d g s) f = either x.heap.state (refusal (moving_view L x.heap) (Copy m d g s)) (turned_down L x (Copy m d g s)) (carried_out L x (Copy m d g s)) (λ e. same x.heap.state) (λ n. same x.heap.state)
hands_kept L x (SetNumber m d n) f = either x.heap.state (refusal (moving_view L x.heap) (SetNumber m d n)) (turned_down L x (SetNumber m d n)) (carried_out L x (SetNumber m d n)) (λ e. same x.heap.state) (λ n. same x.heap.state)
hands_kept L x (SetNil m d) f = either x.heap.state (refusal (moving_view L x.heap) (SetNil m d)) (turned_down L x (SetNil m d)) (carried_out L x (SetNil m d)) (λ e. same x.heap.state) (λ n. same x.heap.state)
hands_kept L x (Same m a b) f = either x.heap.state (refusal (moving_view L x.heap) (Same m a b)) (turned_down L x (Same m a b)) (carried_out L x (Same m a b)) (λ e. same x.heap.state) (λ n. same x.heap.state)
hands_kept L x (Tell m s) f = either x.heap.state (refusal (moving_view L x.heap) (Tell m s)) (turned_down L x (Tell m s)) (carried_out L x (Tell m s)) (λ e. same x.heap.state) (λ n. same x.heap.state)
hands_kept L x Count f = same x.heap.state
hands_kept L x Flip f = either x.heap.state (refusal (moving_view L x.heap) Flip) (turned_down L x Flip) (carried_out L x Flip) (λ e. same x.heap.state) (λ n. same x.heap.state)
hands_kept L x Step f = either x.heap.state (refusal (moving_view L x.heap) Step) (turned_down L x Step) (carried_out L x Step) (λ e. same x.heap.state) (λ n. step_kept L x.heap (lowest_unscanned x.heap))
hands_kept L x (Take m) f = absurd (true≢false f)
hands_kept L x (Resolve m p n) f = absurd (true≢false f)
hands_kept L x (Mark n) f = either x.heap.state (refusal (moving_view L x.heap) (Mark n)) (turned_down L x (Mark n)) (carried_out L x (Mark n)) (λ e. same x.heap.state) (λ n. same x.heap.state)
hands_kept L x (Save n) f = either x.heap.state (refusal (moving_view L x.heap) (Save n)) (turned_down L x (Save n)) (carried_out L x (Save n)) (λ e. same x.heap.state) (λ n. save_kept x (lowest_unsaved x.heap))
