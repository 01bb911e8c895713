-- What a call's contract says of its answer and of what it leaves.
use Rattle.std.specs.Prelude.{◌≡◌, ℕ, suc, ◌^◌, ◌<◌, Bool, List, length, Ok, Err, Option, Result}
use Rattle.memory.specs.declared.refusals.Refusal.{Refusal}
use Rattle.layouts.specs.Layouts.{Rules}
use Rattle.model.specs.Heap.{Heap as Model}
use Rattle.model.specs.Outcomes.{Machine, with_heap, outcome}
use Rattle.model.specs.Calls.{moving_view, call}
use Rattle.model.specs.Mutators.{held, header_in}
use Rattle.model.specs.Objects.{referred}
use Rattle.model.specs.Refusing.{unless_running, unless_slot}
use Rattle.model.specs.declared.calls.Answer.{Answer}
use Rattle.model.specs.declared.calls.Call.{Call}
use Rattle.model.specs.declared.states.Phase.{Phase}
use Rattle.model.specs.declared.states.Phase.TheVariants.{Idle, Collecting, Imaging}
use Rattle.model.specs.Images.{image_words}
use Rattle.images.specs.Lent.{machine, saved_if_unsaved}
use Rattle.model.specs.declared.calls.Kind.{Kind}
use Rattle.heap.specs.declared.heap_state.Object.{Object}
use Rattle.heap.specs.declared.heap_state.Access.{Access}
use Rattle.heap.specs.declared.heap_state.Access.TheVariants.{Done, Trapped}
use Rattle.collector.specs.Steps.{has_ended, scanned_if, counts_if}
use Rattle.collector.specs.declared.pages.Progress.{Progress}
use Rattle.heap.specs.declared.faults.Fault.{Fault}

-- the call takes the heap h to g with this answer, whatever a buffer holds
abbrev pub Does : Rules → Model → Call → Model → Answer → Type 0
Does L h c g a = (b : ℕ → ℕ) → call L (record { heap = h; buffer = b }) c ≡ outcome (record { heap = g; buffer = b }) a

abbrev pub access_answer : Result Access Refusal → Answer
access_answer (Ok Done) = Answer.Done
access_answer (Ok (Trapped p)) = Answer.Trapped p
access_answer (Err e) = Answer.Refused e

abbrev pub same_answer : Result Bool Refusal → Answer
same_answer (Ok b) = Answer.Same b
same_answer (Err e) = Answer.Refused e

abbrev pub tell_answer : Result Kind Refusal → Answer
tell_answer (Ok k) = Answer.Kind k
tell_answer (Err e) = Answer.Refused e

-- the object in register s of mutator m has slot i; or why not
abbrev pub HoldsSlot : Rules → Model → ℕ → ℕ → ℕ → Result Object Refusal → Type 0
HoldsSlot L h m s i (Ok o) = (unless_running (moving_view L h) m (unless_slot (moving_view L h) m s i Option.None) ≡ Option.None) × (o.address.0 ≡ referred (held h m s)) × (o.header ≡ header_in h m s) × (suc i < 2 ^ 32)
HoldsSlot L h m s i (Err e) = unless_running (moving_view L h) m (unless_slot (moving_view L h) m s i Option.None) ≡ Option.Some e

abbrev pub flip_answer : Result ℕ Refusal → Answer
flip_answer (Ok n) = Answer.Copied n
flip_answer (Err e) = Answer.Refused e

abbrev pub step_answer : Result (Progress × (ℕ × ℕ)) Refusal → Answer
step_answer (Ok x) = Answer.Stepped (has_ended x.0) x.1.0 x.1.1
step_answer (Err e) = Answer.Refused e

-- the fault of mutator m, by its page
abbrev pub take_answer : Result Fault Refusal → Answer
take_answer (Ok f) = Answer.Fault f.page
take_answer (Err e) = Answer.Refused e

-- a fault that was handed out is the mutator's, which is one of the four
abbrev pub FaultOf : ℕ → Result Fault Refusal → Type 0
FaultOf m (Ok f) = (f.mutator ≡ m) × (m < 4)
FaultOf m (Err e) = Unit {0}

abbrev pub resolve_answer : Result (ℕ × ℕ) Refusal → Answer
resolve_answer (Ok n) = Answer.Scanned n.0 n.1
resolve_answer (Err e) = Answer.Refused e

-- what the phase asks of page p is done, and these are the words scanned and copied
abbrev pub served : Rules → Machine → ℕ → Phase → Machine
served L x p Idle = x
served L x p Collecting = with_heap x (scanned_if L x.heap p)
served L x p Imaging = saved_if_unsaved x p

abbrev pub counts_served : Rules → Model → ℕ → Phase → ℕ × ℕ
counts_served L h p Idle = (0, 0)
counts_served L h p Collecting = counts_if L h p
counts_served L h p Imaging = (0, 0)

-- the heap h becomes g and the lent words old become new, if an image has room in them
abbrev pub Serves : Rules → Model → List ℕ → ℕ → Model → List ℕ → Result (ℕ × ℕ) Refusal → Type 0
Serves L h old p g new (Ok n) = ((b : ℕ → ℕ) → machine g new b ≡ served L (machine h old b) p h.phase) × (n ≡ counts_served L h p h.phase)
Serves L h old p g new (Err e) = length old < image_words h.memory
