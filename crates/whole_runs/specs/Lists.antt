-- What carrying out a list of calls answers and leaves.
use Rattle.std.specs.Prelude.{◌≡◌, ℕ, ◌%◌, ◌≤◌, ◌&&◌, List, length, take, drop, Ok, Err, Option, Result, ◌==◌, nat_lt}
use Rattle.memory.specs.Memory.{Memory}
use Rattle.memory.specs.declared.refusals.Refusal.{Refusal}
use Rattle.memory.specs.declared.refusals.Refusal.TheVariants.{Size, Short}
use Rattle.memory.specs.declared.refusals.Rejected.{Rejected}
use Rattle.layouts.specs.Layouts.{Rules}
use Rattle.model.specs.declared.calls.Answer.{Answer}
use Rattle.model.specs.declared.calls.Call.{Call}
use Rattle.model.specs.Heap.{Heap as Model}
use Rattle.model.specs.Outcomes.{Machine, outcome}
use Rattle.model.specs.Calls.{call, after, answers}
use Rattle.model.specs.Refusing.{refuse_if}
use Rattle.model.specs.Never.{never_answers}
use Rattle.model.specs.Runs.{Both, sizes_of, tellings, without_all_counts}
use Rattle.model.specs.Promises.{KeepsItsPromises}
use Rattle.restoring.specs.Restored.{image_view}
use Rattle.whole_runs.specs.Calls.{within, all_within}

-- a heap with a buffer
abbrev pub with_buffer : Model → List ℕ → Machine
with_buffer h xs = record { heap = h; buffer = image_view xs }

-- the call takes the heap h to g and the buffer old to new, with this answer
abbrev pub Carries : Rules → Model → List ℕ → Call → Model → List ℕ → Answer → Type 0
Carries L h old c g new a = call L (with_buffer h old) (within (length old) c) ≡ outcome (with_buffer g new) a

-- All of cs carried out from x on. old and new are the places for answers, before and after: the first of them have the answers,
-- and the others are as they were. The buffer is left with these words, and the host with this memory.
pub record CarriedOn (L : Rules) (x : Machine) (cs : List Call) (old new : List Answer) (buffer : List ℕ) (m : Memory) : Type 0 where
  pub answered : take (length cs) new ≡ answers L x cs
  pub others : drop (length cs) new ≡ drop (length cs) old
  pub buffer_left : image_view buffer ≡ (after L x cs).buffer
  pub memory : m ≡ (after L x cs).heap.memory

-- The same from a start, which keeps its promises. These answers are as if nothing moved: they are those of the heap that never
-- moves an object, being told only of what trapped, and on which page, which STEP ended and which SAVE sealed.
pub record CarriedOut (L : Rules) (start : Both) (cs : List Call) (old new : List Answer) (buffer : List ℕ) (m : Memory) : Type 0 where
  pub places : length cs ≤ length old
  pub carried : CarriedOn L start.moving cs old new buffer m
  pub as_if_nothing_moved : never_answers L (sizes_of start.moving) start.never cs (tellings (take (length cs) new)) ≡ without_all_counts (take (length cs) new)
  pub promises : KeepsItsPromises L start

-- MAKE's refusal
abbrev pub make_refusal : Memory → Option Refusal
make_refusal m = refuse_if (m.page_count % 2 == 1) Size Option.None

-- a refusal for want of places for the answers, number 5, comes behind one for the page count, number 1
abbrev pub unless_places : Memory → ℕ → ℕ → Option Refusal → Option Refusal
unless_places m places calls rest = refuse_if (m.page_count % 2 == 0 && nat_lt places calls) Short rest

module _ {H L : Type 0} (rules : Rules) (means : H → Memory) where
  -- A list carried out from a start, on a host that comes back. before and behind are the buffer, entered and left. Or nothing is
  -- carried out: for want of places, or because the start was refused.
  abbrev pub Ran : Option Refusal → Both → H → L → List Call → List Answer → List Answer → List ℕ → List ℕ → Result (H × L) (Rejected (H × L)) → Type 0
  Ran refused start host layout cs old new before behind (Ok p) =
      (unless_places (means host) (length old) (length cs) refused ≡ Option.None)
      × CarriedOut rules start (all_within (length before) cs) old new behind (means p.0)
      × (p.1 ≡ layout)
  Ran refused start host layout cs old new before behind (Err e) =
      (unless_places (means host) (length old) (length cs) refused ≡ Option.Some e.refusal)
      × (e.given ≡ (host, layout))
      × (new ≡ old)
      × (behind ≡ before)
