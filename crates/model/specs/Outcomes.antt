-- What a call leaves and answers.
use Rattle.std.specs.Prelude.{ℕ, Bool, true, false, Option}
use Rattle.memory.specs.declared.refusals.Refusal.{Refusal}
use Rattle.model.specs.declared.calls.Answer.{Answer}
use Rattle.model.specs.declared.calls.Answer.TheVariants.{Refused, Trapped, Done, Same, Kind, Count, Fault, Copied, Scanned, Stepped, Saved}
use Rattle.model.specs.declared.states.State.TheVariants.{Waiting}
use Rattle.model.specs.Heap.{Heap, plus, with_state, with_traps}

-- a heap and the buffer that its image is written to
pub record Machine : Type 0 where
  pub heap : Heap
  pub buffer : ℕ → ℕ

abbrev pub with_heap : Machine → Heap → Machine
with_heap x h = record { heap = h; buffer = x.buffer }

-- what is left, of whatever kind, and the answer
pub record Outcome (A : Type 0) : Type 0 where
  pub left : A
  pub answer : Answer

abbrev pub outcome : {A : Type 0} → A → Answer → Outcome A
outcome x a = record { left = x; answer = a }

abbrev pub done : {A : Type 0} → A → Outcome A
done x = outcome x Done

-- mutator m traps on page p: it waits, and the traps count one more
abbrev pub trapped : Heap → ℕ → ℕ → Outcome Heap
trapped h m p = outcome (with_traps (with_state h m (Waiting p)) (plus h.traps 1)) (Trapped p)

-- a call on the heap alone, whatever the buffer
abbrev pub on_heap : Machine → Outcome Heap → Outcome Machine
on_heap x o = outcome (with_heap x o.left) o.answer

-- refused, or else
abbrev pub unless : {A : Type 0} → Option Refusal → (Refusal → Outcome A) → Outcome A → Outcome A
unless Option.None refused go = go
unless (Option.Some e) refused go = refused e

-- What the never-moving heap is told of an answer: that the call trapped, and on which page; that the STEP ended the
-- collection; that the SAVE sealed the image
pub data Told : Type 0 where
  nothing : Told
  trap : ℕ → Told
  ended : Told
  sealed : Told

abbrev pub told_step : Bool → Told
told_step true = ended
told_step false = nothing

abbrev pub told_save : Bool → Told
told_save true = sealed
told_save false = nothing

abbrev pub told : Answer → Told
told (Refused e) = nothing
told (Trapped p) = trap p
told Done = nothing
told (Same b) = nothing
told (Kind k) = nothing
told (Count n) = nothing
told (Fault p) = nothing
told (Copied n) = nothing
told (Scanned s n) = nothing
told (Stepped e s n) = told_step e
told (Saved e) = told_save e

-- An answer without the counts of words and the news that the never-moving heap is only told of
abbrev pub without_counts : Answer → Answer
without_counts (Refused e) = Refused e
without_counts (Trapped p) = Trapped p
without_counts Done = Done
without_counts (Same b) = Same b
without_counts (Kind k) = Kind k
without_counts (Count n) = Count n
without_counts (Fault p) = Fault p
without_counts (Copied n) = Done
without_counts (Scanned s n) = Done
without_counts (Stepped e s n) = Done
without_counts (Saved e) = Done
