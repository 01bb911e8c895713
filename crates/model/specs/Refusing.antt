-- When a call of a list is refused. Both heaps, the moving and the never-moving one, refuse by what is said here.
use Rattle.std.specs.Prelude.{ℕ, suc, ◌+◌, Bool, true, false, cond, not, ◌&&◌, ◌||◌, Option, ◌==◌, nat_le, nat_lt}
use Rattle.memory.specs.Memory.{changed}
use Rattle.memory.specs.Refusals.{number}
use Rattle.memory.specs.declared.refusals.Refusal.{Refusal}
use Rattle.memory.specs.declared.refusals.Refusal.TheVariants.{Name, Shape, Short, Waits, NoReference, Slot, Misfit, NoSpace, Busy, FaultStands, Nothing, NoFault}
use Rattle.model.specs.declared.calls.Call.{Call}
use Rattle.model.specs.declared.calls.Call.TheVariants.{New, Load, Store, Copy, SetNumber, SetNil, Same, Tell, Count, Flip, Step, Take, Resolve, Mark, Save}
use Rattle.model.specs.declared.states.Phase.{Phase}
use Rattle.model.specs.declared.states.Phase.TheVariants.{Idle, Collecting, Imaging}
use Rattle.model.specs.declared.states.State.{State}
use Rattle.model.specs.declared.states.State.TheVariants.{Running, Waiting, InHand}
use Rattle.model.specs.Heap.{register_number}

-- What a refusal goes by. Registers are numbered as in the heap.
pub record View : Type 0 where
  pub state : ℕ → State
  pub phase : Phase
  -- the register holds a reference
  pub refers : ℕ → Bool
  -- the slots of the object that the register refers to
  pub slots : ℕ → ℕ
  -- slot i of the object in the first register admits what the second register holds
  pub admits : ℕ → ℕ → ℕ → Bool
  -- a new object of so many words finds space
  pub room : ℕ → Bool
  -- the words that an image takes
  pub image_words : ℕ

abbrev pub is_running : State → Bool
is_running Running = true
is_running (Waiting p) = false
is_running (InHand p) = false

abbrev pub is_waiting : State → Bool
is_waiting Running = false
is_waiting (Waiting p) = true
is_waiting (InHand p) = false

abbrev pub is_in_hand : ℕ → State → Bool
is_in_hand p Running = false
is_in_hand p (Waiting q) = false
is_in_hand p (InHand q) = q == p

abbrev pub is_idle : Phase → Bool
is_idle Idle = true
is_idle Collecting = false
is_idle Imaging = false

abbrev pub is_collecting : Phase → Bool
is_collecting Idle = false
is_collecting Collecting = true
is_collecting Imaging = false

abbrev pub is_imaging : Phase → Bool
is_imaging Idle = false
is_imaging Collecting = false
is_imaging Imaging = true

-- mutators 0 to 3, registers 0 to 7
abbrev pub no_mutator : ℕ → Bool
no_mutator m = nat_lt 3 m

abbrev pub no_register : ℕ → Bool
no_register r = nat_lt 7 r

-- a refusal if the test passes, else the rest
abbrev pub refuse_if : Bool → Refusal → Option Refusal → Option Refusal
refuse_if b e rest = cond b (Option.Some e) rest

abbrev pub unless_running : View → ℕ → Option Refusal → Option Refusal
unless_running v m rest = refuse_if (not (is_running (v.state m))) Waits rest

-- LOAD and STORE, in the object of register s of mutator m
abbrev pub unless_slot : View → ℕ → ℕ → ℕ → Option Refusal → Option Refusal
unless_slot v m s i rest = refuse_if (not (v.refers (register_number m s))) NoReference (refuse_if (nat_le (v.slots (register_number m s)) i) Slot rest)

-- mutator m, one of the four, is in hand with page p
abbrev pub holds_fault : View → ℕ → ℕ → Bool
holds_fault v m p = not (no_mutator m) && is_in_hand p (v.state m)

abbrev pub all_running : View → Bool
all_running v = is_running (v.state 0) && is_running (v.state 1) && is_running (v.state 2) && is_running (v.state 3)

-- the refusal with the lowest number that fits the call, if any does
abbrev pub refusal : View → Call → Option Refusal
refusal v (New m d r w) = refuse_if (no_mutator m || no_register d) Name (refuse_if (nat_lt 255 (r + w)) Shape (unless_running v m (refuse_if (not (v.room (suc (r + w)))) NoSpace Option.None)))
refusal v (Load m d s i) = refuse_if (no_mutator m || no_register d || no_register s) Name (unless_running v m (unless_slot v m s i Option.None))
refusal v (Store m s i x) = refuse_if (no_mutator m || no_register s || no_register x) Name (unless_running v m (unless_slot v m s i (refuse_if (not (v.admits (register_number m s) i (register_number m x))) Misfit Option.None)))
refusal v (Copy m d f s) = refuse_if (no_mutator m || no_register d || no_mutator f || no_register s) Name (unless_running v m Option.None)
refusal v (SetNumber m d n) = refuse_if (no_mutator m || no_register d) Name (unless_running v m Option.None)
refusal v (SetNil m d) = refuse_if (no_mutator m || no_register d) Name (unless_running v m Option.None)
refusal v (Same m a b) = refuse_if (no_mutator m || no_register a || no_register b) Name (unless_running v m Option.None)
refusal v (Tell m s) = refuse_if (no_mutator m || no_register s) Name (unless_running v m Option.None)
refusal v Count = Option.None
refusal v Flip = refuse_if (not (is_idle v.phase)) Busy (refuse_if (not (all_running v)) FaultStands Option.None)
refusal v Step = refuse_if (not (is_collecting v.phase)) Nothing Option.None
refusal v (Take m) = refuse_if (no_mutator m) Name (refuse_if (not (is_waiting (v.state m))) NoFault Option.None)
refusal v (Resolve m p n) = refuse_if (nat_lt n v.image_words) Short (refuse_if (not (holds_fault v m p)) NoFault Option.None)
refusal v (Mark n) = refuse_if (nat_lt n v.image_words) Short (refuse_if (not (is_idle v.phase)) Busy Option.None)
refusal v (Save n) = refuse_if (nat_lt n v.image_words) Short (refuse_if (not (is_imaging v.phase)) Nothing Option.None)

-- What a refusal leaves of the mutators' states: a fault that is not resolved for want of a buffer, number 5, goes back, and
-- its mutator waits again. No refusal alters anything else.
abbrev pub states_refused : View → Call → Refusal → ℕ → State
states_refused v (New m d r w) e = v.state
states_refused v (Load m d s i) e = v.state
states_refused v (Store m s i x) e = v.state
states_refused v (Copy m d f s) e = v.state
states_refused v (SetNumber m d n) e = v.state
states_refused v (SetNil m d) e = v.state
states_refused v (Same m a b) e = v.state
states_refused v (Tell m s) e = v.state
states_refused v Count e = v.state
states_refused v Flip e = v.state
states_refused v Step e = v.state
states_refused v (Take m) e = v.state
states_refused v (Resolve m p n) e = cond (number e == 5 && holds_fault v m p) (changed v.state m (Waiting p)) v.state
states_refused v (Mark n) e = v.state
states_refused v (Save n) e = v.state
