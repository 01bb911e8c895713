-- The heap that never moves an object. It is fed the page size, the pages of a half, the layout and the calls, and told only
-- which call trapped on which page, which STEP ended and which SAVE sealed.
use Rattle.std.specs.Prelude.{ℕ, suc, ◌+◌, ◌-◌, ◌*◌, ◌/◌, Bool, List, [], ◌∷◌, ◌++◌, length, replicate, nat_le, slice_set}
use Rattle.memory.specs.Memory.{changed}
use Rattle.memory.specs.declared.refusals.Refusal.{Refusal}
use Rattle.layouts.specs.Layouts.{Rules}
use Rattle.layouts.specs.declared.values.Value.{Value}
use Rattle.layouts.specs.declared.values.Value.TheVariants.{Nil, Number, Reference}
use Rattle.model.specs.declared.calls.Answer.{Answer}
use Rattle.model.specs.declared.calls.Call.{Call}
use Rattle.model.specs.declared.calls.Call.TheVariants.{New, Load, Store, Copy, SetNumber, SetNil, Same, Tell, Count, Flip, Step, Take, Resolve, Mark, Save}
use Rattle.model.specs.declared.states.Phase.{Phase}
use Rattle.model.specs.declared.states.Phase.TheVariants.{Idle, Collecting, Imaging}
use Rattle.model.specs.declared.states.State.{State}
use Rattle.model.specs.declared.states.State.TheVariants.{Running, Waiting, InHand}
use Rattle.model.specs.Heap.{plus, register_number}
use Rattle.model.specs.Objects.{is_reference, referred, same_value, kind_of}
use Rattle.model.specs.Refusing.{View, refusal, states_refused}
use Rattle.model.specs.Outcomes.{Outcome, outcome, done, unless, Told, Told.nothing, Told.trap, Told.ended, Told.sealed}
use Rattle.model.specs.Faults.{fault_page}
use Rattle.model.specs.Reaching.{Object, object_at, slot_at, reached_words}

pub record Never : Type 0 where
  -- every object that was ever made, in order
  pub objects : List Object
  -- a reference is a place in that list
  pub register : ℕ → Value
  pub state : ℕ → State
  pub phase : Phase
  pub traps : ℕ
  -- L: the words of the objects that the registers reached at the last FLIP
  pub reached : ℕ
  -- N: the words of the objects made since the start or the last FLIP
  pub new : ℕ
  -- U: L + N at the last FLIP
  pub used : ℕ

abbrev pub with_registers : Never → (ℕ → Value) → Never
with_registers a f = record { objects = a.objects; register = f; state = a.state; phase = a.phase; traps = a.traps; reached = a.reached; new = a.new; used = a.used }

abbrev pub with_register : Never → ℕ → ℕ → Value → Never
with_register a m r v = with_registers a (changed a.register (register_number m r) v)

abbrev pub with_objects : Never → List Object → Never
with_objects a xs = record { objects = xs; register = a.register; state = a.state; phase = a.phase; traps = a.traps; reached = a.reached; new = a.new; used = a.used }

abbrev pub with_states : Never → (ℕ → State) → Never
with_states a f = record { objects = a.objects; register = a.register; state = f; phase = a.phase; traps = a.traps; reached = a.reached; new = a.new; used = a.used }

abbrev pub with_state : Never → ℕ → State → Never
with_state a m s = with_states a (changed a.state m s)

abbrev pub with_phase : Never → Phase → Never
with_phase a x = record { objects = a.objects; register = a.register; state = a.state; phase = x; traps = a.traps; reached = a.reached; new = a.new; used = a.used }

abbrev pub with_traps : Never → ℕ → Never
with_traps a n = record { objects = a.objects; register = a.register; state = a.state; phase = a.phase; traps = n; reached = a.reached; new = a.new; used = a.used }

abbrev pub held : Never → ℕ → ℕ → Value
held a m r = a.register (register_number m r)

-- the sizes that it is fed: the words of a page and the pages of a half
pub record Sizes : Type 0 where
  pub page_size : ℕ
  pub half_pages : ℕ

abbrev pub half_size : Sizes → ℕ
half_size z = z.half_pages * z.page_size

-- whole pages for n words, in words
abbrev pub whole_page_words : Sizes → ℕ → ℕ
whole_page_words z n = (n + (z.page_size - 1)) / z.page_size * z.page_size

abbrev pub has_room : Sizes → Never → Phase → ℕ → Bool
has_room z a Idle n = nat_le (a.reached + a.new + n) (half_size z)
has_room z a Collecting n = nat_le (a.new + n) (half_size z - whole_page_words z a.used)
has_room z a Imaging n = nat_le (a.reached + a.new + n) (half_size z)

abbrev pub never_view : Rules → Sizes → Never → View
never_view L z a = record {
  state = a.state;
  phase = a.phase;
  refers = λ k. is_reference (a.register k);
  slots = λ k. length (object_at a.objects (referred (a.register k))).slots;
  admits = λ k i x. L.admits (object_at a.objects (referred (a.register k))).header i (a.register x);
  room = has_room z a a.phase;
  image_words = 70 + half_size z;
}

-- Calls that are not refused

abbrev pub new_object : Rules → ℕ → ℕ → Object
new_object L r w = record { header = L.header r w; slots = replicate r Nil ++ replicate w (Number 0) }

abbrev pub appended : Rules → Never → ℕ → ℕ → Never
appended L a r w = record { objects = a.objects ++ (new_object L r w ∷ []); register = a.register; state = a.state; phase = a.phase; traps = a.traps; reached = a.reached; new = a.new + suc (r + w); used = a.used }

-- slot i of the object at p set to v
abbrev pub assigned : List Object → ℕ → ℕ → Value → List Object
assigned xs p i v = slice_set xs p (record { header = (object_at xs p).header; slots = slice_set (object_at xs p).slots i v })

abbrev pub flipped : Never → Never
flipped a = record { objects = a.objects; register = a.register; state = a.state; phase = Collecting; traps = a.traps; reached = reached_words a.objects a.register; new = 0; used = a.reached + a.new }

-- a STEP or SAVE that is told of ends its phase, another alters nothing
abbrev pub if_ended : Never → Told → Never
if_ended a nothing = a
if_ended a (trap p) = a
if_ended a ended = with_phase a Idle
if_ended a sealed = a

abbrev pub if_sealed : Never → Told → Never
if_sealed a nothing = a
if_sealed a (trap p) = a
if_sealed a ended = a
if_sealed a sealed = with_phase a Idle

abbrev pub never_carried_out : Rules → Never → Call → Told → Outcome Never
never_carried_out L a (New m d r w) t = done (with_register (appended L a r w) m d (Reference (length a.objects)))
never_carried_out L a (Load m d s i) t = done (with_register a m d (slot_at a.objects (referred (held a m s)) i))
never_carried_out L a (Store m s i x) t = done (with_objects a (assigned a.objects (referred (held a m s)) i (held a m x)))
never_carried_out L a (Copy m d f s) t = done (with_register a m d (held a f s))
never_carried_out L a (SetNumber m d n) t = done (with_register a m d (Number n))
never_carried_out L a (SetNil m d) t = done (with_register a m d Nil)
never_carried_out L a (Same m l r) t = outcome a (Answer.Same (same_value (held a m l) (held a m r)))
never_carried_out L a (Tell m s) t = outcome a (Answer.Kind (kind_of (held a m s)))
never_carried_out L a Count t = outcome a (Answer.Count a.traps)
never_carried_out L a Flip t = done (flipped a)
never_carried_out L a Step t = done (if_ended a t)
never_carried_out L a (Take m) t = outcome (with_state a m (InHand (fault_page (a.state m)))) (Answer.Fault (fault_page (a.state m)))
never_carried_out L a (Resolve m p n) t = done (with_state a m Running)
never_carried_out L a (Mark n) t = done (with_phase a Imaging)
never_carried_out L a (Save n) t = done (if_sealed a t)

-- the mutator that makes a call, for those that can trap
abbrev pub caller : Call → ℕ
caller (New m d r w) = m
caller (Load m d s i) = m
caller (Store m s i x) = m
caller (Copy m d f s) = m
caller (SetNumber m d n) = m
caller (SetNil m d) = m
caller (Same m l r) = m
caller (Tell m s) = m
caller Count = 0
caller Flip = 0
caller Step = 0
caller (Take m) = m
caller (Resolve m p n) = m
caller (Mark n) = 0
caller (Save n) = 0

abbrev pub never_told : Rules → Never → Call → Told → Outcome Never
never_told L a c nothing = never_carried_out L a c nothing
never_told L a c ended = never_carried_out L a c ended
never_told L a c sealed = never_carried_out L a c sealed
never_told L a c (trap p) = outcome (with_traps (with_state a (caller c) (Waiting p)) (plus a.traps 1)) (Answer.Trapped p)

abbrev pub never_refused : View → Never → Call → Refusal → Outcome Never
never_refused v a c e = outcome (with_states a (states_refused v c e)) (Answer.Refused e)

abbrev pub never_call : Rules → Sizes → Never → Call → Told → Outcome Never
never_call L z a c t = unless (refusal (never_view L z a) c) (never_refused (never_view L z a) a c) (never_told L a c t)

-- as after MAKE
abbrev pub never_made : Never
never_made = record { objects = []; register = λ k. Nil; state = λ m. Running; phase = Idle; traps = 0; reached = 0; new = 0; used = 0 }

-- the answers to a list of calls, being told of each
abbrev pub never_answers : Rules → Sizes → Never → List Call → List Told → List Answer
never_answers L z a [] ts = []
never_answers L z a (c ∷ cs) [] = []
never_answers L z a (c ∷ cs) (t ∷ ts) = (never_call L z a c t).answer ∷ never_answers L z (never_call L z a c t).left cs ts
