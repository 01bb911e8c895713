-- The heap that moves objects and the one that never does: states, calls, answers and refusals.
use Rattle.std.specs.Prelude.{ℕ, zero, suc, ◌+◌, ◌-◌, ◌*◌, ◌/◌, ◌≤◌, Bool, cond, not, ◌&&◌, ◌||◌, ◌==◌, nat_le, nat_lt}
use Rattle.memory.specs.declared.refusals.Refusal.{Refusal}
use Rattle.memory.specs.declared.refusals.Refusal.TheVariants.{Size, Outside, Name, Short, OtherImage, BadImage, Frames, Waits, NoReference, Slot, Misfit, NoSpace, Busy, FaultStands, Nothing, NoFault}
use Rattle.model.specs.declared.states.State.{State}
use Rattle.model.specs.declared.states.Phase.{Phase}
use Rattle.model.specs.declared.calls.Answer.{Answer}
use Rattle.model.specs.declared.calls.Call.{Call}
use Rattle.model.specs.declared.calls.Call.TheVariants.{New, Load, Store, Copy, SetNumber, SetNil, Same, Tell, Count, Flip as Turn, Step, Take, Resolve, Mark, Save}
use Rattle.model.specs.Objects.{is_reference}
use Rattle.model.specs.Refusing.{is_running, is_waiting, is_in_hand, is_idle, is_collecting, is_imaging}
use Rattle.theory.specs.Model.{Layout, upd}
use Rattle.layouts.specs.declared.values.Value.{Value}
use Rattle.layouts.specs.declared.values.Value.TheVariants.{Nil, Number, Reference}
use Rattle.theory.specs.Collect.{Heap, St, scan_run}

pub record Shape : Type 0 where
  pub lay : Layout
  pub page : ℕ
  pub pages : ℕ
  -- both halves lie below address 16384
  pub small : pages * page + pages * page ≤ 16384

abbrev pub half : Shape → ℕ
half H = H.pages * H.page

-- whole pages that n words take, in words
abbrev pub whole : ℕ → ℕ → ℕ
whole P n = (n + (P - 1)) / P * P

pub data Found : Type 0 where
  none : Found
  found : ℕ → Found

-- Answers

abbrev pub fine : Answer
fine = Answer.Done

abbrev pub trapped : ℕ → Answer
trapped p = Answer.Trapped p

abbrev pub says : Bool → Answer
says b = Answer.Same b

abbrev pub number : ℕ → Answer
number n = Answer.Count n

abbrev pub fault : ℕ → Answer
fault p = Answer.Fault p

-- the refusal of a number
abbrev pub refusal_of : ℕ → Refusal
refusal_of n =
    cond (n == 1) Size (cond (n == 2) Outside (cond (n == 3) Name (cond (n == 4) Refusal.Shape (cond (n == 5) Short (cond (n == 6) OtherImage
    (cond (n == 7) BadImage (cond (n == 9) Frames (cond (n == 11) Waits (cond (n == 12) NoReference (cond (n == 13) Slot (cond (n == 14) Misfit
    (cond (n == 15) NoSpace (cond (n == 16) Busy (cond (n == 17) FaultStands (cond (n == 18) Nothing NoFault)))))))))))))))

abbrev pub refused : ℕ → Answer
refused n = Answer.Refused (refusal_of n)

pub record Machine : Type 0 where
  pub st : St
  pub scan : ℕ → ℕ
  pub pend : ℕ → Bool
  pub side : ℕ
  pub used : ℕ
  pub reg : ℕ → Value
  pub mut : ℕ → State
  pub phase : Phase
  pub count : ℕ
  -- the image's buffer, and the lowest new word at MARK
  pub buf : ℕ → ℕ
  pub mark : ℕ

pub record Never : Type 0 where
  pub heap : Heap
  pub reg : ℕ → Value
  pub mut : ℕ → State
  pub phase : Phase
  pub count : ℕ
  pub l : ℕ
  pub n : ℕ
  pub u : ℕ

-- register r of mutator m
abbrev pub at : ℕ → ℕ → ℕ
at m r = m * 8 + r

-- what a refusal goes by
pub record View : Type 0 where
  pub mut : ℕ → State
  pub phase : Phase
  pub is_ref : ℕ → Bool
  pub slots : ℕ → ℕ
  pub admits : ℕ → ℕ → ℕ → Bool
  pub full : ℕ → Bool
  pub need : ℕ

abbrev pub closed_is_running : State → Bool
closed_is_running s = is_running s

abbrev pub closed_is_waiting : State → Bool
closed_is_waiting s = is_waiting s

abbrev pub is_hand : ℕ → State → Bool
is_hand p s = is_in_hand p s

abbrev pub closed_is_idle : Phase → Bool
closed_is_idle x = is_idle x

abbrev pub is_busy : Phase → Bool
is_busy x = is_collecting x

abbrev pub closed_is_imaging : Phase → Bool
closed_is_imaging x = is_imaging x

abbrev pub refs : Value → Bool
refs v = is_reference v

-- the first of the tests that fails gives its number; 0 if none does
abbrev pub closed_first_of : Bool → ℕ → ℕ → ℕ
closed_first_of b n rest = cond b n rest

abbrev pub bad : ℕ → ℕ → Bool
bad m r = not (nat_lt m 4 && nat_lt r 8)

abbrev pub refusal : View → Call → ℕ
refusal v (New m d r w) = cond (bad m d) 3 (cond (nat_lt 255 (r + w)) 4 (cond (not (closed_is_running (v.mut m))) 11 (cond (v.full (suc (r + w))) 15 0)))
refusal v (Load m d s i) = cond (bad m d || bad m s) 3 (cond (not (closed_is_running (v.mut m))) 11 (cond (not (v.is_ref (at m s))) 12 (cond (nat_le (v.slots (at m s)) i) 13 0)))
refusal v (Store m s i x) = cond (bad m s || bad m x) 3 (cond (not (closed_is_running (v.mut m))) 11 (cond (not (v.is_ref (at m s))) 12 (cond (nat_le (v.slots (at m s)) i) 13 (cond (not (v.admits (at m s) i (at m x))) 14 0))))
refusal v (Copy m d f s) = cond (bad m d || bad f s) 3 (cond (not (closed_is_running (v.mut m))) 11 0)
refusal v (SetNil m d) = cond (bad m d) 3 (cond (not (closed_is_running (v.mut m))) 11 0)
refusal v (SetNumber m d n) = cond (bad m d) 3 (cond (not (closed_is_running (v.mut m))) 11 0)
refusal v (Same m a b) = cond (bad m a || bad m b) 3 (cond (not (closed_is_running (v.mut m))) 11 0)
refusal v (Tell m s) = cond (bad m s) 3 (cond (not (closed_is_running (v.mut m))) 11 0)
refusal v Count = 0
refusal v Turn = cond (not (closed_is_idle v.phase)) 16 (cond (not (closed_is_running (v.mut 0) && closed_is_running (v.mut 1) && closed_is_running (v.mut 2) && closed_is_running (v.mut 3))) 17 0)
refusal v Step = cond (not (is_busy v.phase)) 18 0
refusal v (Take m) = cond (not (nat_lt m 4)) 3 (cond (not (closed_is_waiting (v.mut m))) 19 0)
refusal v (Resolve m p n) = cond (nat_lt n v.need) 5 (cond (not (nat_lt m 4 && is_hand p (v.mut m))) 19 0)
refusal v (Mark n) = cond (nat_lt n v.need) 5 (cond (not (closed_is_idle v.phase)) 16 0)
refusal v (Save n) = cond (nat_lt n v.need) 5 (cond (not (closed_is_imaging v.phase)) 18 0)

-- the word at a register's reference, and a place's header
abbrev pub head_of : (ℕ → ℕ) → Value → ℕ
head_of f Nil = 0
head_of f (Number n) = 0
head_of f (Reference a) = f a

abbrev pub view_m : Shape → Machine → View
view_m H m = record {
  mut = m.mut;
  phase = m.phase;
  is_ref = λ k. refs (m.reg k);
  slots = λ k. H.lay.slots (head_of m.st.mem (m.reg k));
  admits = λ k i x. H.lay.admits (head_of m.st.mem (m.reg k)) i (m.reg x);
  full = λ z. nat_lt m.st.low (z + cond (is_busy m.phase) (m.side * half H + whole H.page m.used) m.st.top);
  need = 70 + half H;
}

abbrev pub view_a : Shape → Never → View
view_a H a = record {
  mut = a.mut;
  phase = a.phase;
  is_ref = λ k. refs (a.reg k);
  slots = λ k. H.lay.slots (head_of a.heap.hdr (a.reg k));
  admits = λ k i x. H.lay.admits (head_of a.heap.hdr (a.reg k)) i (a.reg x);
  full = λ z. cond (is_busy a.phase) (nat_lt (half H - whole H.page a.u) (a.n + z)) (nat_lt (half H) (a.l + a.n + z));
  need = 70 + half H;
}

-- the lowest of the k numbers from n that passes
abbrev pub lowest : ℕ → ℕ → (ℕ → Bool) → Found
lowest zero n f = none
lowest (suc k) n f = cond (f n) (found n) (lowest k (suc n) f)

-- where the object with the first unscanned word of page n begins
abbrev pub begins : ℕ → St → (ℕ → ℕ) → ℕ → ℕ
begins P s scan n = cond (scan n == n * P) (s.cross n) (scan n)

abbrev pub ran_page : Layout → ℕ → St → (ℕ → ℕ) → ℕ → St × ℕ
ran_page L P s scan n = scan_run L P (n * P + P) P s (begins P s scan n) (scan n)

-- page n at right r
abbrev pub grant : St → ℕ → ℕ → St
grant s n r = record { mem = s.mem; top = s.top; low = s.low; right = upd s.right n r; cross = s.cross }
