-- What each call does, on the heap that moves objects and on the one that never does.
use Rattle.std.specs.Prelude.{ℕ, suc, ◌+◌, ◌-◌, ◌*◌, ◌/◌, min, Bool, true, false, cond, not, ◌&&◌, ◌||◌, List, [], ◌∷◌, ◌==◌, nat_le, nat_lt}
use Rattle.model.specs.Heap.{plus}
use Rattle.model.specs.Objects.{referred, same_value, kind_of, initial as initial_value}
use Rattle.model.specs.Faults.{fault_page}
use Rattle.model.specs.Never.{caller}
use Rattle.theory.specs.Model.{Layout, upd, sum_to}
use Rattle.layouts.specs.declared.values.Value.{Value}
use Rattle.layouts.specs.declared.values.Value.TheVariants.{Nil, Number, Reference}
use Rattle.theory.specs.Collect.{Heap, St, forward_regs}
use Rattle.theory.specs.Reach.{closed_reached_words}
use Rattle.theory.specs.Buffer.{closed_mark_words, closed_page_words}
use Rattle.theory.specs.Machine.{fault, Shape, half, whole, Found, Found.none, Found.found, refused, trapped, fine, says, number, Machine, Never, at, view_m, view_a, refusal, head_of, is_busy, closed_is_imaging, is_hand, lowest, ran_page, grant}
use Rattle.model.specs.declared.states.State.{State}
use Rattle.model.specs.declared.states.State.TheVariants.{Running, Waiting, InHand}
use Rattle.model.specs.declared.states.Phase.{Phase}
use Rattle.model.specs.declared.states.Phase.TheVariants.{Idle, Collecting, Imaging}
use Rattle.model.specs.declared.calls.Call.{Call}
use Rattle.model.specs.declared.calls.Call.TheVariants.{New, Load, Store, Copy, SetNumber, SetNil, Same, Tell, Count, Flip as Turn, Step, Take, Resolve, Mark, Save}
use Rattle.model.specs.declared.calls.Answer.{Answer}
use Rattle.model.specs.Outcomes.{Told, Told.nothing, Told.trap, Told.ended, Told.sealed}

pub record Outcome : Type 0 where
  pub next : Machine
  pub answer : Answer
  pub told : Told
  pub scanned : ℕ
  pub copied : ℕ

abbrev pub addr_of : Value → ℕ
addr_of v = referred v

abbrev pub closed_same_v : Value → Value → Bool
closed_same_v v w = same_value v w

abbrev pub closed_kind_of : Value → Answer
closed_kind_of v = Answer.Kind (kind_of v)

abbrev pub more : ℕ → ℕ
more n = plus n 1

-- what slot i of a new object holds
abbrev pub initial : ℕ → ℕ → Value
initial r i = initial_value r i

-- and past its last slot nil
abbrev pub initially : ℕ → ℕ → ℕ → Value
initially r w i = cond (nat_lt i (r + w)) (initial r i) Nil

-- parts of the machine replaced
abbrev pub with_reg : Machine → (ℕ → Value) → Machine
with_reg m reg = record { st = m.st; scan = m.scan; pend = m.pend; side = m.side; used = m.used; reg = reg; mut = m.mut; phase = m.phase; count = m.count; buf = m.buf; mark = m.mark }

abbrev pub with_st : Machine → St → Machine
with_st m s = record { st = s; scan = m.scan; pend = m.pend; side = m.side; used = m.used; reg = m.reg; mut = m.mut; phase = m.phase; count = m.count; buf = m.buf; mark = m.mark }

abbrev pub with_scan : Machine → St → (ℕ → ℕ) → Machine
with_scan m s scan = record { st = s; scan = scan; pend = m.pend; side = m.side; used = m.used; reg = m.reg; mut = m.mut; phase = m.phase; count = m.count; buf = m.buf; mark = m.mark }

abbrev pub with_mut : Machine → (ℕ → State) → Machine
with_mut m mut = record { st = m.st; scan = m.scan; pend = m.pend; side = m.side; used = m.used; reg = m.reg; mut = mut; phase = m.phase; count = m.count; buf = m.buf; mark = m.mark }

abbrev pub did : Machine → Answer → Outcome
did m x = record { next = m; answer = x; told = nothing; scanned = 0; copied = 0 }

-- a trap of mutator k on page p
abbrev pub traps : Machine → ℕ → ℕ → Outcome
traps m k p = record {
  next = record { st = m.st; scan = m.scan; pend = m.pend; side = m.side; used = m.used; reg = m.reg; mut = upd m.mut k (Waiting p); phase = m.phase; count = more m.count; buf = m.buf; mark = m.mark };
  answer = trapped p;
  told = trap p;
  scanned = 0;
  copied = 0;
}

-- an object of header h for r and w placed below the others
abbrev pub place : Layout → St → ℕ → ℕ → St
place L s r w = record {
  mem = λ x. cond (nat_le (s.low - suc (r + w)) x && nat_lt x s.low) (cond (x == s.low - suc (r + w)) (L.make r w) (L.pack (L.make r w) (x - suc (s.low - suc (r + w))) (initial r (x - suc (s.low - suc (r + w)))))) (s.mem x);
  top = s.top;
  low = s.low - suc (r + w);
  right = s.right;
  cross = s.cross;
}

abbrev pub write : St → ℕ → ℕ → St
write s a w = record { mem = upd s.mem a w; top = s.top; low = s.low; right = s.right; cross = s.cross }

-- page n of to-space has an unscanned word
abbrev pub behind : Shape → Machine → ℕ → Bool
behind H m n = nat_le (m.side * half H) (n * H.page) && nat_lt (m.scan n) (min (n * H.page + H.page) m.st.top)

abbrev pub lowest_behind : Shape → Machine → Found
lowest_behind H m = lowest H.pages (m.side * H.pages) (behind H m)

abbrev pub scan_page : Shape → Machine → ℕ → Machine
scan_page H m n = with_scan m (grant (ran_page H.lay H.page m.st m.scan n).0 n 2) (upd m.scan n (ran_page H.lay H.page m.st m.scan n).1)

-- to-space at all, and idle
abbrev pub finish : Shape → Machine → Machine
finish H m = record {
  st = record { mem = m.st.mem; top = m.st.top; low = m.st.low; right = λ n. cond (nat_le (m.side * H.pages) n && nat_lt n (m.side * H.pages + H.pages)) 2 (m.st.right n); cross = m.st.cross };
  scan = m.scan;
  pend = m.pend;
  side = m.side;
  used = m.used;
  reg = m.reg;
  mut = m.mut;
  phase = Idle;
  count = m.count;
  buf = m.buf;
  mark = m.mark;
}

abbrev pub used_now : Shape → Machine → ℕ
used_now H m = (m.st.top - m.side * half H) + (m.side * half H + half H - m.st.low)

-- halves swapped, rights set
abbrev pub swapped : Shape → Machine → St
swapped H m = record {
  mem = m.st.mem;
  top = (1 - m.side) * half H;
  low = (1 - m.side) * half H + half H;
  right = λ n. cond (nat_le ((1 - m.side) * H.pages) n && nat_lt n ((1 - m.side) * H.pages + H.pages)) (cond (nat_lt (n * H.page) ((1 - m.side) * half H + whole H.page (used_now H m))) 0 2) 0;
  cross = m.st.cross;
}

abbrev pub turned : Shape → Machine → Machine
turned H m = record {
  st = (forward_regs H.lay H.page (swapped H m) m.reg 32).0;
  scan = λ n. n * H.page;
  pend = m.pend;
  side = 1 - m.side;
  used = used_now H m;
  reg = (forward_regs H.lay H.page (swapped H m) m.reg 32).1;
  mut = m.mut;
  phase = Collecting;
  count = m.count;
  buf = m.buf;
  mark = m.mark;
}

-- the count of words scanned on page n, and of words copied since
abbrev pub scanned_on : Machine → Machine → ℕ → ℕ
scanned_on m m' n = m'.scan n - m.scan n

abbrev pub copied_since : Machine → Machine → ℕ
copied_since m m' = m'.st.top - m.st.top

-- a STEP after its page, if any, is scanned
abbrev pub stepped : Shape → Machine → ℕ → ℕ → Found → Outcome
stepped H m sc co none = record { next = finish H m; answer = fine; told = ended; scanned = sc; copied = co }
stepped H m sc co (found n) = record { next = m; answer = fine; told = nothing; scanned = sc; copied = co }

abbrev pub step : Shape → Machine → Found → Outcome
step H m none = stepped H m 0 0 none
step H m (found n) = stepped H (scan_page H m n) (scanned_on m (scan_page H m n) n) (copied_since m (scan_page H m n)) (lowest_behind H (scan_page H m n))

abbrev pub closed_page_of : State → ℕ
closed_page_of s = fault_page s

-- page n of to-space has a used word
abbrev pub closed_used_page : Shape → Machine → ℕ → Bool
closed_used_page H m n = (nat_le (m.side * H.pages) n && nat_lt n (m.side * H.pages + H.pages)) && (nat_lt (n * H.page) m.st.top || nat_lt m.st.low (n * H.page + H.page))

-- what an image changes replaced: rights, unsaved pages, phase, buffer and the lowest new word at MARK
abbrev pub with_image : Machine → (ℕ → ℕ) → (ℕ → Bool) → Phase → (ℕ → ℕ) → ℕ → Machine
with_image m right pend phase buf mark = record {
  st = record { mem = m.st.mem; top = m.st.top; low = m.st.low; right = right; cross = m.st.cross };
  scan = m.scan;
  pend = pend;
  side = m.side;
  used = m.used;
  reg = m.reg;
  mut = m.mut;
  phase = phase;
  count = m.count;
  buf = buf;
  mark = mark;
}

abbrev pub mark_now : Shape → Machine → Machine
mark_now H m = with_image m (λ n. cond (closed_used_page H m n) (min 1 (m.st.right n)) (m.st.right n)) (closed_used_page H m) Imaging (closed_mark_words H m) m.st.low

abbrev pub save_page : Shape → Machine → ℕ → Machine
save_page H m n = with_image m (upd m.st.right n 2) (upd m.pend n false) Imaging (closed_page_words H m n) m.mark

abbrev pub lowest_pend : Shape → Machine → Found
lowest_pend H m = lowest H.pages (m.side * H.pages) m.pend

-- word 0 set, and idle
abbrev pub seal : Shape → Machine → Machine
seal H m = with_image m m.st.right m.pend Idle (upd m.buf 0 H.page) m.mark

abbrev pub saved : Shape → Machine → Found → Outcome
saved H m none = record { next = seal H m; answer = fine; told = sealed; scanned = 0; copied = 0 }
saved H m (found n) = did m fine

abbrev pub save : Shape → Machine → Found → Outcome
save H m none = saved H m none
save H m (found n) = saved H (save_page H m n) (lowest_pend H (save_page H m n))

-- RESOLVE while no page is to be scanned: a page is saved if imaging and unsaved
abbrev pub resolved_save : Shape → Machine → ℕ → ℕ → Bool → Outcome
resolved_save H m k n true = did (with_mut (save_page H m n) (upd m.mut k Running)) fine
resolved_save H m k n false = did (with_mut m (upd m.mut k Running)) fine

abbrev pub resolved : Shape → Machine → ℕ → ℕ → Bool → Outcome
resolved H m k n true = record { next = with_mut (scan_page H m n) (upd m.mut k Running); answer = fine; told = nothing; scanned = scanned_on m (scan_page H m n) n; copied = copied_since m (scan_page H m n) }
resolved H m k n false = resolved_save H m k n (closed_is_imaging m.phase && m.pend n)

abbrev pub closed_new_at : Shape → Machine → ℕ → ℕ → ℕ → ℕ → Found → Outcome
closed_new_at H m k d r w (found p) = traps m k p
closed_new_at H m k d r w none = did (with_st (with_reg m (upd m.reg (at k d) (Reference (m.st.low - suc (r + w))))) (place H.lay m.st r w)) fine

-- the address of slot i of the object in register s of mutator k
abbrev pub slot_at : Machine → ℕ → ℕ → ℕ → ℕ
slot_at m k s i = addr_of (m.reg (at k s)) + suc i

-- a slot brought to a register, a register put into a slot
abbrev pub loaded : Shape → Machine → ℕ → ℕ → ℕ → ℕ → Machine
loaded H m k d s i = with_reg m (upd m.reg (at k d) (H.lay.unpack (head_of m.st.mem (m.reg (at k s))) i (m.st.mem (slot_at m k s i))))

abbrev pub stored : Shape → Machine → ℕ → ℕ → ℕ → ℕ → Machine
stored H m k s i x = with_st m (write m.st (slot_at m k s i) (H.lay.pack (head_of m.st.mem (m.reg (at k s))) i (m.reg (at k x))))

-- a call that is not refused
abbrev pub act : Shape → Machine → Call → Outcome
act H m (New k d r w) = closed_new_at H m k d r w (lowest (suc ((m.st.low - 1) / H.page - (m.st.low - suc (r + w)) / H.page)) ((m.st.low - suc (r + w)) / H.page) (λ n. not (m.st.right n == 2)))
act H m (Load k d s i) = cond (m.st.right (slot_at m k s i / H.page) == 0) (traps m k (slot_at m k s i / H.page)) (did (loaded H m k d s i) fine)
act H m (Store k s i x) = cond (m.st.right (slot_at m k s i / H.page) == 2) (did (stored H m k s i x) fine) (traps m k (slot_at m k s i / H.page))
act H m (Copy k d f s) = did (with_reg m (upd m.reg (at k d) (m.reg (at f s)))) fine
act H m (SetNil k d) = did (with_reg m (upd m.reg (at k d) Nil)) fine
act H m (SetNumber k d n) = did (with_reg m (upd m.reg (at k d) (Number n))) fine
act H m (Same k a b) = did m (says (closed_same_v (m.reg (at k a)) (m.reg (at k b))))
act H m (Tell k s) = did m (closed_kind_of (m.reg (at k s)))
act H m Count = did m (number m.count)
act H m Turn = record { next = turned H m; answer = fine; told = nothing; scanned = 0; copied = (turned H m).st.top - (1 - m.side) * half H }
act H m Step = step H m (lowest_behind H m)
act H m (Take k) = did (with_mut m (upd m.mut k (InHand (closed_page_of (m.mut k))))) (fault (closed_page_of (m.mut k)))
act H m (Resolve k p n) = resolved H m k p (is_busy m.phase && behind H m p)
act H m (Mark n) = did (mark_now H m) fine
act H m (Save n) = save H m (lowest_pend H m)

-- a refused call alters nothing, but that RESOLVE's 5 sets the mutator back to waiting
abbrev pub hand_back : (ℕ → State) → ℕ → ℕ → (ℕ → State)
hand_back mut k p = cond (nat_lt k 4 && is_hand p (mut k)) (upd mut k (Waiting p)) mut

abbrev pub denied : Machine → Call → ℕ → Machine
denied m (New k d r w) e = m
denied m (Load k d s i) e = m
denied m (Store k s i x) e = m
denied m (Copy k d f s) e = m
denied m (SetNumber k d n) e = m
denied m (SetNil k d) e = m
denied m (Same k x y) e = m
denied m (Tell k s) e = m
denied m Count e = m
denied m Turn e = m
denied m Step e = m
denied m (Take k) e = m
denied m (Resolve k p n) e = with_mut m (cond (e == 5) (hand_back m.mut k p) m.mut)
denied m (Mark n) e = m
denied m (Save n) e = m

abbrev pub call : Shape → Machine → Call → Outcome
call H m c = cond (refusal (view_m H m) c == 0) (act H m c) (did (denied m c (refusal (view_m H m) c)) (refused (refusal (view_m H m) c)))

-- the never-moving heap

pub record Reply : Type 0 where
  pub next : Never
  pub answer : Answer

abbrev pub n_reg : Never → (ℕ → Value) → Never
n_reg a reg = record { heap = a.heap; reg = reg; mut = a.mut; phase = a.phase; count = a.count; l = a.l; n = a.n; u = a.u }

abbrev pub n_heap : Never → Heap → Never
n_heap a h = record { heap = h; reg = a.reg; mut = a.mut; phase = a.phase; count = a.count; l = a.l; n = a.n; u = a.u }

abbrev pub n_mut : Never → (ℕ → State) → Never
n_mut a mut = record { heap = a.heap; reg = a.reg; mut = mut; phase = a.phase; count = a.count; l = a.l; n = a.n; u = a.u }

abbrev pub reply : Never → Answer → Reply
reply a x = record { next = a; answer = x }

-- the object for r and w appended
abbrev pub append : Layout → Heap → ℕ → ℕ → Heap
append L A r w = record {
  many = suc A.many;
  hdr = upd A.hdr A.many (L.make r w);
  val = λ p i. cond (p == A.many) (initially r w i) (A.val p i);
}

-- slot i of place p set to v
abbrev pub assign : Heap → ℕ → ℕ → Value → Heap
assign A p i v = record { many = A.many; hdr = A.hdr; val = λ q j. cond (q == p && j == i) v (A.val q j) }

abbrev pub n_end : Never → Told → Never
n_end a nothing = a
n_end a (trap p) = a
n_end a sealed = a
n_end a ended = record { heap = a.heap; reg = a.reg; mut = a.mut; phase = Idle; count = a.count; l = a.l; n = a.n; u = a.u }

abbrev pub n_phase : Never → Phase → Never
n_phase a ph = record { heap = a.heap; reg = a.reg; mut = a.mut; phase = ph; count = a.count; l = a.l; n = a.n; u = a.u }

abbrev pub n_save : Never → Told → Never
n_save a nothing = a
n_save a (trap p) = a
n_save a ended = a
n_save a sealed = n_phase a Idle

abbrev pub who : Call → ℕ
who c = caller c

abbrev pub n_act : Shape → Never → Call → Told → Reply
n_act H a (New k d r w) t = reply (record { heap = append H.lay a.heap r w; reg = upd a.reg (at k d) (Reference a.heap.many); mut = a.mut; phase = a.phase; count = a.count; l = a.l; n = a.n + suc (r + w); u = a.u }) fine
n_act H a (Load k d s i) t = reply (n_reg a (upd a.reg (at k d) (a.heap.val (addr_of (a.reg (at k s))) i))) fine
n_act H a (Store k s i x) t = reply (n_heap a (assign a.heap (addr_of (a.reg (at k s))) i (a.reg (at k x)))) fine
n_act H a (Copy k d f s) t = reply (n_reg a (upd a.reg (at k d) (a.reg (at f s)))) fine
n_act H a (SetNil k d) t = reply (n_reg a (upd a.reg (at k d) Nil)) fine
n_act H a (SetNumber k d n) t = reply (n_reg a (upd a.reg (at k d) (Number n))) fine
n_act H a (Same k x y) t = reply a (says (closed_same_v (a.reg (at k x)) (a.reg (at k y))))
n_act H a (Tell k s) t = reply a (closed_kind_of (a.reg (at k s)))
n_act H a Count t = reply a (number a.count)
n_act H a Turn t = reply (record { heap = a.heap; reg = a.reg; mut = a.mut; phase = Collecting; count = a.count; l = closed_reached_words H.lay a.heap 32 a.reg; n = 0; u = a.l + a.n }) fine
n_act H a Step t = reply (n_end a t) fine
n_act H a (Take k) t = reply (n_mut a (upd a.mut k (InHand (closed_page_of (a.mut k))))) (fault (closed_page_of (a.mut k)))
n_act H a (Resolve k p n) t = reply (n_mut a (upd a.mut k Running)) fine
n_act H a (Mark n) t = reply (n_phase a Imaging) fine
n_act H a (Save n) t = reply (n_save a t) fine

abbrev pub n_told : Shape → Never → Call → Told → Reply
n_told H a c nothing = n_act H a c nothing
n_told H a c ended = n_act H a c ended
n_told H a c sealed = n_act H a c sealed
n_told H a c (trap p) = reply (record { heap = a.heap; reg = a.reg; mut = upd a.mut (who c) (Waiting p); phase = a.phase; count = more a.count; l = a.l; n = a.n; u = a.u }) (trapped p)

abbrev pub n_denied : Never → Call → ℕ → Never
n_denied a (New k d r w) e = a
n_denied a (Load k d s i) e = a
n_denied a (Store k s i x) e = a
n_denied a (Copy k d f s) e = a
n_denied a (SetNumber k d n) e = a
n_denied a (SetNil k d) e = a
n_denied a (Same k x y) e = a
n_denied a (Tell k s) e = a
n_denied a Count e = a
n_denied a Turn e = a
n_denied a Step e = a
n_denied a (Take k) e = a
n_denied a (Resolve k p n) e = n_mut a (cond (e == 5) (hand_back a.mut k p) a.mut)
n_denied a (Mark n) e = a
n_denied a (Save n) e = a

abbrev pub n_call : Shape → Never → Call → Told → Reply
n_call H a c t = cond (refusal (view_a H a) c == 0) (n_told H a c t) (reply (n_denied a c (refusal (view_a H a) c)) (refused (refusal (view_a H a) c)))

-- the heap as after MAKE, with a buffer that has these words
abbrev pub fresh_m : Shape → (ℕ → ℕ) → Machine
fresh_m H lent = record {
  st = record { mem = λ a. 0; top = 0; low = half H; right = λ n. cond (nat_lt n H.pages) 2 0; cross = λ n. 0 };
  scan = λ n. cond (nat_lt n 64) 0 (n * H.page);
  pend = λ n. false;
  side = 0;
  used = 0;
  reg = λ k. Nil;
  mut = λ k. Running;
  phase = Idle;
  count = 0;
  buf = lent;
  mark = 0;
}

abbrev pub fresh_a : Never
fresh_a = record { heap = record { many = 0; hdr = λ p. 0; val = λ p i. Nil }; reg = λ k. Nil; mut = λ k. Running; phase = Idle; count = 0; l = 0; n = 0; u = 0 }

-- the words of to-space scanned so far
abbrev pub scanned_all : Shape → Machine → ℕ
scanned_all H m = sum_to H.pages (λ k. m.scan (m.side * H.pages + k) - (m.side * H.pages + k) * H.page)

-- runs
abbrev pub run_m : Shape → Machine → List Call → List Outcome
run_m H m [] = []
run_m H m (c ∷ cs) = call H m c ∷ run_m H (call H m c).next cs

abbrev pub answers : List Outcome → List Answer
answers [] = []
answers (o ∷ os) = o.answer ∷ answers os

abbrev pub run_a : Shape → Never → List Call → List Outcome → List Answer
run_a H a [] os = []
run_a H a (c ∷ cs) [] = []
run_a H a (c ∷ cs) (o ∷ os) = (n_call H a c o.told).answer ∷ run_a H (n_call H a c o.told).next cs os
