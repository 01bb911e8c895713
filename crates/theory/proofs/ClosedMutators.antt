-- The mutators' calls on the moving heap are those of its closed form.
use Rattle.std.proofs.Common.{◌≡◌, ℕ, zero, suc, ◌+◌, ◌-◌, ◌*◌, ◌/◌, ◌<◌, ◌≤◌, min, Bool, true, false, cond, not, ◌&&◌, eqb, ltb, leb, ◌⊎◌, Ok, Err, Option, sym, refl, ap, ◌∙◌, inl, inr, le_refl, mul-le-mul_right, mul_assoc, lt_of_mul-lt-mul_right, le_of_mul-le-mul_right, arith}
use Rattle.std.proofs.lemmas.Bool.{cases_eq, cases_Bool, false≢true, eq-eqb, ne_eqb, not-false}
use Rattle.std.proofs.lemmas.Bool.Decides.{nat_tests}
use Rattle.std.proofs.lemmas.Nat.{mul-le}
use Rattle.memory.specs.Rights.{rank, may_write}
use Rattle.memory.specs.Memory.{Memory, legal_sizes, extent, look_answer, put_answer, with_word, after_put}
use Rattle.memory.specs.declared.hosts.Denied.TheVariants.{Fault}
use Rattle.memory.specs.Refusals.{number}
use Rattle.memory.specs.declared.refusals.Refusal.{Refusal}
use Rattle.memory.proofs.Memories.{after_put_allowed}
use Rattle.layouts.specs.Layouts.{Rules, Lawful}
use Rattle.layouts.specs.declared.values.Value.TheVariants.{Reference}
use Rattle.model.specs.declared.calls.Answer.TheVariants as Answer
use Rattle.model.specs.declared.calls.Call.{Call}
use Rattle.model.specs.declared.calls.Call.TheVariants.{New, Load, Store, Copy, SetNumber, SetNil, Same, Tell, Count, Flip, Step, Take, Resolve, Mark, Save}
use Rattle.model.specs.declared.states.Phase.{Phase}
use Rattle.model.specs.declared.states.Phase.TheVariants.{Idle, Collecting, Imaging}
use Rattle.model.specs.Heap.{Heap as MovingHeap, plus, whole_pages, to_start, register_number, with_memory, with_new_start, with_register, with_states}
use Rattle.model.specs.Objects.{slot_count, is_reference, referred, packed_word, initial}
use Rattle.model.specs.declared.states.State.TheVariants.{Waiting}
use Rattle.model.specs.Refusing.{View, refusal, no_mutator, is_in_hand, states_refused}
use Rattle.model.specs.Outcomes.{Machine, with_heap, Outcome, unless, on_heap, told, without_counts}
use Rattle.model.specs.Scanning.{lowest as lowest_of}
use Rattle.model.specs.Mutators.{held, new_limit, object_put, unsaved_in, new_at, header_in, slot_address, load_by, store_by}
use Rattle.model.specs.Collections.{copied_in, scanned_in}
use Rattle.model.specs.Calls.{moving_view, carried_out, turned_down, call}
use Rattle.theory.specs.Model.{upd}
use Rattle.theory.specs.Collect.{Flip as Flipping}
use Rattle.theory.specs.Machine.{Shape, half, whole, Found, Found.none, Found.found, lowest, view_m, fine, refused, refusal as closed_refusal, is_busy, Machine as Closed, Never as ClosedNeverMoving}
use Rattle.theory.specs.Steps.{Outcome as ClosedOutcome, act, denied, call as closed_call, traps, did, loaded, stored, closed_new_at, place}
use Rattle.theory.specs.Closed.{closed_layout, both_halves, closed_shape, closed}
use Rattle.theory.specs.Mutating.{is_mutator_call}
use Rattle.theory.proofs.Basics.{div_mono, page_lo, aligned, whole_covers, lowest_fails, twice}
use Rattle.theory.proofs.Copy.{in_to, start_top}
use Rattle.theory.proofs.World.{World, Body, Phased}
use Rattle.theory.proofs.Rights.{InTo, Rights, RightsOf}
use Rattle.theory.proofs.Sim.{holder, new_space}
use Rattle.theory.proofs.ClosedLaws.{closed_laws, size_positive, size_few, count_few}
use Rattle.theory.proofs.ClosedRefusals.{back_as, mutator_as, code, refusal_of_number, some_number, refusals_same, head_referred, SameView, SlotAccepted, new_accepted, load_accepted, store_accepted}
use Rattle.theory.proofs.ClosedKept.{Kept, kept_refl, kept_as}
use Rattle.theory.proofs.ClosedWrites.{look_as, put_as, writes_as, object_written}

-- what a call leaves and answers is that of the closed form; the sizes stay, and the rights past the last page
pub record Meets (x : Machine) (o : Outcome Machine) (r : ClosedOutcome) : Type 0 where
  pub left : closed o.left ≡ r.next
  pub answer : without_counts o.answer ≡ r.answer
  pub told_same : told o.answer ≡ r.told
  pub kept : Kept x.heap.memory o.left.heap.memory
  pub copied_same : copied_in o.answer ≡ r.copied
  pub scanned_same : scanned_in o.answer ≡ r.scanned

-- Searches

abbrev pub found_of : Option ℕ → Found
found_of Option.None = none
found_of (Option.Some p) = found p

pub lowest_none : (k n : ℕ) (f : ℕ → Bool) → ((q : ℕ) → n ≤ q → q < n + k → f q ≡ false) → lowest k n f ≡ none
lowest_none zero n f h = refl
lowest_none (suc k) n f h = rw (h n (le_refl _) (omega arith)) (lowest_none k (suc n) f (λ q l m. h q (omega arith) (omega arith)))

pub lowest_as : (k n : ℕ) (f g : ℕ → Bool) → ((q : ℕ) → n ≤ q → q < n + k → f q ≡ g q) → lowest k n f ≡ found_of (lowest_of k n g)
unfolding lowest_of
lowest_as zero n f g h = refl
lowest_as (suc k) n f g h = rw (h n (le_refl _) (omega arith)) (by (g n) (lowest_as k (suc n) f g (λ q l m. h q (omega arith) (omega arith))))
  where
    by : (t : Bool) → lowest k (suc n) f ≡ found_of (lowest_of k (suc n) g) → cond t (found n) (lowest k (suc n) f) ≡ found_of (cond t (Option.Some n) (lowest_of k (suc n) g))
    by true e = refl
    by false e = e

-- to-space ends inside
pub ends_inside : (count size sd : ℕ) → sd ≤ 1 → sd * (count / 2 * size) + count / 2 * size ≤ count * size
ends_inside count size sd l =
    let m = mul-le (count / 2 + count / 2) size count size (omega arith) (le_refl _) in
    elim (cases_eq sd 0) [
      | inl e ↦ rw e (omega arith)
      | inr ne ↦ (let e : sd ≡ 1 = omega arith in rw e (omega arith))
    ]

module _ (L : Rules) (lawful : Lawful L) (count size : ℕ) (small : both_halves count size ≤ 16384) (legal : legal_sizes count size ≡ true) (x : Machine)
    (es : x.heap.memory.page_size ≡ size) (ec : x.heap.memory.page_count ≡ count)
    (F : Flipping) (a : ClosedNeverMoving) (w : World (closed_shape L count size small) F (closed x) a) (rights : RightsOf (closed_shape L count size small) (closed x)) where
  pos : 0 < size
  pos = size_positive count size legal

  abbrev H : Shape
  H = closed_shape L count size small

  abbrev h : MovingHeap
  h = x.heap

  abbrev m : Memory
  m = x.heap.memory

  abbrev c : Closed
  c = closed x

  abbrev b : Body H F c.st c.scan c.side c.used c.reg c.phase a.heap a.reg a.l a.n a.u
  b = w.body

  abbrev v : View
  v = moving_view L h

  last_inside : F.last ≤ extent m
  last_inside = rw (es, ec) (omega (arith, b.last, b.start, ends_inside count size c.side b.which))

  last_small : F.last ≤ 16384
  last_small = b.ok.small

  -- What a refusal goes by

  -- the whole pages of the words in use at FLIP
  whole_as : Phased H F c.st c.scan c.used a.heap a.l a.u b.pair Collecting → to_start h + whole_pages m h.flip_used * m.page_size ≡ c.side * half H + whole size c.used
  whole_as o =
      let li = b.inv.limits in
      let fits : whole size c.used ≤ half H = omega (arith, o.limit, b.start, b.last) in
      let few : (c.used + (size - 1)) / size ≤ count / 2 = le_of_mul-le-mul_right fits pos in
      let cov = whole_covers size c.used pos in
      let sm = H.small in
      let one = size_few count size legal in
      let e : plus c.used (size - 1) ≡ c.used + (size - 1) = omega arith in
      rw (es, ec, e) (ap (λ z. c.side * half H + z * size) (omega arith))

  room_as : (p : Phase) → Phased H F c.st c.scan c.used a.heap a.l a.u b.pair p → (z : ℕ) → not (leb (plus (new_limit h p) (suc z)) h.new_start) ≡ ltb c.st.low (suc z + cond (is_busy p) (c.side * half H + whole size c.used) c.st.top)
  room_as Idle o z = let l = b.inv.limits in let s = last_small in grind (arith, nat_tests)
  room_as Imaging o z = let l = b.inv.limits in let s = last_small in grind (arith, nat_tests)
  room_as Collecting o z = let l = b.inv.limits in let s = last_small in rw (whole_as o) (grind (arith, nat_tests))

  pub same_view : SameView v (view_m H c)
  same_view = record {
    states = refl;
    phases = refl;
    refers = λ k. refl;
    slots = λ k l t. ap (λ z. slot_count L z) (sym (head_referred m.word (h.register k) t));
    admits = λ k i y l t. ap (λ z. L.admits z i (h.register y)) (sym (head_referred m.word (h.register k) t));
    room = λ z. room_as h.phase b.phased z;
    image_words = rw (es, ec);
  }

  -- LOAD and STORE

  -- the slot of an object that a register refers to lies inside
  slot_inside : (k o i : ℕ) → SlotAccepted v k o i → slot_address h k o i < extent m
  slot_inside k o i s =
      let r = register_number k o in
      let e = b.regs r s.named in
      let p = holder H (closed_laws L lawful) pos F c a w (a.reg r) (h.register r) e.0 e.1 s.refers in
      at p.0 p.3 p.2 s.slot
    where
      at : (p : ℕ) → h.register (register_number k o) ≡ Reference (b.pair.to p) → b.pair.live p ≡ true → i < slot_count L (m.word (referred (h.register (register_number k o)))) → slot_address h k o i < extent m
      at p e l f =
          let f₁ : i < slot_count L (m.word (b.pair.to p)) = rw e at f in
          let f₂ : i < slot_count L (a.heap.hdr p) = rw (b.inv.head p l) at f₁ in
          rw e (omega (arith, in_to (closed_layout L) F b.ok a.heap c.st b.pair b.inv p (suc i) l (omega arith), last_inside))

  load_both : (k d o i p : ℕ) → is_reference (h.register (register_number k o)) ≡ true → (t : Bool) →
      Meets x (on_heap x (load_by L h k d o i (cond t (Err (Fault p)) (Ok (m.word (slot_address h k o i)))))) (cond t (traps c k p) (did (loaded H c k d o i) fine))
  load_both k d o i p r true = record { left = refl; answer = refl; told_same = refl; kept = kept_refl m; copied_same = refl; scanned_same = refl }
  load_both k d o i p r false = record {
    left = ap (λ z. closed (with_heap x (with_register h k d (L.unpacked z i (m.word (slot_address h k o i)))))) (sym (head_referred m.word (h.register (register_number k o)) r));
    answer = refl;
    told_same = refl;
    kept = kept_refl m;
    copied_same = refl;
    scanned_same = refl;
  }

  meets_load : (k d o i : ℕ) → SlotAccepted v k o i → Meets x (carried_out L x (Load k d o i)) (act H c (Load k d o i))
  meets_load k d o i s = rw (look_at) (load_both k d o i (slot_address h k o i / size) s.refers (eqb (rank (m.right (slot_address h k o i / size))) 0))
    where
      look_at : look_answer m (slot_address h k o i) ≡ cond (eqb (rank (m.right (slot_address h k o i / size))) 0) (Err (Fault (slot_address h k o i / size))) (Ok (m.word (slot_address h k o i)))
      look_at = look_as m (slot_address h k o i) (slot_inside k o i s) ∙ ap (λ z. cond (eqb (rank (m.right (slot_address h k o i / z))) 0) (Err (Fault (slot_address h k o i / z))) (Ok (m.word (slot_address h k o i)))) es

  store_both : (k o i y p : ℕ) → is_reference (h.register (register_number k o)) ≡ true → (t : Bool) → (t ≡ true → after_put m (slot_address h k o i) (packed_word L (header_in h k o) i (held h k y)) ≡ with_word m (slot_address h k o i) (packed_word L (header_in h k o) i (held h k y))) →
      Meets x (on_heap x (store_by L h k o i y (cond t (Ok tt) (Err (Fault p))))) (cond t (did (stored H c k o i y) fine) (traps c k p))
  store_both k o i y p r true e =
      let q = e refl in
      record {
        left = ap (λ z. closed (with_heap x (with_memory h z))) q ∙ ap (λ z. closed (with_heap x (with_memory h (with_word m (slot_address h k o i) (packed_word L z i (held h k y)))))) (sym (head_referred m.word (h.register (register_number k o)) r));
        answer = refl;
        told_same = refl;
        kept = kept_as m _ _ q refl refl refl;
        copied_same = refl;
        scanned_same = refl;
      }
  store_both k o i y p r false e = record { left = refl; answer = refl; told_same = refl; kept = kept_refl m; copied_same = refl; scanned_same = refl }

  meets_store : (k o i y : ℕ) → SlotAccepted v k o i → Meets x (carried_out L x (Store k o i y)) (act H c (Store k o i y))
  meets_store k o i y s =
      rw put_at (store_both k o i y (slot_address h k o i / size) s.refers (eqb (rank (m.right (slot_address h k o i / size))) 2)
      (λ e. after_put_allowed m (slot_address h k o i) (packed_word L (header_in h k o) i (held h k y)) (slot_inside k o i s) (rw es (writes_as (m.right (slot_address h k o i / size)) ∙ e))))
    where
      put_at : put_answer m (slot_address h k o i) ≡ cond (eqb (rank (m.right (slot_address h k o i / size))) 2) (Ok tt) (Err (Fault (slot_address h k o i / size)))
      put_at = put_as m (slot_address h k o i) (slot_inside k o i s) ∙ ap (λ z. cond (eqb (rank (m.right (slot_address h k o i / z))) 2) (Ok tt) (Err (Fault (slot_address h k o i / z)))) es

  -- NEW

  module _ (r n : ℕ) (space : b.pair.limit + suc (r + n) ≤ h.new_start) where
    abbrev z : ℕ
    z = suc (r + n)

    -- where the object lies
    abbrev at : ℕ
    at = h.new_start - suc (r + n)

    behind_at : at + z ≡ h.new_start
    behind_at = omega arith

    -- its pages lie in to-space
    pages_in : (q : ℕ) → at / size ≤ q → q ≤ (h.new_start - 1) / size → InTo H c.side q
    pages_in q l u =
        let li = b.inv.limits in
        let ma = mul_assoc c.side (count / 2) size in
        let st = start_top (closed_layout L) F b.ok a.heap c.st b.pair b.inv in
        let lo : c.side * (count / 2) * size ≤ at = omega (arith, b.start) in
        let al = aligned size (c.side * (count / 2)) at pos lo in
        let up = page_lo size (h.new_start - 1) in
        let hi : (h.new_start - 1) / size * size < (c.side * (count / 2) + count / 2) * size = omega (arith, b.start, b.last) in
        (omega (arith, le_of_mul-le-mul_right al pos), omega (arith, lt_of_mul-lt-mul_right size hi))

    -- the lowest of its pages that is not at all is the lowest unsaved one
    in_run : (q : ℕ) → at / size ≤ q → q < at / size + suc ((h.new_start - 1) / size - at / size) → q ≤ (h.new_start - 1) / size
    in_run q l u = omega (arith, div_mono size at (h.new_start - 1) (omega arith))

    stopped : (p : Phase) → Phased H F c.st c.scan c.used a.heap a.l a.u b.pair p → Rights H c.st c.pend c.scan c.side c.used c.mark p →
        lowest (suc ((h.new_start - 1) / size - at / size)) (at / size) (λ q. not (eqb (rank (m.right q)) 2)) ≡ found_of (unsaved_in h at z p)
    stopped Idle o g = lowest_none _ _ _ (λ q l u. ap not (eq-eqb (rank (m.right q)) 2 (g q (pages_in q l (in_run q l u)))))
    stopped Collecting o g = lowest_none _ _ _ (λ q l u. ap not (eq-eqb (rank (m.right q)) 2 ((g q (pages_in q l (in_run q l u))).0 (above q l))))
      where
        above : (q : ℕ) → at / size ≤ q → c.side * half H + whole size c.used ≤ q * size
        above q l =
            let ma = mul_assoc c.side (count / 2) size in
            let al = aligned size (c.side * (count / 2) + (c.used + (size - 1)) / size) at pos (omega (arith, o.limit, b.start, space)) in
            omega (arith, mul-le-mul_right size l)
    stopped Imaging o g = lowest_as _ _ _ h.unsaved (λ q l u. as_unsaved q (g.1 q (pages_in q l (in_run q l u)))) ∙ ap found_of (rw es (ap (λ y. lowest_of y (at / size) h.unsaved) count_as))
      where
        as_unsaved : (q : ℕ) → (h.unsaved q ≡ false → rank (m.right q) ≡ 2) × (h.unsaved q ≡ true → (rank (m.right q) ≡ 1) × ((q * size < c.st.top) ⊎ (c.mark < q * size + size))) → not (eqb (rank (m.right q)) 2) ≡ h.unsaved q
        as_unsaved q f = elim (cases_Bool (h.unsaved q)) [ inl e ↦ rw ((f.1 e).0, e) | inr e ↦ rw (f.0 e, e) ]

        count_as : suc ((h.new_start - 1) / size - at / size) ≡ min (plus (plus at (z - 1) / size) 1) 64 - at / size
        count_as =
            let pi = pages_in ((h.new_start - 1) / size) (div_mono size at (h.new_start - 1) (omega arith)) (le_refl _) in
            let tw = twice (count / 2) c.side b.which in
            let fe = count_few count size legal in
            let li = b.inv.limits in
            let la = last_small in
            let d = div_mono size at (h.new_start - 1) (omega arith) in
            let e₁ : plus at (z - 1) ≡ h.new_start - 1 = omega arith in
            rw e₁ (omega arith)

    -- the memory with the object
    abbrev after_new : Memory
    after_new = record { page_size = m.page_size; page_count = m.page_count; word = (place (closed_layout L) c.st r n).mem; right = m.right }

    module _ (free : lowest (suc ((h.new_start - 1) / size - at / size)) (at / size) (λ q. not (eqb (rank (m.right q)) 2)) ≡ none) where
      writable : (y : ℕ) → at ≤ y → y < at + z → may_write (m.right (y / m.page_size)) ≡ true
      writable y l u =
          let e = lowest_fails (suc ((h.new_start - 1) / size - at / size)) (at / size) (λ q. not (eqb (rank (m.right q)) 2)) free (y / size) (div_mono size at y l) (omega (arith, div_mono size y (h.new_start - 1) (omega arith))) in
          rw es (writes_as (m.right (y / size)) ∙ not-false (eqb (rank (m.right (y / size))) 2) e)

      object_as : object_put L m at r n ≡ after_new
      object_as = object_written L m at r n (omega (arith, last_inside, b.inv.limits)) writable ∙ ap (λ e. record { page_size = m.page_size; page_count = m.page_count; word = λ y. cond (leb at y && ltb y e) (cond (eqb y at) (L.header r n) (packed_word L (L.header r n) (y - suc at) (initial r (y - suc at)))) (m.word y); right = m.right }) behind_at

    new_both : (k d : ℕ) (f : Option ℕ) → lowest (suc ((h.new_start - 1) / size - at / size)) (at / size) (λ q. not (eqb (rank (m.right q)) 2)) ≡ found_of f →
        Meets x (on_heap x (new_at L h k d r n at f)) (closed_new_at H c k d r n (found_of f))
    new_both k d (Option.Some p) e = record { left = refl; answer = refl; told_same = refl; kept = kept_refl m; copied_same = refl; scanned_same = refl }
    new_both k d Option.None e =
        let q = object_as e in
        record {
          left = ap (λ y. closed (with_heap x (with_register (with_new_start (with_memory h y) at) k d (Reference at)))) q;
          answer = refl;
          told_same = refl;
          kept = kept_as m _ _ q refl refl refl;
          copied_same = refl;
          scanned_same = refl;
        }

    meets_new : (k d : ℕ) → Meets x (carried_out L x (New k d r n)) (act H c (New k d r n))
    meets_new k d = let e = stopped h.phase b.phased rights in rw e (new_both k d (unsaved_in h at z h.phase) e)

  -- Every mutator's call

  new_fits : (k d r n : ℕ) → refusal v (New k d r n) ≡ Option.None → b.pair.limit + suc (r + n) ≤ h.new_start
  new_fits k d r n e = new_space H (closed_laws L lawful) pos F c a w h.phase b.phased (suc (r + n)) (sym (same_view.room (r + n)) ∙ ap not (new_accepted v k d r n e).1)

  pub meets_carried : (k : Call) → is_mutator_call k ≡ true → refusal v k ≡ Option.None → Meets x (carried_out L x k) (act H c k)
  meets_carried (New k d r n) i e = meets_new r n (new_fits k d r n e) k d
  meets_carried (Load k d o j) i e = meets_load k d o j (load_accepted v k d o j e)
  meets_carried (Store k o j y) i e = meets_store k o j y (store_accepted v k o j y e).0
  meets_carried (Copy k d f o) i e = record { left = refl; answer = refl; told_same = refl; kept = kept_refl m; copied_same = refl; scanned_same = refl }
  meets_carried (SetNumber k d n) i e = record { left = refl; answer = refl; told_same = refl; kept = kept_refl m; copied_same = refl; scanned_same = refl }
  meets_carried (SetNil k d) i e = record { left = refl; answer = refl; told_same = refl; kept = kept_refl m; copied_same = refl; scanned_same = refl }
  meets_carried (Same k y z) i e = record { left = refl; answer = refl; told_same = refl; kept = kept_refl m; copied_same = refl; scanned_same = refl }
  meets_carried (Tell k o) i e = record { left = refl; answer = refl; told_same = refl; kept = kept_refl m; copied_same = refl; scanned_same = refl }
  meets_carried Count i e = record { left = refl; answer = refl; told_same = refl; kept = kept_refl m; copied_same = refl; scanned_same = refl }
  meets_carried Flip i e = absurd (false≢true i)
  meets_carried Step i e = absurd (false≢true i)
  meets_carried (Take k) i e = absurd (false≢true i)
  meets_carried (Resolve k p n) i e = absurd (false≢true i)
  meets_carried (Mark n) i e = absurd (false≢true i)
  meets_carried (Save n) i e = absurd (false≢true i)

  met_refused : (k : Call) (e : Refusal) → closed (with_heap x (with_states h (states_refused v k e))) ≡ denied c k (number e) → Meets x (turned_down L x k e) (did (denied c k (number e)) (refused (number e)))
  met_refused k e q = record { left = q; answer = ap Answer.Refused (sym (refusal_of_number e)); told_same = refl; kept = kept_refl m; copied_same = refl; scanned_same = refl }

  pub meets_refused : (k : Call) (e : Refusal) → Meets x (turned_down L x k e) (did (denied c k (number e)) (refused (number e)))
  meets_refused (New k d r n) e = met_refused (New k d r n) e refl
  meets_refused (Load k d o j) e = met_refused (Load k d o j) e refl
  meets_refused (Store k o j y) e = met_refused (Store k o j y) e refl
  meets_refused (Copy k d f o) e = met_refused (Copy k d f o) e refl
  meets_refused (SetNumber k d n) e = met_refused (SetNumber k d n) e refl
  meets_refused (SetNil k d) e = met_refused (SetNil k d) e refl
  meets_refused (Same k y z) e = met_refused (Same k y z) e refl
  meets_refused (Tell k o) e = met_refused (Tell k o) e refl
  meets_refused Count e = met_refused Count e refl
  meets_refused Flip e = met_refused Flip e refl
  meets_refused Step e = met_refused Step e refl
  meets_refused (Take k) e = met_refused (Take k) e refl
  meets_refused (Mark n) e = met_refused (Mark n) e refl
  meets_refused (Save n) e = met_refused (Save n) e refl
  meets_refused (Resolve k p n) e = met_refused (Resolve k p n) e (ap (λ f. closed (with_heap x (with_states h f))) (back_as (eqb (number e) 5) (no_mutator k) (is_in_hand p (h.state k)) (upd h.state k (Waiting p)) h.state ∙ ap (λ t. cond (eqb (number e) 5) (cond (t && is_in_hand p (h.state k)) (upd h.state k (Waiting p)) h.state) h.state) (mutator_as k)))

  -- a call, by its refusal's number
  meets_by : (k : Call) → (refusal v k ≡ Option.None → Meets x (carried_out L x k) (act H c k)) → (o : Option Refusal) → refusal v k ≡ o → (n : ℕ) → code o ≡ n →
      Meets x (unless o (turned_down L x k) (carried_out L x k)) (cond (eqb n 0) (act H c k) (did (denied c k n) (refused n)))
  meets_by k f Option.None q n e = rw (← e) (f q)
  meets_by k f (Option.Some y) q n e = rw (← e, ne_eqb (number y) 0 (some_number y)) (meets_refused k y)

  pub meets_from : (k : Call) → (refusal v k ≡ Option.None → Meets x (carried_out L x k) (act H c k)) → Meets x (call L x k) (closed_call H c k)
  meets_from k f = meets_by k f (refusal v k) refl (closed_refusal (view_m H c) k) (refusals_same v (view_m H c) same_view k)
