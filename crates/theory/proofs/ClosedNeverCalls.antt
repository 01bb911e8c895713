-- The never-moving heap's calls, each as in its closed form.
use Rattle.std.proofs.Common.{◌≡◌, ℕ, suc, ◌+◌, ◌-◌, ◌/◌, ◌<◌, ◌≤◌, true, cond, not, ◌&&◌, eqb, ltb, length, Option, sym, refl, ap, ◌∙◌, arith}
use Rattle.std.proofs.lemmas.Bool.{false≢true, ne_eqb}
use Rattle.std.proofs.lemmas.Bool.Decides.{nat_tests}
use Rattle.memory.specs.Refusals.{number}
use Rattle.memory.specs.declared.refusals.Refusal.{Refusal}
use Rattle.layouts.specs.Layouts.{Rules, Lawful}
use Rattle.layouts.specs.declared.values.Value.{Value}
use Rattle.layouts.specs.declared.values.Value.TheVariants.{Nil, Number, Reference}
use Rattle.model.specs.declared.calls.Answer.TheVariants as Answer
use Rattle.model.specs.declared.calls.Call.{Call}
use Rattle.model.specs.declared.calls.Call.TheVariants.{New, Load, Store, Copy, SetNumber, SetNil, Same, Tell, Count, Flip, Step, Take, Resolve, Mark, Save}
use Rattle.model.specs.declared.states.Phase.{Phase}
use Rattle.model.specs.declared.states.Phase.TheVariants.{Idle, Collecting, Imaging}
use Rattle.model.specs.Objects.{some_or_0, slot_count, is_reference, referred}
use Rattle.model.specs.declared.states.State.TheVariants.{Waiting}
use Rattle.model.specs.Refusing.{View, refusal, no_mutator, is_in_hand, states_refused}
use Rattle.model.specs.Outcomes.{Outcome, unless, Told, Told.nothing, Told.trap, Told.ended, Told.sealed}
use Rattle.model.specs.Reaching.{object_at}
use Rattle.model.specs.Never.{Never, Sizes, has_room, never_view, never_carried_out, never_told, never_refused, never_call, held, flipped, with_states}
use Rattle.theory.specs.Model.{upd}
use Rattle.theory.specs.Collect.{Heap}
use Rattle.theory.specs.Machine.{Shape, half, whole, is_busy, view_a, head_of, refused, refusal as closed_refusal, Never as ClosedNeverMoving}
use Rattle.theory.specs.Steps.{Reply, n_act, n_told, n_denied, n_call}
use Rattle.theory.specs.Closed.{both_halves, closed_shape, closed_never}
use Rattle.theory.proofs.ClosedRefusals.{back_as, mutator_as, code, some_number, refusal_of_number, head_referred, SameView, refusals_same, new_accepted, store_accepted}
use Rattle.theory.proofs.ClosedNever.{appended_as, assigned_as, Headed, headed_new, headed_assigned}
use Rattle.theory.proofs.ClosedReached.{words_as}

-- what a call leaves and answers is that of the closed form, and every header still tells its slots
pub record NeverMeets (L : Rules) (o : Outcome Never) (r : Reply) : Type 0 where
  pub left : closed_never o.left ≡ r.next
  pub answer : o.answer ≡ r.answer
  pub headed : Headed L o.left.objects

-- the registers refer to objects of the list
abbrev pub InRange : Never → Type 0
InRange a = (k p : ℕ) → k < 32 → a.register k ≡ Reference p → p < length a.objects

module _ (L : Rules) (lawful : Lawful L) (count size : ℕ) (small : both_halves count size ≤ 16384) where
  abbrev H : Shape
  H = closed_shape L count size small

  abbrev pub sizes : Sizes
  sizes = record { page_size = size; half_pages = count / 2 }

  module _ (a : Never) (headed : Headed L a.objects) (within : InRange a) where
    abbrev v : View
    v = never_view L sizes a

    slots_as : (x : Value) → ((p : ℕ) → x ≡ Reference p → p < length a.objects) → is_reference x ≡ true → length (object_at a.objects (referred x)).slots ≡ slot_count L (head_of (closed_never a).heap.hdr x)
    slots_as Nil h t = absurd (false≢true t)
    slots_as (Number n) h t = absurd (false≢true t)
    slots_as (Reference p) h t = sym (ap some_or_0 (headed p (h p refl)))

    room_as : (x : Phase) (z : ℕ) → not (has_room sizes a x (suc z)) ≡ cond (is_busy x) (ltb (half H - whole size a.used) (a.new + suc z)) (ltb (half H) (a.reached + a.new + suc z))
    room_as Idle z = grind (arith, nat_tests)
    room_as Collecting z = grind (arith, nat_tests)
    room_as Imaging z = grind (arith, nat_tests)

    pub same_view : SameView v (view_a H (closed_never a))
    same_view = record {
      states = refl;
      phases = refl;
      refers = λ k. refl;
      slots = λ k l t. slots_as (a.register k) (λ p e. within k p l e) t;
      admits = λ k i x l t. ap (λ h. L.admits h i (a.register x)) (sym (head_referred (closed_never a).heap.hdr (a.register k) t));
      room = λ z. room_as a.phase z;
      image_words = refl;
    }

    abbrev with_placed : (c : ClosedNeverMoving) → Heap → ClosedNeverMoving
    with_placed c A = record { heap = A; reg = c.reg; mut = c.mut; phase = c.phase; count = c.count; l = c.l; n = c.n; u = c.u }

    abbrev with_reached : Never → ℕ → Never
    with_reached b n = record { objects = b.objects; register = b.register; state = b.state; phase = b.phase; traps = b.traps; reached = n; new = b.new; used = b.used }

    meets_ended : (t : Told) → NeverMeets L (never_carried_out L a Step t) (n_act H (closed_never a) Step t)
    meets_ended nothing = record { left = refl; answer = refl; headed = headed }
    meets_ended ended = record { left = refl; answer = refl; headed = headed }
    meets_ended sealed = record { left = refl; answer = refl; headed = headed }
    meets_ended (trap p) = record { left = refl; answer = refl; headed = headed }

    meets_sealed : (n : ℕ) (t : Told) → NeverMeets L (never_carried_out L a (Save n) t) (n_act H (closed_never a) (Save n) t)
    meets_sealed n nothing = record { left = refl; answer = refl; headed = headed }
    meets_sealed n ended = record { left = refl; answer = refl; headed = headed }
    meets_sealed n sealed = record { left = refl; answer = refl; headed = headed }
    meets_sealed n (trap p) = record { left = refl; answer = refl; headed = headed }

    meets_carried : (c : Call) → refusal v c ≡ Option.None → (t : Told) → NeverMeets L (never_carried_out L a c t) (n_act H (closed_never a) c t)
    meets_carried (New m d r w) e t = record {
      left = ap (with_placed (n_act H (closed_never a) (New m d r w) t).next) (appended_as L a.objects r w);
      answer = refl;
      headed = headed_new L lawful a.objects headed r w (new_accepted v m d r w e).0;
    }
    meets_carried (Load m d o j) e t = record { left = refl; answer = refl; headed = headed }
    meets_carried (Store m o j x) e t =
        let s = (store_accepted v m o j x e).0 in
        record {
          left = ap (with_placed (closed_never a)) (assigned_as a.objects (referred (held a m o)) j (held a m x) s.slot);
          answer = refl;
          headed = headed_assigned L a.objects headed (referred (held a m o)) j (held a m x) s.slot;
        }
    meets_carried (Copy m d f o) e t = record { left = refl; answer = refl; headed = headed }
    meets_carried (SetNumber m d n) e t = record { left = refl; answer = refl; headed = headed }
    meets_carried (SetNil m d) e t = record { left = refl; answer = refl; headed = headed }
    meets_carried (Same m x y) e t = record { left = refl; answer = refl; headed = headed }
    meets_carried (Tell m o) e t = record { left = refl; answer = refl; headed = headed }
    meets_carried Count e t = record { left = refl; answer = refl; headed = headed }
    meets_carried Flip e t = record { left = ap (λ n. closed_never (with_reached (flipped a) n)) (words_as L a.objects headed a.register); answer = refl; headed = headed }
    meets_carried Step e t = meets_ended t
    meets_carried (Take m) e t = record { left = refl; answer = refl; headed = headed }
    meets_carried (Resolve m p n) e t = record { left = refl; answer = refl; headed = headed }
    meets_carried (Mark n) e t = record { left = refl; answer = refl; headed = headed }
    meets_carried (Save n) e t = meets_sealed n t

    meets_told : (c : Call) → refusal v c ≡ Option.None → (t : Told) → NeverMeets L (never_told L a c t) (n_told H (closed_never a) c t)
    meets_told c e nothing = meets_carried c e nothing
    meets_told c e ended = meets_carried c e ended
    meets_told c e sealed = meets_carried c e sealed
    meets_told c e (trap p) = record { left = refl; answer = refl; headed = headed }

    met_refused : (c : Call) (e : Refusal) → closed_never (with_states a (states_refused v c e)) ≡ n_denied (closed_never a) c (number e) → NeverMeets L (never_refused v a c e) (record { next = n_denied (closed_never a) c (number e); answer = refused (number e) })
    met_refused c e q = record { left = q; answer = ap Answer.Refused (sym (refusal_of_number e)); headed = headed }

    meets_refused : (c : Call) (e : Refusal) → NeverMeets L (never_refused v a c e) (record { next = n_denied (closed_never a) c (number e); answer = refused (number e) })
    meets_refused (New m d r w) e = met_refused (New m d r w) e refl
    meets_refused (Load m d o j) e = met_refused (Load m d o j) e refl
    meets_refused (Store m o j x) e = met_refused (Store m o j x) e refl
    meets_refused (Copy m d f o) e = met_refused (Copy m d f o) e refl
    meets_refused (SetNumber m d n) e = met_refused (SetNumber m d n) e refl
    meets_refused (SetNil m d) e = met_refused (SetNil m d) e refl
    meets_refused (Same m x y) e = met_refused (Same m x y) e refl
    meets_refused (Tell m o) e = met_refused (Tell m o) e refl
    meets_refused Count e = met_refused Count e refl
    meets_refused Flip e = met_refused Flip e refl
    meets_refused Step e = met_refused Step e refl
    meets_refused (Take m) e = met_refused (Take m) e refl
    meets_refused (Mark n) e = met_refused (Mark n) e refl
    meets_refused (Save n) e = met_refused (Save n) e refl
    meets_refused (Resolve m p n) e = met_refused (Resolve m p n) e (ap (λ f. closed_never (with_states a f)) (back_as (eqb (number e) 5) (no_mutator m) (is_in_hand p (a.state m)) (upd a.state m (Waiting p)) a.state ∙ ap (λ t. cond (eqb (number e) 5) (cond (t && is_in_hand p (a.state m)) (upd a.state m (Waiting p)) a.state) a.state) (mutator_as m)))

    -- by the refusal's number
    meets_by : (c : Call) (t : Told) (o : Option Refusal) → refusal v c ≡ o → (n : ℕ) → code o ≡ n →
        NeverMeets L (unless o (never_refused v a c) (never_told L a c t)) (cond (eqb n 0) (n_told H (closed_never a) c t) (record { next = n_denied (closed_never a) c n; answer = refused n }))
    meets_by c t Option.None q n e = rw (← e) (meets_told c q t)
    meets_by c t (Option.Some x) q n e = rw (← e, ne_eqb (number x) 0 (some_number x)) (meets_refused c x)

    pub never_meets : (c : Call) (t : Told) → NeverMeets L (never_call L sizes a c t) (n_call H (closed_never a) c t)
    never_meets c t = meets_by c t (refusal v c) refl (closed_refusal (view_a H (closed_never a)) c) (refusals_same v (view_a H (closed_never a)) same_view c)
