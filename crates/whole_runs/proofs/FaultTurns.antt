-- What calls leave at hand.
use Rattle.std.proofs.Common.{◌≡◌, ℕ, ◌<◌, Bool, true, false, cond, not, ◌&&◌, eqb, ltb, List, [], ◌∷◌, length, get_or, set, Some, None, Option, sym, refl, ap, ◌∙◌, subst, ap₂, inl, inr, arith}
use Rattle.std.proofs.lemmas.List.{get_or-replicate, get_or-set_same, get_or-set_other}
use Rattle.std.proofs.lemmas.Bool.{cases_eq, eq-eqb, ne_eqb, eqb-true, not-false, cond-true, cond-false, lt-ltb, ltb-false, true≢false, false≢true}
use Rattle.memory.specs.Memory.{changed}
use Rattle.memory.specs.declared.refusals.Refusal.{Refusal}
use Rattle.memory.specs.declared.refusals.Refusal.TheVariants.{Name, Short, NoFault}
use Rattle.layouts.specs.Layouts.{Rules}
use Rattle.model.specs.declared.calls.Answer.{Answer}
use Rattle.model.specs.declared.calls.Answer.TheVariants.{Refused, Trapped, Done, Same, Kind, Count, Copied, Scanned, Stepped, Saved}
use Rattle.model.specs.declared.calls.Call.{Call}
use Rattle.model.specs.declared.calls.Call.TheVariants.{Take, Resolve}
use Rattle.model.specs.declared.states.State.{State}
use Rattle.model.specs.declared.states.State.TheVariants.{Running, Waiting, InHand}
use Rattle.model.specs.Heap.{Heap as Model, with_states}
use Rattle.model.specs.Outcomes.{Machine, Outcome, outcome, with_heap, unless}
use Rattle.model.specs.Refusing.{is_waiting, is_in_hand, no_mutator, holds_fault, refuse_if}
use Rattle.model.specs.Faults.{fault_page, wants_scan, wants_save}
use Rattle.model.specs.Images.{image_words}
use Rattle.model.specs.Calls.{moving_view, carried_out, turned_down, call}
use Rattle.images.specs.Lent.{machine, Writes}
use Rattle.heap.specs.Effects.{Does}
use Rattle.heap.specs.declared.faults.Fault.{Fault}
use Rattle.whole_runs.specs.Hands.{handed_out, page_held, IsOf, HandsMatch, AllRun, is_on, at_hand}
use Rattle.whole_runs.proofs.Hands.{is_fault_call, hands_kept}

-- Answers of another kind

abbrev is_refused : Answer → Bool
is_refused (Refused e) = true
is_refused (Trapped p) = false
is_refused Done = false
is_refused (Same b) = false
is_refused (Kind k) = false
is_refused (Count n) = false
is_refused (Answer.Fault p) = false
is_refused (Copied n) = false
is_refused (Scanned s n) = false
is_refused (Stepped e s n) = false
is_refused (Saved e) = false

abbrev page_of : Answer → ℕ
page_of (Refused e) = 0
page_of (Trapped p) = 0
page_of Done = 0
page_of (Same b) = 0
page_of (Kind k) = 0
page_of (Count n) = 0
page_of (Answer.Fault p) = p
page_of (Copied n) = 0
page_of (Scanned s n) = 0
page_of (Stepped e s n) = 0
page_of (Saved e) = 0

-- TAKE

-- mutator m waited on page p, and is in hand with it now
pub record Taken (h g : Model) (m p : ℕ) : Type 0 where
  pub waited : is_waiting (h.state m) ≡ true
  pub page : p ≡ fault_page (h.state m)
  pub moved : g.state ≡ changed h.state m (InHand p)

module _ (L : Rules) (h g : Model) (m : ℕ) where
  abbrev x : Machine
  x = record { heap = h; buffer = λ j. 0 }

  abbrev y : Machine
  y = record { heap = g; buffer = λ j. 0 }

  took : (p : ℕ) (b₁ b₂ : Bool) → unless (refuse_if b₁ Name (refuse_if b₂ NoFault None)) (turned_down L x (Take m)) (carried_out L x (Take m)) ≡ outcome y (Answer.Fault p) → (b₂ ≡ false) × (carried_out L x (Take m) ≡ outcome y (Answer.Fault p))
  took p true b₂ e = absurd (true≢false (ap (λ o. is_refused o.answer) e))
  took p false true e = absurd (true≢false (ap (λ o. is_refused o.answer) e))
  took p false false e = (refl, e)

  pub taken : (p : ℕ) → Does L h (Take m) g (Answer.Fault p) → Taken h g m p
  taken p did =
      let t = took p (no_mutator m) (not (is_waiting (h.state m))) (did (λ j. 0)) in
      let page : p ≡ fault_page (h.state m) = sym (ap (λ o. page_of o.answer) t.1) in
      record { waited = not-false (is_waiting (h.state m)) t.0; page = page; moved = sym (ap (λ o. o.left.heap.state) t.1) ∙ ap (λ q. changed h.state m (InHand q)) (sym page) }

  not_took : (r : Refusal) (b₁ b₂ : Bool) → unless (refuse_if b₁ Name (refuse_if b₂ NoFault None)) (turned_down L x (Take m)) (carried_out L x (Take m)) ≡ outcome y (Refused r) → g.state ≡ h.state
  not_took r true b₂ e = sym (ap (λ o. o.left.heap.state) e)
  not_took r false true e = sym (ap (λ o. o.left.heap.state) e)
  not_took r false false e = absurd (false≢true (ap (λ o. is_refused o.answer) e))

  pub take_refused : (r : Refusal) → Does L h (Take m) g (Refused r) → g.state ≡ h.state
  take_refused r did = not_took r (no_mutator m) (not (is_waiting (h.state m))) (did (λ j. 0))

-- RESOLVE

at_changed : (s : ℕ → State) (m : ℕ) (t : State) → handed_out t ≡ None → (k : ℕ) → handed_out (changed s m t k) ≡ cond (eqb m k) None (handed_out (s k))
at_changed s m t none k = elim (eqb m k) as (λ b. handed_out (cond b t (s k)) ≡ cond b None (handed_out (s k))) [ true ↦ none | false ↦ refl ]

module _ (L : Rules) (z : Machine) (m p n : ℕ) where
  -- a fault that no mutator is in hand with is refused
  pub not_held : holds_fault (moving_view L z.heap) m p ≡ false → call L z (Resolve m p n) ≡ outcome z (Refused (cond (ltb n (image_words z.heap.memory)) Short NoFault))
  not_held none =
      elim (ltb n (image_words z.heap.memory)) as (λ b.
      unless (refuse_if b Short (refuse_if (not (holds_fault (moving_view L z.heap) m p)) NoFault None)) (turned_down L z (Resolve m p n)) (carried_out L z (Resolve m p n)) ≡ outcome z (Refused (cond b Short NoFault))) [
        | true ↦ ap (λ b. outcome (with_heap z (with_states z.heap (cond b (changed z.heap.state m (Waiting p)) z.heap.state))) (Refused Short)) none
        | false ↦ ap (λ b. unless (refuse_if (not b) NoFault None) (turned_down L z (Resolve m p n)) (carried_out L z (Resolve m p n))) none
      ]

  -- each way of working a fault off
  each : (P : Outcome Machine → Type 0) (a b : Bool) (s t u : Outcome Machine) → P s → P t → P u → P (cond a s (cond b t u))
  each P true b s t u ps pt pu = ps
  each P false true s t u ps pt pu = pt
  each P false false s t u ps pt pu = pu

  abbrev Emptied : Outcome Machine → Type 0
  Emptied o = (k : ℕ) → handed_out (o.left.heap.state k) ≡ cond (eqb m k) None (handed_out (z.heap.state k))

  resolved : Emptied (carried_out L z (Resolve m p n))
  resolved =
      let run = at_changed z.heap.state m Running refl in
      each Emptied (wants_scan z.heap p) (wants_save z.heap p) _ _ _ run run run

  -- the fault of a mutator that is in hand with it is spent, worked off or not
  pub spent : holds_fault (moving_view L z.heap) m p ≡ true → Emptied (call L z (Resolve m p n))
  spent yes' =
      elim (ltb n (image_words z.heap.memory)) as (λ b. Emptied (unless (refuse_if b Short (refuse_if (not (holds_fault (moving_view L z.heap) m p)) NoFault None)) (turned_down L z (Resolve m p n)) (carried_out L z (Resolve m p n)))) [
        | true ↦ λ k. ap (λ b. handed_out (cond b (changed z.heap.state m (Waiting p)) z.heap.state k)) yes' ∙ at_changed z.heap.state m (Waiting p) refl k
        | false ↦ subst (λ b. Emptied (unless (refuse_if (not b) NoFault None) (turned_down L z (Resolve m p n)) (carried_out L z (Resolve m p n)))) (sym yes') resolved
      ]

-- A fault that is left over is put back: the empty buffer is too short
pub put_back : (L : Rules) (z : Machine) (m p : ℕ) → (call L z (Resolve m p 0)).left.heap.memory ≡ z.heap.memory
put_back L z m p = ap (λ b. (unless (refuse_if b Short (refuse_if (not (holds_fault (moving_view L z.heap) m p)) NoFault None)) (turned_down L z (Resolve m p 0)) (carried_out L z (Resolve m p 0))).left.heap.memory) (lt-ltb 0 (image_words z.heap.memory) (omega arith))

-- The hands

abbrev on_page : ℕ → Option ℕ → Bool
on_page p None = false
on_page p (Some q) = eqb q p

held_on : (p : ℕ) (f : Option Fault) → is_on p f ≡ on_page p (page_held f)
held_on p None = refl
held_on p (Some f) = refl

out_on : (p : ℕ) (t : State) → is_in_hand p t ≡ on_page p (handed_out t)
out_on p Running = refl
out_on p (Waiting q) = refl
out_on p (InHand q) = refl

module _ (s : ℕ → State) (hands : List (Option Fault)) (fit : HandsMatch s hands) where
  -- a fault is at hand exactly when its mutator is in hand with its page
  agree_by : (m p : ℕ) (b : Bool) → ltb 3 m ≡ b → cond b false (is_on p (get_or hands m None)) ≡ (not b && is_in_hand p (s m))
  agree_by m p true e = refl
  agree_by m p false e =
      let few : m < 4 = let h = ltb-false 3 m e in omega arith in
      held_on p (get_or hands m None) ∙ ap (on_page p) (fit m few).0 ∙ sym (out_on p (s m))

  pub agree : (m p : ℕ) → at_hand hands m p ≡ (not (no_mutator m) && is_in_hand p (s m))
  agree m p = agree_by m p (ltb 3 m) refl

  few_by : (m : ℕ) (b r : Bool) → ltb 3 m ≡ b → cond b false r ≡ true → m < 4
  few_by m true r e t = absurd (false≢true t)
  few_by m false r e t = let h = ltb-false 3 m e in omega arith

  on_by : (b r : Bool) → cond b false r ≡ true → r ≡ true
  on_by true r t = absurd (false≢true t)
  on_by false r t = t

  -- whose it is, and on which page
  pub fault_at : (m p : ℕ) (f : Fault) → at_hand hands m p ≡ true → get_or hands m None ≡ Some f → (m < 4) × (f.mutator ≡ m) × (f.page ≡ p)
  fault_at m p f yes' is =
      let few = few_by m (ltb 3 m) (is_on p (get_or hands m None)) refl yes' in
      (few, subst (IsOf m) is (fit m few).1, eqb-true f.page p (ap (is_on p) (sym is) ∙ on_by (ltb 3 m) (is_on p (get_or hands m None)) yes'))

  module _ (long : length hands ≡ 4) (t : ℕ → State) (m : ℕ) where
    -- the hand of mutator m is empty
    pub emptied : ((k : ℕ) → handed_out (t k) ≡ cond (eqb m k) None (handed_out (s k))) → HandsMatch t (set hands m None)
    emptied now k few =
        elim (cases_eq k m) [
          | inl e ↦
              let here : get_or (set hands m None) k None ≡ None = ap (λ j. get_or (set hands m None) j None) e ∙ get_or-set_same hands m None None (omega (arith, long, e)) in
              (ap page_held here ∙ sym (now k ∙ cond-true _ None (handed_out (s k)) (eq-eqb m k (sym e))), subst (IsOf k) (sym here) tt)
          | inr n ↦
              let there : get_or (set hands m None) k None ≡ get_or hands k None = get_or-set_other hands m k None None n in
              (ap page_held there ∙ (fit k few).0 ∙ sym (now k ∙ cond-false _ None (handed_out (s k)) (ne_eqb m k (λ e. n (sym e)))), subst (IsOf k) (sym there) (fit k few).1)
        ]

    -- mutator m is in hand with the page of the fault that is at hand now
    pub filled : (f : Fault) → f.mutator ≡ m → t ≡ changed s m (InHand f.page) → HandsMatch t (set hands m (Some f))
    filled f of now k few =
        elim (cases_eq k m) [
          | inl e ↦
              let here : get_or (set hands m (Some f)) k None ≡ Some f = ap (λ j. get_or (set hands m (Some f)) j None) e ∙ get_or-set_same hands m (Some f) None (omega (arith, long, e)) in
              (ap page_held here ∙ sym (ap (λ g. handed_out (g k)) now ∙ ap handed_out (cond-true _ (InHand f.page) (s k) (eq-eqb m k (sym e)))), subst (IsOf k) (sym here) (of ∙ sym e))
          | inr n ↦
              let there : get_or (set hands m (Some f)) k None ≡ get_or hands k None = get_or-set_other hands m k (Some f) None n in
              (ap page_held there ∙ (fit k few).0 ∙ sym (ap (λ g. handed_out (g k)) now ∙ ap handed_out (cond-false _ (InHand f.page) (s k) (ne_eqb m k (λ e. n (sym e))))), subst (IsOf k) (sym there) (fit k few).1)
        ]

  -- the hand of a mutator that waits is empty
  abbrev some : Option ℕ → Bool
  some None = false
  some (Some q) = true

  none_held : (f : Option Fault) → page_held f ≡ None → f ≡ None
  none_held None e = refl
  none_held (Some f) e = absurd (true≢false (ap some e))

  waiting_none : (t : State) → is_waiting t ≡ true → handed_out t ≡ None
  waiting_none Running e = refl
  waiting_none (Waiting q) e = refl
  waiting_none (InHand q) e = absurd (false≢true e)

  pub hand_empty : (m : ℕ) → m < 4 → is_waiting (s m) ≡ true → get_or hands m None ≡ None
  hand_empty m few w = none_held (get_or hands m None) ((fit m few).0 ∙ waiting_none (s m) w)

-- a fault that is at hand is worked off as the call asks
pub as_asked : (L : Rules) (h k : Model) (hands : List (Option Fault)) (xs ys : List ℕ) (m p : ℕ) (f : Fault) (a : Answer) → HandsMatch h.state hands → at_hand hands m p ≡ true → get_or hands m None ≡ Some f → Writes L h xs (Resolve f.mutator f.page (length xs)) k ys a → Writes L h xs (Resolve m p (length xs)) k ys a
as_asked L h k hands xs ys m p f a fit here is did b =
    let whose = fault_at h.state hands fit m p f here is in
    ap₂ (λ i j. call L (machine h xs b) (Resolve i j (length xs))) (sym whose.1) (sym whose.2) ∙ did b

-- and its hand is empty then
pub worked_off : (L : Rules) (h k : Model) (hands : List (Option Fault)) (xs ys : List ℕ) (m p : ℕ) (a : Answer) → HandsMatch h.state hands → length hands ≡ 4 → at_hand hands m p ≡ true → Writes L h xs (Resolve m p (length xs)) k ys a → HandsMatch k.state (set hands m None)
worked_off L h k hands xs ys m p a fit long here did =
    emptied h.state hands fit long k.state m (λ j. sym (ap (λ o. handed_out (o.left.heap.state j)) (did (λ i. 0))) ∙ spent L (machine h xs (λ i. 0)) m p (length xs) (sym (agree h.state hands fit m p) ∙ here) j)

-- a call that is neither TAKE nor RESOLVE leaves the hands as they match
pub still_match : (L : Rules) (z : Machine) (c : Call) (g : Model) (hands : List (Option Fault)) → is_fault_call c ≡ false → g.state ≡ (call L z c).left.heap.state → HandsMatch z.heap.state hands → HandsMatch g.state hands
still_match L z c g hands plain left fit k few = ((fit k few).0 ∙ sym (ap (λ s. handed_out (s k)) left ∙ hands_kept L z c plain k), (fit k few).1)

-- all hands empty, all mutators running
pub empty_hands : (s : ℕ → State) → AllRun s → HandsMatch s (None ∷ None ∷ None ∷ None ∷ [])
empty_hands s run m few =
    let none : get_or {A = Option Fault} (None ∷ None ∷ None ∷ None ∷ []) m None ≡ None = get_or-replicate 4 m None None few in
    (ap page_held none ∙ sym (ap handed_out (run m)), subst (IsOf m) (sym none) tt)
