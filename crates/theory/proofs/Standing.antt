-- A mutator that waits on a page, or whose fault is in hand, keeps its registers until its RESOLVE; no FLIP is accepted meanwhile.
use Rattle.std.proofs.Common.{◌≡◌, ℕ, suc, ◌+◌, ◌-◌, ◌<◌, Bool, true, false, not, ◌&&◌, ◌||◌, eqb, ltb, ◌≢◌, ◌⊎◌, List, [], ◌∷◌, sym, refl, ap, ◌∙◌, inl, inr, arith}
use Rattle.std.proofs.lemmas.Bool.{cases_eq, cases_Bool, both_ways, eq-eqb, ne_eqb, eqb-true, and_parts, or_parts, not-false}
use Rattle.theory.specs.Model.{upd}
use Rattle.layouts.specs.declared.values.Value.{Value}
use Rattle.layouts.specs.declared.values.Value.TheVariants.{Reference}
use Rattle.theory.specs.Machine.{Shape, Machine, view_m, refusal, bad, at, closed_is_idle, closed_is_imaging, closed_is_running, is_hand, Found, Found.none, Found.found}
use Rattle.model.specs.declared.states.State.{State}
use Rattle.model.specs.declared.states.State.TheVariants.{Running, Waiting, InHand}
use Rattle.model.specs.declared.calls.Call.{Call}
use Rattle.model.specs.declared.calls.Call.TheVariants.{New, Load, Store, Copy, SetNumber, SetNil, Same, Tell, Count, Flip as Turn, Step, Take, Resolve, Mark, Save}
use Rattle.theory.specs.Steps.{call, act, denied, hand_back, step, stepped, save, saved, save_page, lowest_pend, resolved, resolved_save, closed_new_at, lowest_behind, scan_page, closed_page_of}
use Rattle.theory.specs.Runs.{after, Quiet, resolves}
use Rattle.theory.proofs.Basics.{upd_other, upd_at}
use Rattle.theory.proofs.Cases.{load_ways, store_ways}
use Rattle.theory.proofs.Refusals.{cond_zero, name_ok}

abbrev pub StandsAt : ℕ → State → Type 0
StandsAt p s = (s ≡ Waiting p) ⊎ (s ≡ InHand p)

-- mutator k stands at page p, with these registers
pub record Stands (k p : ℕ) (reg : ℕ → Value) (m : Machine) : Type 0 where
  pub state : StandsAt p (m.mut k)
  pub kept : (s : ℕ) → s < 8 → m.reg (at k s) ≡ reg (at k s)

not_running : (p : ℕ) (s : State) → StandsAt p s → closed_is_running s ≡ false
not_running p s (inl e) = ap closed_is_running e
not_running p s (inr e) = ap closed_is_running e

module _ (H : Shape) (k p : ℕ) (kb : k < 4) (reg : ℕ → Value) (m : Machine) (h : Stands k p reg m) where
  idles : closed_is_running (m.mut k) ≡ false
  idles = not_running p (m.mut k) h.state

  -- a running mutator is another
  other : (j : ℕ) → not (closed_is_running (m.mut j)) ≡ false → k ≢ j
  other j e q = both_ways (closed_is_running (m.mut k)) idles (ap (λ z. closed_is_running (m.mut z)) q ∙ not-false (closed_is_running (m.mut j)) e)

  all_run : (closed_is_running (m.mut 0) && closed_is_running (m.mut 1) && closed_is_running (m.mut 2) && closed_is_running (m.mut 3)) ≡ true → closed_is_running (m.mut k) ≡ true
  all_run e =
      let a = and_parts (closed_is_running (m.mut 0) && closed_is_running (m.mut 1) && closed_is_running (m.mut 2)) (closed_is_running (m.mut 3)) e in
      let b = and_parts (closed_is_running (m.mut 0) && closed_is_running (m.mut 1)) (closed_is_running (m.mut 2)) a.0 in
      let c = and_parts (closed_is_running (m.mut 0)) (closed_is_running (m.mut 1)) b.0 in
      elim (cases_eq k 0) [
        | inl q ↦ rw q c.0
        | inr n₀ ↦ elim (cases_eq k 1) [
          | inl q ↦ rw q c.1
          | inr n₁ ↦ elim (cases_eq k 2) [
            | inl q ↦ rw q b.1
            | inr n₂ ↦ (let q : k ≡ 3 = omega arith in rw q a.1)
          ]
        ]
      ]

  pub no_turn : refusal (view_m H m) Turn ≢ 0
  no_turn e =
      let t = (cond_zero (not (closed_is_idle m.phase)) 16 _ (omega arith) e).1 in
      let u = (cond_zero (not (closed_is_running (m.mut 0) && closed_is_running (m.mut 1) && closed_is_running (m.mut 2) && closed_is_running (m.mut 3))) 17 0 (omega arith) t).0 in
      both_ways (closed_is_running (m.mut k)) idles (all_run (not-false _ u))

  -- the registers of another set
  stands_reg : (j d : ℕ) (v : Value) → k ≢ j → d < 8 → (s : ℕ) → s < 8 → upd m.reg (at j d) v (at k s) ≡ reg (at k s)
  stands_reg j d v ne l s b = upd_other m.reg (at j d) (at k s) v (omega arith) ∙ h.kept s b

  stands_mut : (j : ℕ) (x : State) → k ≢ j → StandsAt p (upd m.mut j x k)
  stands_mut j x ne = rw (upd_other m.mut j k x ne) h.state

  stands_new : (j d x y : ℕ) (f : Found) → k ≢ j → d < 8 → Stands k p reg (closed_new_at H m j d x y f).next
  stands_new j d x y (found q) ne l = record { state = stands_mut j (Waiting q) ne; kept = h.kept }
  stands_new j d x y none ne l = record { state = h.state; kept = stands_reg j d (Reference (m.st.low - suc (x + y))) ne l }

  same : (m' : Machine) → m'.mut ≡ m.mut → m'.reg ≡ m.reg → Stands k p reg m'
  same m' e f = record { state = rw e h.state; kept = rw f h.kept }

  stands_stepped : (m₂ : Machine) → m₂.mut ≡ m.mut → m₂.reg ≡ m.reg → (sc co : ℕ) (f : Found) → Stands k p reg (stepped H m₂ sc co f).next
  stands_stepped m₂ e g sc co none = same (stepped H m₂ sc co none).next e g
  stands_stepped m₂ e g sc co (found n) = same m₂ e g

  stands_step : (f : Found) → Stands k p reg (step H m f).next
  stands_step none = same (step H m none).next refl refl
  stands_step (found n) = stands_stepped (scan_page H m n) refl refl _ _ (lowest_behind H (scan_page H m n))

  stands_saved : (m₂ : Machine) → m₂.mut ≡ m.mut → m₂.reg ≡ m.reg → (f : Found) → Stands k p reg (saved H m₂ f).next
  stands_saved m₂ e g none = same (saved H m₂ none).next e g
  stands_saved m₂ e g (found n) = same m₂ e g

  stands_save : (f : Found) → Stands k p reg (save H m f).next
  stands_save none = same (save H m none).next refl refl
  stands_save (found n) = stands_saved (save_page H m n) refl refl (lowest_pend H (save_page H m n))

  stands_resolve_save : (j n : ℕ) (t : Bool) → k ≢ j → Stands k p reg (resolved_save H m j n t).next
  stands_resolve_save j n true ne = record { state = stands_mut j Running ne; kept = h.kept }
  stands_resolve_save j n false ne = record { state = stands_mut j Running ne; kept = h.kept }

  stands_resolve : (j n : ℕ) (t : Bool) → k ≢ j → Stands k p reg (resolved H m j n t).next
  stands_resolve j n true ne = record { state = stands_mut j Running ne; kept = h.kept }
  stands_resolve j n false ne = stands_resolve_save j n (closed_is_imaging m.phase && m.pend n) ne

  taken : (s : State) → StandsAt p s → StandsAt p (InHand (closed_page_of s))
  taken s (inl e) = inr (ap (λ z. InHand (closed_page_of z)) e)
  taken s (inr e) = inr (ap (λ z. InHand (closed_page_of z)) e)

  stands_take : (j : ℕ) → StandsAt p (upd m.mut j (InHand (closed_page_of (m.mut j))) k)
  stands_take j = elim (cases_eq k j) [
    | inl e ↦ rw (upd_at m.mut j k (InHand (closed_page_of (m.mut j))) e) (taken (m.mut j) (rw e at h.state))
    | inr ne ↦ stands_mut j (InHand (closed_page_of (m.mut j))) ne
  ]

  handed : (q : ℕ) (s : State) → StandsAt p s → is_hand q s ≡ true → q ≡ p
  handed q s (inl e) t = absurd (both_ways (is_hand q s) (ap (is_hand q) e) t)
  handed q s (inr e) t = sym (eqb-true p q (sym (ap (is_hand q) e) ∙ t))

  stands_back : (j q : ℕ) → StandsAt p (hand_back m.mut j q k)
  stands_back j q = elim (cases_Bool (ltb j 4 && is_hand q (m.mut j))) [
    | inl t ↦ rw t (elim (cases_eq k j) [
      | inl e ↦ rw (upd_at m.mut j k (Waiting q) e) (inl (ap Waiting (handed q (m.mut j) (rw e at h.state) (and_parts (ltb j 4) (is_hand q (m.mut j)) t).1)))
      | inr ne ↦ stands_mut j (Waiting q) ne
    ])
    | inr f ↦ rw f h.state
  ]

  stands_act : (c : Call) → refusal (view_m H m) c ≡ 0 → (resolves k c ≡ true → ⊥) → Stands k p reg (act H m c).next
  stands_act (New j d x y) e n =
      let e₁ = cond_zero (bad j d) 3 _ (omega arith) e in
      let e₂ = cond_zero (ltb 255 (x + y)) 4 _ (omega arith) e₁.1 in
      let e₃ = cond_zero (not (closed_is_running (m.mut j))) 11 _ (omega arith) e₂.1 in
      stands_new j d x y _ (other j e₃.0) (name_ok j d e₁.0).1
  stands_act (Load j d x i) e n =
      let e₁ = cond_zero (bad j d || bad j x) 3 _ (omega arith) e in
      let e₂ = cond_zero (not (closed_is_running (m.mut j))) 11 _ (omega arith) e₁.1 in
      load_ways H m (λ o. Stands k p reg o.next) j d x i (λ t. record { state = stands_mut j _ (other j e₂.0); kept = h.kept }) (λ t. record { state = h.state; kept = stands_reg j d _ (other j e₂.0) (name_ok j d (or_parts (bad j d) (bad j x) e₁.0).0).1 })
  stands_act (Store j x i y) e n =
      let e₁ = cond_zero (bad j x || bad j y) 3 _ (omega arith) e in
      let e₂ = cond_zero (not (closed_is_running (m.mut j))) 11 _ (omega arith) e₁.1 in
      store_ways H m (λ o. Stands k p reg o.next) j x i y (λ t. record { state = h.state; kept = h.kept }) (λ t. record { state = stands_mut j _ (other j e₂.0); kept = h.kept })
  stands_act (Copy j d f x) e n =
      let e₁ = cond_zero (bad j d || bad f x) 3 _ (omega arith) e in
      let e₂ = cond_zero (not (closed_is_running (m.mut j))) 11 _ (omega arith) e₁.1 in
      record { state = h.state; kept = stands_reg j d _ (other j e₂.0) (name_ok j d (or_parts (bad j d) (bad f x) e₁.0).0).1 }
  stands_act (SetNumber j d x) e n =
      let e₁ = cond_zero (bad j d) 3 _ (omega arith) e in
      let e₂ = cond_zero (not (closed_is_running (m.mut j))) 11 _ (omega arith) e₁.1 in
      record { state = h.state; kept = stands_reg j d _ (other j e₂.0) (name_ok j d e₁.0).1 }
  stands_act (SetNil j d) e n =
      let e₁ = cond_zero (bad j d) 3 _ (omega arith) e in
      let e₂ = cond_zero (not (closed_is_running (m.mut j))) 11 _ (omega arith) e₁.1 in
      record { state = h.state; kept = stands_reg j d _ (other j e₂.0) (name_ok j d e₁.0).1 }
  stands_act (Same j x y) e n = h
  stands_act (Tell j x) e n = h
  stands_act Count e n = h
  stands_act Turn e n = absurd (no_turn e)
  stands_act Step e n = stands_step (lowest_behind H m)
  stands_act (Take j) e n = record { state = stands_take j; kept = h.kept }
  stands_act (Resolve j q x) e n = stands_resolve j q _ (λ z. n (eq-eqb j k (sym z)))
  stands_act (Mark x) e n = same (act H m (Mark x)).next refl refl
  stands_act (Save x) e n = stands_save (lowest_pend H m)

  stands_denied : (c : Call) (e : ℕ) → Stands k p reg (denied m c e)
  stands_denied (New j d x y) e = h
  stands_denied (Load j d x i) e = h
  stands_denied (Store j x i y) e = h
  stands_denied (Copy j d f x) e = h
  stands_denied (SetNumber j d n) e = h
  stands_denied (SetNil j d) e = h
  stands_denied (Same j x y) e = h
  stands_denied (Tell j x) e = h
  stands_denied Count e = h
  stands_denied Turn e = h
  stands_denied Step e = h
  stands_denied (Take j) e = h
  stands_denied (Resolve j q n) e = record { state = elim (cases_Bool (eqb e 5)) [ inl t ↦ rw t (stands_back j q) | inr f ↦ rw f h.state ]; kept = h.kept }
  stands_denied (Mark n) e = h
  stands_denied (Save n) e = h

  pub stands_call : (c : Call) → (resolves k c ≡ true → refusal (view_m H m) c ≢ 0) → Stands k p reg (call H m c).next
  stands_call c n = elim (cases_eq (refusal (view_m H m) c) 0) [
    | inl e ↦ rw (eq-eqb (refusal (view_m H m) c) 0 e) (stands_act c e (λ t. n t e))
    | inr ne ↦ rw (ne_eqb (refusal (view_m H m) c) 0 ne) (stands_denied c (refusal (view_m H m) c))
  ]

pub stands_after : (H : Shape) (k p : ℕ) → k < 4 → (reg : ℕ → Value) (m : Machine) → Stands k p reg m → (cs : List Call) → Quiet H (resolves k) m cs → Stands k p reg (after H m cs)
stands_after H k p kb reg m h [] q = h
stands_after H k p kb reg m h (c ∷ cs) q = stands_after H k p kb reg (call H m c).next (stands_call H k p kb reg m h c q.0) cs q.1
