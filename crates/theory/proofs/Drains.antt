-- What every call but an accepted MARK or FLIP leaves of an image under way.
use Rattle.std.proofs.Common.{◌≡◌, ℕ, ◌+◌, ◌<◌, Bool, true, false, not, ◌&&◌, ltb, ◌≢◌, sym, refl, ap, ◌∙◌, subst, inl, inr, arith}
use Rattle.std.proofs.lemmas.Bool.{cases_eq, both_ways, eq-eqb, ne_eqb, and_parts, not-false}
use Rattle.theory.specs.Model.{upd}
use Rattle.theory.specs.Collect.{Laws}
use Rattle.theory.specs.Machine.{Shape, half, Machine, view_m, refusal, is_busy, closed_is_imaging, Found, Found.none, Found.found}
use Rattle.model.specs.declared.states.Phase.TheVariants.{Idle, Collecting, Imaging}
use Rattle.model.specs.declared.calls.Call.{Call}
use Rattle.model.specs.declared.calls.Call.TheVariants.{New, Load, Store, Copy, SetNumber, SetNil, Same, Tell, Count, Flip as Turn, Step, Take, Resolve, Mark, Save}
use Rattle.theory.specs.Steps.{call, act, denied, save, saved, resolved, resolved_save, closed_new_at, behind, save_page, lowest_pend}
use Rattle.theory.specs.Runs.{marks}
use Rattle.theory.proofs.Basics.{upd_same, upd_other, upd_at}
use Rattle.theory.proofs.Cases.{load_ways, store_ways}
use Rattle.theory.proofs.Refusals.{cond_zero}
use Rattle.theory.proofs.Sim.{busy_phase, image_phase}

-- from one state to a later one of the same image, or one after it with no other begun
pub record Drains (m m' : Machine) : Type 0 where
  pub calm : m'.phase ≢ Collecting
  pub back : m'.phase ≡ Imaging → m.phase ≡ Imaging
  pub side : m'.side ≡ m.side
  pub top : m'.st.top ≡ m.st.top
  pub mark : m'.mark ≡ m.mark
  pub pend : (n : ℕ) → m'.pend n ≡ true → m.pend n ≡ true

pub drains_trans : (m m₁ m₂ : Machine) → Drains m m₁ → Drains m₁ m₂ → Drains m m₂
drains_trans m m₁ m₂ x y = record { calm = y.calm; back = λ e. x.back (y.back e); side = y.side ∙ x.side; top = y.top ∙ x.top; mark = y.mark ∙ x.mark; pend = λ n e. x.pend n (y.pend n e) }

pub idle≢ : Idle ≢ Collecting
idle≢ e = let z : ◌≡◌ {A = ℕ} 0 1 = cc in omega arith

pub imaging≢ : Imaging ≢ Collecting
imaging≢ e = let z : ◌≡◌ {A = ℕ} 0 1 = cc in omega arith

pub idle≢imaging : Idle ≢ Imaging
idle≢imaging e = let z : ◌≡◌ {A = ℕ} 0 1 = cc in omega arith

module _ (H : Shape) (laws : Laws H.lay) (pos : 0 < H.page) where
  abbrev P : ℕ
  P = H.page

  module _ (m : Machine) (ca : m.phase ≢ Collecting) where
    pub stay : (m' : Machine) → m'.phase ≡ m.phase → m'.side ≡ m.side → m'.st.top ≡ m.st.top → m'.mark ≡ m.mark → m'.pend ≡ m.pend → Drains m m'
    stay m' ep es et em en = record { calm = λ e. ca (sym ep ∙ e); back = λ e. sym ep ∙ e; side = es; top = et; mark = em; pend = λ n e. ap (λ f. f n) (sym en) ∙ e }

    drop : (n q : ℕ) → upd m.pend n false q ≡ true → m.pend q ≡ true
    drop n q e = elim (cases_eq q n) [ inl z ↦ absurd (both_ways _ (upd_at m.pend n q false z) e) | inr ne ↦ sym (upd_other m.pend n q false ne) ∙ e ]

    drains_saved : m.phase ≡ Imaging → (m₂ : Machine) → m₂.phase ≡ Imaging → m₂.side ≡ m.side → m₂.st.top ≡ m.st.top → m₂.mark ≡ m.mark → ((n : ℕ) → m₂.pend n ≡ true → m.pend n ≡ true) → (f : Found) → Drains m (saved H m₂ f).next
    drains_saved pi m₂ p₂ es et em en none = record { calm = idle≢; back = λ e. absurd (idle≢imaging e); side = es; top = et; mark = em; pend = en }
    drains_saved pi m₂ p₂ es et em en (found n) = record { calm = λ e. imaging≢ (sym p₂ ∙ e); back = λ e. pi; side = es; top = et; mark = em; pend = en }

    drains_save : m.phase ≡ Imaging → (f : Found) → Drains m (save H m f).next
    drains_save pi none = drains_saved pi m pi refl refl refl (λ n e. e) none
    drains_save pi (found n) = drains_saved pi (save_page H m n) refl refl refl refl (drop n) (lowest_pend H (save_page H m n))

    -- a RESOLVE, after which its page is not unsaved
    abbrev pub Cleared : ℕ → Machine → Type 0
    Cleared p m' = (Drains m m') × (m'.phase ≡ Imaging → m'.pend p ≡ false)

    cleared_save : (j p : ℕ) (t : Bool) → (closed_is_imaging m.phase && m.pend p) ≡ t → Cleared p (resolved_save H m j p t).next
    cleared_save j p true e =
        let pi = image_phase H laws pos m.phase (and_parts (closed_is_imaging m.phase) (m.pend p) e).0 in
        (record { calm = imaging≢; back = λ z. pi; side = refl; top = refl; mark = refl; pend = drop p }, λ z. upd_same m.pend p false)
    cleared_save j p false e = (stay (resolved_save H m j p false).next refl refl refl refl refl, λ z. subst (λ ph. (closed_is_imaging ph && m.pend p) ≡ false) z e)

    cleared_resolve : (j p : ℕ) (t : Bool) → (is_busy m.phase && behind H m p) ≡ t → Cleared p (resolved H m j p t).next
    cleared_resolve j p true e = absurd (ca (busy_phase H laws pos m.phase (and_parts (is_busy m.phase) (behind H m p) e).0))
    cleared_resolve j p false e = cleared_save j p (closed_is_imaging m.phase && m.pend p) refl

    pub resolve_clears : (j p n : ℕ) → refusal (view_m H m) (Resolve j p n) ≡ 0 → Cleared p (call H m (Resolve j p n)).next
    resolve_clears j p n e = rw (eq-eqb (refusal (view_m H m) (Resolve j p n)) 0 e) (cleared_resolve j p (is_busy m.phase && behind H m p) refl)

    drains_new : (j d x y : ℕ) (f : Found) → Drains m (closed_new_at H m j d x y f).next
    drains_new j d x y (found q) = stay (closed_new_at H m j d x y (found q)).next refl refl refl refl refl
    drains_new j d x y none = stay (closed_new_at H m j d x y none).next refl refl refl refl refl

    drains_act : (c : Call) → refusal (view_m H m) c ≡ 0 → (c ≡ Turn → ⊥) → (marks c ≡ true → ⊥) → Drains m (act H m c).next
    drains_act (New j d x y) e nt nm = drains_new j d x y _
    drains_act (Load j d x i) e nt nm = load_ways H m (λ o. Drains m o.next) j d x i (λ t. stay _ refl refl refl refl refl) (λ t. stay _ refl refl refl refl refl)
    drains_act (Store j x i y) e nt nm = store_ways H m (λ o. Drains m o.next) j x i y (λ t. stay _ refl refl refl refl refl) (λ t. stay _ refl refl refl refl refl)
    drains_act (Copy j d f x) e nt nm = stay (act H m (Copy j d f x)).next refl refl refl refl refl
    drains_act (SetNumber j d x) e nt nm = stay (act H m (SetNumber j d x)).next refl refl refl refl refl
    drains_act (SetNil j d) e nt nm = stay (act H m (SetNil j d)).next refl refl refl refl refl
    drains_act (Same j x y) e nt nm = stay m refl refl refl refl refl
    drains_act (Tell j x) e nt nm = stay m refl refl refl refl refl
    drains_act Count e nt nm = stay m refl refl refl refl refl
    drains_act Turn e nt nm = absurd (nt refl)
    drains_act Step e nt nm = absurd (ca (busy_phase H laws pos m.phase (not-false (is_busy m.phase) (cond_zero (not (is_busy m.phase)) 18 0 (omega arith) e).0)))
    drains_act (Take j) e nt nm = stay (act H m (Take j)).next refl refl refl refl refl
    drains_act (Resolve j q x) e nt nm = (cleared_resolve j q (is_busy m.phase && behind H m q) refl).0
    drains_act (Mark x) e nt nm = absurd (nm refl)
    drains_act (Save x) e nt nm = drains_save (image_phase H laws pos m.phase (not-false (closed_is_imaging m.phase) (cond_zero (not (closed_is_imaging m.phase)) 18 0 (omega arith) (cond_zero (ltb x (70 + half H)) 5 _ (omega arith) e).1).0)) (lowest_pend H m)

    drains_denied : (c : Call) (e : ℕ) → Drains m (denied m c e)
    drains_denied (New j d x y) e = stay m refl refl refl refl refl
    drains_denied (Load j d x i) e = stay m refl refl refl refl refl
    drains_denied (Store j x i y) e = stay m refl refl refl refl refl
    drains_denied (Copy j d f x) e = stay m refl refl refl refl refl
    drains_denied (SetNumber j d n) e = stay m refl refl refl refl refl
    drains_denied (SetNil j d) e = stay m refl refl refl refl refl
    drains_denied (Same j x y) e = stay m refl refl refl refl refl
    drains_denied (Tell j x) e = stay m refl refl refl refl refl
    drains_denied Count e = stay m refl refl refl refl refl
    drains_denied Turn e = stay m refl refl refl refl refl
    drains_denied Step e = stay m refl refl refl refl refl
    drains_denied (Take j) e = stay m refl refl refl refl refl
    drains_denied (Resolve j q n) e = stay (denied m (Resolve j q n) e) refl refl refl refl refl
    drains_denied (Mark n) e = stay m refl refl refl refl refl
    drains_denied (Save n) e = stay m refl refl refl refl refl

    pub drains_call : (c : Call) → refusal (view_m H m) Turn ≢ 0 → (marks c ≡ true → refusal (view_m H m) c ≢ 0) → Drains m (call H m c).next
    drains_call c nt nm = elim (cases_eq (refusal (view_m H m) c) 0) [
      | inl e ↦ rw (eq-eqb (refusal (view_m H m) c) 0 e) (drains_act c e (λ q. nt (subst (λ z. refusal (view_m H m) z ≡ 0) q e)) (λ t. nm t e))
      | inr ne ↦ rw (ne_eqb (refusal (view_m H m) c) 0 ne) (drains_denied c (refusal (view_m H m) c))
    ]
