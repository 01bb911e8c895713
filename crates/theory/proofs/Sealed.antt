-- A sealed buffer holds the image of the state at its MARK; and sealing takes no more SAVEs than a half has pages.
use Rattle.std.proofs.Common.{◌≡◌, ℕ, ◌+◌, ◌-◌, ◌*◌, ◌<◌, ◌≤◌, true, false, not, ltb, ◌≢◌, ◌⊎◌, List, sym, refl, ◌∙◌, subst, inl, inr, add-zero, arith}
use Rattle.std.proofs.lemmas.Bool.{cases_eq, cases_lt, cases_Bool, both_ways, eq-eqb, ne_eqb}
use Rattle.theory.specs.Model.{upd}
use Rattle.theory.specs.Collect.{Laws}
use Rattle.theory.specs.Machine.{Shape, half, Machine, view_m, refusal, closed_is_idle, Found, Found.none, Found.found}
use Rattle.model.specs.declared.states.Phase.TheVariants.{Idle, Imaging}
use Rattle.model.specs.declared.calls.Call.{Call}
use Rattle.model.specs.declared.calls.Call.TheVariants.{New, Load, Store, Copy, SetNumber, SetNil, Same, Tell, Count, Flip as Turn, Step, Take, Resolve, Mark, Save}
use Rattle.model.specs.Outcomes.{Told.sealed, Told.nothing}
use Rattle.theory.specs.Steps.{call, save, saved, save_page, lowest_pend}
use Rattle.theory.specs.Image.{ImageSealedFrom, saves, Saving, Saving.begun, Saving.goes, SealBound}
use Rattle.theory.specs.Runs.{after, Quiet, marks}
use Rattle.theory.proofs.Basics.{upd_other, upd_at, lowest_passes, lowest_least}
use Rattle.theory.proofs.Refusals.{cond_zero}
use Rattle.theory.proofs.Rights.{Rights, RightsOf, Good, good_after}
use Rattle.theory.proofs.Sim.{idle_is}
use Rattle.theory.proofs.Drains.{Drains, drains_call, idle≢imaging, imaging≢}
use Rattle.theory.proofs.Kept.{Holds, Imaged, kept_mark, imaged_call, imaged_after, held_after}

module _ (H : Shape) (laws : Laws H.lay) (pos : 0 < H.page) where
  pub mark_idle : (m : Machine) (n : ℕ) → refusal (view_m H m) (Mark n) ≡ 0 → m.phase ≡ Idle
  mark_idle m n e = idle_is H laws pos m.phase (cond_zero (not (closed_is_idle m.phase)) 16 0 (omega arith) (cond_zero (ltb n (70 + half H)) 5 _ (omega arith) e).1).0

  -- right after a MARK
  pub marked : (m₀ : Machine) (n : ℕ) → RightsOf H m₀ → refusal (view_m H m₀) (Mark n) ≡ 0 → Imaged H m₀ (call H m₀ (Mark n)).next
  marked m₀ n r e = rw (eq-eqb (refusal (view_m H m₀) (Mark n)) 0 e) (inl (refl, kept_mark H laws pos m₀ (subst (λ p. Rights H m₀.st m₀.pend m₀.scan m₀.side m₀.used m₀.mark p) (mark_idle m₀ n e) r)))

  seals_saved : (m : Machine) (f : Found) → (saved H m f).told ≡ sealed → (saved H m f).next.phase ≡ Idle
  seals_saved m none t = refl
  seals_saved m (found n) t = absurd (let z : ◌≡◌ {A = ℕ} 0 1 = cc in omega arith)

  seals_save : (m : Machine) (f : Found) → (save H m f).told ≡ sealed → (save H m f).next.phase ≡ Idle
  seals_save m none t = refl
  seals_save m (found n) t = seals_saved (save_page H m n) (lowest_pend H (save_page H m n)) t

  seals : (m : Machine) (n : ℕ) → (call H m (Save n)).told ≡ sealed → (call H m (Save n)).next.phase ≡ Idle
  seals m n t = elim (cases_eq (refusal (view_m H m) (Save n)) 0) [
    | inl e ↦ rw (eq-eqb (refusal (view_m H m) (Save n)) 0 e) (seals_save m (lowest_pend H m) (rw (eq-eqb (refusal (view_m H m) (Save n)) 0 e) at t))
    | inr ne ↦ absurd (let y : nothing ≡ sealed = rw (ne_eqb (refusal (view_m H m) (Save n)) 0 ne) at t in let z : ◌≡◌ {A = ℕ} 0 1 = cc in omega arith)
  ]

  -- an image that is not under way is sealed
  pub held : (m₀ m : Machine) → Imaged H m₀ m → m.phase ≢ Imaging → Holds H m₀ m
  held m₀ m (inl (pi, k)) n = absurd (n pi)
  held m₀ m (inr (np, h)) n = h

  pub sealed_from : (m₀ m₁ m₂ : Machine) (n₂ : ℕ) (zs : List Call) → Imaged H m₀ m₁ → (call H m₁ (Save n₂)).told ≡ sealed → m₂ ≡ after H (call H m₁ (Save n₂)).next zs → Quiet H marks (call H m₁ (Save n₂)).next zs → Holds H m₀ m₂
  sealed_from m₀ m₁ m₂ n₂ zs o t e₂ q =
      let o₂ = imaged_call H laws pos m₀ m₁ o (Save n₂) (λ z. absurd (both_ways false refl z)) in
      let h = held m₀ (call H m₁ (Save n₂)).next o₂ (λ z. idle≢imaging (sym (seals m₁ n₂ t) ∙ z)) in
      rw e₂ (held_after H laws pos m₀ (call H m₁ (Save n₂)).next (λ z. idle≢imaging (sym (seals m₁ n₂ t) ∙ z)) h zs q)

  pub image_sealed : (start : Machine) → Good H start → ImageSealedFrom H start
  image_sealed start good xs ys zs n n₂ m₀ e₀ re m₁ e₁ q₁ t m₂ e₂ q₂ =
      let g₀ = rw (sym e₀) at (good_after H laws pos start good xs) in
      let o₁ = rw (sym e₁) at (imaged_after H laws pos m₀ (call H m₀ (Mark n)).next (marked m₀ n g₀.rights re) ys q₁) in
      sealed_from m₀ m₁ m₂ n₂ zs o₁ t e₂ q₂

-- the first n pages of to-space are saved, and there is a page after them
pub record Passed (H : Shape) (n : ℕ) (m : Machine) : Type 0 where
  pub saved : (j : ℕ) → j < n → m.pend (m.side * H.pages + j) ≡ false
  pub more : n < H.pages

module _ (H : Shape) (laws : Laws H.lay) (pos : 0 < H.page) where
  passed_on : (n : ℕ) (m m' : Machine) → Passed H n m → Drains m m' → Passed H n m'
  passed_on n m m' p d = record {
    saved = λ j l. elim (cases_Bool (m'.pend (m'.side * H.pages + j))) [
      | inl t ↦ absurd (both_ways (m.pend (m.side * H.pages + j)) (p.saved j l) (d.pend (m.side * H.pages + j) (rw d.side at t)))
      | inr f ↦ f
    ];
    more = p.more;
  }

  module _ (n : ℕ) (m : Machine) (p : Passed H n m) (k k₂ : ℕ) (e : lowest_pend H m ≡ found k) (e₂ : lowest_pend H (save_page H m k) ≡ found k₂) where
    abbrev base : ℕ
    base = m.side * H.pages

    reached : base + n ≤ k
    reached = elim (cases_lt k (base + n)) [
      | inl l ↦ (
          let b = (lowest_least H.pages base m.pend k e).0 in
          let q : base + (k - base) ≡ k = omega arith in
          absurd (both_ways (m.pend k) (rw q at (p.saved (k - base) (omega arith))) (lowest_passes H.pages base m.pend k e)))
      | inr l ↦ l
    ]

    -- pages up to k are saved
    upto : (j : ℕ) → base ≤ j → j ≤ k → upd m.pend k false j ≡ false
    upto j b l = elim (cases_eq j k) [
      | inl q ↦ upd_at m.pend k j false q
      | inr ne ↦ upd_other m.pend k j false ne ∙ (lowest_least H.pages base m.pend k e).2 j b (omega arith)
    ]

    above : k < k₂
    above = elim (cases_lt k k₂) [
      | inl l ↦ l
      | inr l ↦ absurd (both_ways (upd m.pend k false k₂) (upto k₂ (lowest_least H.pages base (save_page H m k).pend k₂ e₂).0 l) (lowest_passes H.pages base (save_page H m k).pend k₂ e₂))
    ]

    passed_page : Passed H (n + 1) (save_page H m k)
    passed_page = record {
      saved = λ j l. upto (base + j) (omega arith) (omega (arith, reached));
      more = omega (arith, reached, above, (lowest_least H.pages base (save_page H m k).pend k₂ e₂).1);
    }

  passed_saved : (n : ℕ) (m : Machine) → Passed H n m → (k : ℕ) → lowest_pend H m ≡ found k → (f : Found) → lowest_pend H (save_page H m k) ≡ f → (saved H (save_page H m k) f).next.phase ≡ Imaging → Passed H (n + 1) (saved H (save_page H m k) f).next
  passed_saved n m p k e none e₂ q = absurd (idle≢imaging q)
  passed_saved n m p k e (found k₂) e₂ q = passed_page n m p k k₂ e e₂

  passed_save : (n : ℕ) (m : Machine) → Passed H n m → (f : Found) → lowest_pend H m ≡ f → (save H m f).next.phase ≡ Imaging → Passed H (n + 1) (save H m f).next
  passed_save n m p none e q = absurd (idle≢imaging q)
  passed_save n m p (found k) e q = passed_saved n m p k e (lowest_pend H (save_page H m k)) refl q

  no_turn : (m : Machine) → m.phase ≡ Imaging → refusal (view_m H m) Turn ≢ 0
  no_turn m pi e = let z : ◌≡◌ {A = ℕ} 16 0 = rw pi at e in omega arith

  no_mark : (m : Machine) → m.phase ≡ Imaging → (c : Call) → marks c ≡ true → refusal (view_m H m) c ≢ 0
  no_mark m pi (New j d r w) t e = both_ways false refl t
  no_mark m pi (Load j d s i) t e = both_ways false refl t
  no_mark m pi (Store j s i x) t e = both_ways false refl t
  no_mark m pi (Copy j d f s) t e = both_ways false refl t
  no_mark m pi (SetNumber j d n) t e = both_ways false refl t
  no_mark m pi (SetNil j d) t e = both_ways false refl t
  no_mark m pi (Same j x y) t e = both_ways false refl t
  no_mark m pi (Tell j x) t e = both_ways false refl t
  no_mark m pi Count t e = both_ways false refl t
  no_mark m pi Turn t e = both_ways false refl t
  no_mark m pi Step t e = both_ways false refl t
  no_mark m pi (Take j) t e = both_ways false refl t
  no_mark m pi (Resolve j p n) t e = both_ways false refl t
  no_mark m pi (Save n) t e = both_ways false refl t
  no_mark m pi (Mark n) t e = let y = (cond_zero (ltb n (70 + half H)) 5 _ (omega arith) e).1 in let z : ◌≡◌ {A = ℕ} 16 0 = rw pi at y in omega arith

  -- a call that is no SAVE, or a refused one
  passed_call : (n : ℕ) (m : Machine) → m.phase ≡ Imaging → Passed H n m → (c : Call) → Passed H n (call H m c).next
  passed_call n m pi p c = passed_on n m (call H m c).next p (drains_call H laws pos m (λ e. imaging≢ (sym pi ∙ e)) c (no_turn m pi) (no_mark m pi c))

  save_or : (m : Machine) (c : Call) → (saves H m c ≡ 0) ⊎ ((saves H m c ≡ 1) × ((call H m c).next ≡ (save H m (lowest_pend H m)).next))
  save_or m (New j d r w) = inl refl
  save_or m (Load j d s i) = inl refl
  save_or m (Store j s i x) = inl refl
  save_or m (Copy j d f s) = inl refl
  save_or m (SetNumber j d n) = inl refl
  save_or m (SetNil j d) = inl refl
  save_or m (Same j x y) = inl refl
  save_or m (Tell j x) = inl refl
  save_or m Count = inl refl
  save_or m Turn = inl refl
  save_or m Step = inl refl
  save_or m (Take j) = inl refl
  save_or m (Resolve j p n) = inl refl
  save_or m (Mark n) = inl refl
  save_or m (Save n) = elim (cases_eq (refusal (view_m H m) (Save n)) 0) [
    | inl e ↦ inr (rw (eq-eqb (refusal (view_m H m) (Save n)) 0 e) (refl, refl))
    | inr ne ↦ inl (rw (ne_eqb (refusal (view_m H m) (Save n)) 0 ne))
  ]

  passed_next : (n : ℕ) (m : Machine) → m.phase ≡ Imaging → Passed H n m → (c : Call) → (call H m c).next.phase ≡ Imaging → Passed H (n + saves H m c) (call H m c).next
  passed_next n m pi p c q = elim (save_or m c) [
    | inl e ↦ rw (e, add-zero) (passed_call n m pi p c)
    | inr e ↦ rw (e.0, e.1) (passed_save n m p (lowest_pend H m) refl (rw e.1 at q))
  ]

  passed : 0 < H.pages → {n : ℕ} {m : Machine} → Saving H n m → m.phase ≡ Imaging → Passed H n m
  passed some (begun m₀ n e) pi = record { saved = λ j l. absurd (omega arith); more = some }
  passed some (goes {k = k} {m = m} s pi c) q = passed_next k m pi (passed some s pi) c q

  pub seal_bound : 0 < H.pages → SealBound H
  seal_bound some n m s pi = (passed some s pi).more
