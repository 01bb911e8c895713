-- What the rights of to-space are, in each phase.
use Rattle.std.proofs.Common.{◌≡◌, ℕ, ◌+◌, ◌-◌, ◌*◌, ◌<◌, ◌≤◌, min, Bool, true, false, not, ◌&&◌, ◌||◌, ltb, leb, ◌⊎◌, List, [], ◌∷◌, sym, refl, ◌∙◌, subst, inl, inr, le_refl, arith}
use Rattle.std.proofs.lemmas.Bool.{cases_eq, cases_lt, both_ways, eq-eqb, ne_eqb, ltb-true, leb-true, and_parts, not-false, or_cases}
use Rattle.std.proofs.lemmas.Bool.Decides.{nat_tests}
use Rattle.theory.specs.Model.{upd}
use Rattle.theory.specs.Collect.{Laws, Flip, St}
use Rattle.theory.specs.Machine.{Shape, half, whole, Machine, Never, view_m, refusal, is_busy, closed_is_idle, closed_is_imaging, Found, Found.none, Found.found, ran_page, begins}
use Rattle.model.specs.declared.states.Phase.{Phase}
use Rattle.model.specs.declared.states.Phase.TheVariants.{Idle, Collecting, Imaging}
use Rattle.model.specs.declared.calls.Call.{Call}
use Rattle.model.specs.declared.calls.Call.TheVariants.{New, Load, Store, Copy, SetNumber, SetNil, Same, Tell, Count, Flip as Turn, Step, Take, Resolve, Mark, Save}
use Rattle.theory.specs.Steps.{call, n_call, act, denied, step, stepped, save, saved, seal, save_page, mark_now, lowest_pend, closed_used_page, resolved, resolved_save, closed_new_at, lowest_behind, behind, scan_page, finish, turned, swapped, used_now, stored}
use Rattle.theory.proofs.Basics.{upd_other, upd_at, lowest_passes, lowest_fails}
use Rattle.theory.proofs.Cases.{load_ways, store_ways}
use Rattle.theory.proofs.Refusals.{cond_zero}
use Rattle.theory.proofs.BodyNew.{in_range}
use Rattle.theory.proofs.World.{Body, World}
use Rattle.theory.proofs.Shuts.{shuts_run, shuts_regs}
use Rattle.theory.specs.Runs.{after}
use Rattle.theory.proofs.Sim.{simulate, body_busy, world_scan, busy_phase, image_phase, idle_is}

-- page n lies in to-space
abbrev pub InTo : Shape → ℕ → ℕ → Type 0
InTo H side n = (side * H.pages ≤ n) × (n < side * H.pages + H.pages)

-- idle: all. Collecting: all where new objects may lie, and on each page with copied words that is not behind.
-- Imaging: read on an unsaved page, which had a used word at MARK and lies in to-space, and all elsewhere.
abbrev pub Rights : Shape → St → (ℕ → Bool) → (ℕ → ℕ) → ℕ → ℕ → ℕ → Phase → Type 0
Rights H st pend scan side used mark Idle = (n : ℕ) → InTo H side n → st.right n ≡ 2
Rights H st pend scan side used mark Collecting = (n : ℕ) → InTo H side n → (side * half H + whole H.page used ≤ n * H.page → st.right n ≡ 2) × (n * H.page < st.top → min (n * H.page + H.page) st.top ≤ scan n → st.right n ≡ 2)
Rights H st pend scan side used mark Imaging = (st.low ≤ mark) × ((n : ℕ) → InTo H side n → (pend n ≡ false → st.right n ≡ 2) × (pend n ≡ true → (st.right n ≡ 1) × ((n * H.page < st.top) ⊎ (mark < n * H.page + H.page)))) × ((n : ℕ) → pend n ≡ true → InTo H side n)

abbrev pub RightsOf : Shape → Machine → Type 0
RightsOf H m = Rights H m.st m.pend m.scan m.side m.used m.mark m.phase

module _ (H : Shape) (laws : Laws H.lay) (pos : 0 < H.page) where
  abbrev P : ℕ
  P = H.page

  -- a page scanned
  rights_scan : (F : Flip) (m : Machine) (a : Never) → World H F m a → (n : ℕ) → behind H m n ≡ true → Body H F m.st m.scan m.side m.used m.reg Collecting a.heap a.reg a.l a.n a.u → World H F (scan_page H m n) a → m.phase ≡ Collecting →
      Rights H m.st m.pend m.scan m.side m.used m.mark Collecting → Rights H (scan_page H m n).st m.pend (scan_page H m n).scan m.side m.used m.mark Collecting
  rights_scan F m a w n bh c w₂ pc r q i =
      let r₁ : St × ℕ = ran_page H.lay P m.st m.scan n in
      let s = shuts_run H.lay P pos (n * P + P) P m.st (begins P m.st m.scan n) (m.scan n) in
      let c₂ = body_busy H laws pos F (scan_page H m n) a w₂ pc in
      elim (cases_eq q n) [
        | inl e ↦ (let z = upd_at r₁.0.right n q 2 e in ((λ l. z), λ l k. z))
        | inr ne ↦ (
            let z = upd_other r₁.0.right n q 2 ne in
            let y = upd_other m.scan n q r₁.1 ne in (
              (λ l. z ∙ s.beyond q (omega (arith, c₂.inv.limits, c₂.phased.limit, c₂.start)) ∙ (r q i).0 l),
              λ l k. elim (cases_lt m.st.top (q * P + P)) [
                | inr b ↦ z ∙ s.below q b ∙ (r q i).1 (omega arith) (omega (arith, y, s.rises))
                | inl b ↦ elim (cases_eq r₁.0.top m.st.top) [
                  | inl e ↦ z ∙ s.same e q ∙ (r q i).1 (omega arith) (omega (arith, y))
                  | inr d ↦ absurd (omega (arith, y, c.phased.scans.tops q, s.rises))
                ]
              ],
            ))
      ]

  -- FLIP
  rights_turn : (F : Flip) (m : Machine) (a : Never) → World H F (turned H m) a → RightsOf H (turned H m)
  rights_turn F m a w q i =
      let s = shuts_regs H.lay P pos (swapped H m) m.reg 32 in
      let c = w.body in
      ((λ l. s.beyond q (omega (arith, c.inv.limits, c.phased.limit, c.start)) ∙ at_first q i l), λ l k. absurd (omega arith))
    where
      at_first : (q : ℕ) → InTo H (1 - m.side) q → (1 - m.side) * half H + whole P (used_now H m) ≤ q * P → (swapped H m).right q ≡ 2
      at_first q i l = rw (in_range ((1 - m.side) * H.pages) ((1 - m.side) * H.pages + H.pages) q i.0 i.1) (grind (arith, nat_tests))

  rights_finish : (m : Machine) → RightsOf H (finish H m)
  rights_finish m q i = rw (in_range (m.side * H.pages) (m.side * H.pages + H.pages) q i.0 i.1)

  rights_mark : (m : Machine) → Rights H m.st m.pend m.scan m.side m.used m.mark Idle → RightsOf H (mark_now H m)
  rights_mark m r = (le_refl _, (λ n i. ((λ e. rw e (r n i)), λ e. (rw (e, r n i), used n e))), in_half)
    where
      used : (n : ℕ) → closed_used_page H m n ≡ true → (n * P < m.st.top) ⊎ (m.st.low < n * P + P)
      used n e =
          let t = (and_parts (leb (m.side * H.pages) n && ltb n (m.side * H.pages + H.pages)) (ltb (n * P) m.st.top || ltb m.st.low (n * P + P)) e).1 in
          elim (or_cases (ltb (n * P) m.st.top) (ltb m.st.low (n * P + P)) t) [ inl x ↦ inl (ltb-true (n * P) m.st.top x) | inr x ↦ inr (ltb-true m.st.low (n * P + P) x) ]

      in_half : (n : ℕ) → closed_used_page H m n ≡ true → InTo H m.side n
      in_half n e =
          let t = (and_parts (leb (m.side * H.pages) n && ltb n (m.side * H.pages + H.pages)) (ltb (n * P) m.st.top || ltb m.st.low (n * P + P)) e).0 in
          let u = and_parts (leb (m.side * H.pages) n) (ltb n (m.side * H.pages + H.pages)) t in
          (leb-true (m.side * H.pages) n u.0, ltb-true n (m.side * H.pages + H.pages) u.1)

  rights_save : (m : Machine) (n : ℕ) → Rights H m.st m.pend m.scan m.side m.used m.mark Imaging → RightsOf H (save_page H m n)
  rights_save m n r = (
    r.0,
    (λ q i. elim (cases_eq q n) [
      | inl e ↦ ((λ z. upd_at m.st.right n q 2 e), λ z. absurd (both_ways (upd m.pend n false q) (upd_at m.pend n q false e) z))
      | inr ne ↦ rw (upd_other m.pend n q false ne, upd_other m.st.right n q 2 ne) (r.1 q i)
    ]),
    λ q z. elim (cases_eq q n) [
      | inl e ↦ absurd (both_ways (upd m.pend n false q) (upd_at m.pend n q false e) z)
      | inr ne ↦ r.2 q (sym (upd_other m.pend n q false ne) ∙ z)
    ],
  )

  rights_seal : (m : Machine) → lowest_pend H m ≡ none → Rights H m.st m.pend m.scan m.side m.used m.mark Imaging → RightsOf H (seal H m)
  rights_seal m e r n i = (r.1 n i).0 (lowest_fails H.pages (m.side * H.pages) m.pend e n i.0 i.1)

  -- words written, or new ones placed below the others
  rights_words : (st st' : St) (pend : ℕ → Bool) (scan : ℕ → ℕ) (side used mark : ℕ) → st'.right ≡ st.right → st'.top ≡ st.top → st'.low ≤ st.low → (ph : Phase) → Rights H st pend scan side used mark ph → Rights H st' pend scan side used mark ph
  rights_words st st' pend scan side used mark er et el Idle r = λ n i. rw er (r n i)
  rights_words st st' pend scan side used mark er et el Collecting r = λ n i. rw (er, et) (r n i)
  rights_words st st' pend scan side used mark er et el Imaging r = (omega (arith, r.0), (λ n i. rw (er, et) (r.1 n i)), r.2)

  module _ (F : Flip) (m : Machine) (a : Never) (w : World H F m a) (r : RightsOf H m) where
    rights_busy : m.phase ≡ Collecting → Rights H m.st m.pend m.scan m.side m.used m.mark Collecting
    rights_busy e = subst (λ p. Rights H m.st m.pend m.scan m.side m.used m.mark p) e r

    rights_imaging : m.phase ≡ Imaging → Rights H m.st m.pend m.scan m.side m.used m.mark Imaging
    rights_imaging e = subst (λ p. Rights H m.st m.pend m.scan m.side m.used m.mark p) e r

    rights_idle : m.phase ≡ Idle → Rights H m.st m.pend m.scan m.side m.used m.mark Idle
    rights_idle e = subst (λ p. Rights H m.st m.pend m.scan m.side m.used m.mark p) e r

    rights_page : m.phase ≡ Collecting → (n : ℕ) → behind H m n ≡ true → RightsOf H (scan_page H m n)
    rights_page pc n bh = subst (λ p. Rights H (scan_page H m n).st m.pend (scan_page H m n).scan m.side m.used m.mark p) (sym pc)
        (rights_scan F m a w n bh (body_busy H laws pos F m a w pc) (world_scan H laws pos F m a w pc n bh) pc (rights_busy pc))

    rights_new : (k d x y : ℕ) (f : Found) → RightsOf H (closed_new_at H m k d x y f).next
    rights_new k d x y (found p) = r
    rights_new k d x y none = rights_words m.st (closed_new_at H m k d x y none).next.st m.pend m.scan m.side m.used m.mark refl refl (omega arith) m.phase r

    rights_stepped : (m₂ : Machine) → RightsOf H m₂ → (sc co : ℕ) (f : Found) → RightsOf H (stepped H m₂ sc co f).next
    rights_stepped m₂ r₂ sc co none = rights_finish m₂
    rights_stepped m₂ r₂ sc co (found n) = r₂

    rights_step : m.phase ≡ Collecting → (f : Found) → lowest_behind H m ≡ f → RightsOf H (step H m f).next
    rights_step pc none e = rights_finish m
    rights_step pc (found n) e = rights_stepped (scan_page H m n) (rights_page pc n (lowest_passes H.pages (m.side * H.pages) (behind H m) n e)) _ _ (lowest_behind H (scan_page H m n))

    rights_resolve_save : (k n : ℕ) (t : Bool) → (closed_is_imaging m.phase && m.pend n) ≡ t → RightsOf H (resolved_save H m k n t).next
    rights_resolve_save k n true e = rights_save m n (rights_imaging (image_phase H laws pos m.phase (and_parts (closed_is_imaging m.phase) (m.pend n) e).0))
    rights_resolve_save k n false e = r

    rights_resolve : (k n : ℕ) (t : Bool) → (is_busy m.phase && behind H m n) ≡ t → RightsOf H (resolved H m k n t).next
    rights_resolve k n true e = let t = and_parts (is_busy m.phase) (behind H m n) e in rights_page (busy_phase H laws pos m.phase t.0) n t.1
    rights_resolve k n false e = rights_resolve_save k n (closed_is_imaging m.phase && m.pend n) refl

    rights_saved : (m₂ : Machine) → m₂.phase ≡ Imaging → Rights H m₂.st m₂.pend m₂.scan m₂.side m₂.used m₂.mark Imaging → (f : Found) → lowest_pend H m₂ ≡ f → RightsOf H (saved H m₂ f).next
    rights_saved m₂ pi r₂ none e = rights_seal m₂ e r₂
    rights_saved m₂ pi r₂ (found n) e = subst (λ p. Rights H m₂.st m₂.pend m₂.scan m₂.side m₂.used m₂.mark p) (sym pi) r₂

    rights_saves : m.phase ≡ Imaging → (f : Found) → lowest_pend H m ≡ f → RightsOf H (save H m f).next
    rights_saves pi none e = rights_saved m pi (rights_imaging pi) none e
    rights_saves pi (found n) e = rights_saved (save_page H m n) refl (rights_save m n (rights_imaging pi)) (lowest_pend H (save_page H m n)) refl

    rights_act : (c : Call) → refusal (view_m H m) c ≡ 0 → (F₂ : Flip) (a₂ : Never) → World H F₂ (act H m c).next a₂ → RightsOf H (act H m c).next
    rights_act (New k d x y) e F₂ a₂ w₂ = rights_new k d x y _
    rights_act (Load k d x i) e F₂ a₂ w₂ = load_ways H m (λ o. RightsOf H o.next) k d x i (λ t. r) (λ t. r)
    rights_act (Store k x i y) e F₂ a₂ w₂ = store_ways H m (λ o. RightsOf H o.next) k x i y (λ t. rights_words m.st (stored H m k x i y).st m.pend m.scan m.side m.used m.mark refl refl (le_refl _) m.phase r) (λ t. r)
    rights_act (Copy k d f x) e F₂ a₂ w₂ = r
    rights_act (SetNumber k d n) e F₂ a₂ w₂ = r
    rights_act (SetNil k d) e F₂ a₂ w₂ = r
    rights_act (Same k x y) e F₂ a₂ w₂ = r
    rights_act (Tell k x) e F₂ a₂ w₂ = r
    rights_act Count e F₂ a₂ w₂ = r
    rights_act Turn e F₂ a₂ w₂ = rights_turn F₂ m a₂ w₂
    rights_act Step e F₂ a₂ w₂ = rights_step (busy_phase H laws pos m.phase (not-false (is_busy m.phase) (cond_zero (not (is_busy m.phase)) 18 0 (omega arith) e).0)) (lowest_behind H m) refl
    rights_act (Take k) e F₂ a₂ w₂ = r
    rights_act (Resolve k p n) e F₂ a₂ w₂ = rights_resolve k p (is_busy m.phase && behind H m p) refl
    rights_act (Mark n) e F₂ a₂ w₂ = rights_mark m (rights_idle (idle_is H laws pos m.phase (cond_zero (not (closed_is_idle m.phase)) 16 0 (omega arith) (cond_zero (ltb n (70 + half H)) 5 _ (omega arith) e).1).0))
    rights_act (Save n) e F₂ a₂ w₂ = rights_saves (image_phase H laws pos m.phase (not-false (closed_is_imaging m.phase) (cond_zero (not (closed_is_imaging m.phase)) 18 0 (omega arith) (cond_zero (ltb n (70 + half H)) 5 _ (omega arith) e).1).0)) (lowest_pend H m) refl

    rights_denied : (c : Call) (e : ℕ) → RightsOf H (denied m c e)
    rights_denied (New k d x y) e = r
    rights_denied (Load k d x i) e = r
    rights_denied (Store k x i y) e = r
    rights_denied (Copy k d f x) e = r
    rights_denied (SetNumber k d n) e = r
    rights_denied (SetNil k d) e = r
    rights_denied (Same k x y) e = r
    rights_denied (Tell k x) e = r
    rights_denied Count e = r
    rights_denied Turn e = r
    rights_denied Step e = r
    rights_denied (Take k) e = r
    rights_denied (Resolve k p n) e = r
    rights_denied (Mark n) e = r
    rights_denied (Save n) e = r

    pub rights_call : (c : Call) (F₂ : Flip) (a₂ : Never) → World H F₂ (call H m c).next a₂ → RightsOf H (call H m c).next
    rights_call c F₂ a₂ w₂ = elim (cases_eq (refusal (view_m H m) c) 0) [
      | inl e ↦ rw (eq-eqb (refusal (view_m H m) c) 0 e) (rights_act c e F₂ a₂ (rw (eq-eqb (refusal (view_m H m) c) 0 e) at w₂))
      | inr ne ↦ rw (ne_eqb (refusal (view_m H m) c) 0 ne) (rights_denied c (refusal (view_m H m) c))
    ]

-- a state that calls lead to, paired, with its rights
pub record Good (H : Shape) (m : Machine) : Type 0 where
  pub flip : Flip
  pub never : Never
  pub world : World H flip m never
  pub rights : RightsOf H m

module _ (H : Shape) (laws : Laws H.lay) (pos : 0 < H.page) where
  pub good_call : (m : Machine) → Good H m → (c : Call) → Good H (call H m c).next
  good_call m g c =
      let o = simulate H laws pos g.flip m g.never g.world c in
      record { flip = o.flip; never = (n_call H g.never c (call H m c).told).next; world = o.world; rights = rights_call H laws pos g.flip m g.never g.world g.rights c o.flip _ o.world }

  pub good_after : (m : Machine) → Good H m → (cs : List Call) → Good H (after H m cs)
  good_after m g [] = g
  good_after m g (c ∷ cs) = good_after (call H m c).next (good_call m g c) cs
