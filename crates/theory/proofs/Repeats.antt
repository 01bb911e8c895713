-- A call repeated next after the RESOLVE of its trap.
use Rattle.std.proofs.Common.{◌≡◌, ℕ, suc, ◌+◌, ◌-◌, ◌*◌, ◌/◌, ◌<◌, ◌≤◌, min, Bool, true, false, not, ◌&&◌, ◌||◌, ltb, leb, ◌≢◌, ◌⊎◌, sym, refl, ap, ◌∙◌, subst, inl, inr, mul_assoc, div-lt_iff_lt-mul, le-div_iff_mul-le, arith}
use Rattle.std.proofs.lemmas.Bool.{cases_eq, cases_lt, both_ways, eq-eqb, ne_eqb, eqb-true, eqb-false, lt-ltb, le-leb, leb-false, and_from, or_parts, not-false}
use Rattle.theory.specs.Collect.{Laws}
use Rattle.theory.specs.Machine.{Shape, half, Machine, trapped, refused, view_m, refusal, bad, at, head_of, refs, is_busy, closed_is_imaging, closed_is_running, ran_page}
use Rattle.model.specs.declared.states.State.TheVariants.{Waiting}
use Rattle.model.specs.declared.states.Phase.{Phase}
use Rattle.model.specs.declared.states.Phase.TheVariants.{Idle, Collecting, Imaging}
use Rattle.model.specs.declared.calls.Call.{Call}
use Rattle.model.specs.declared.calls.Call.TheVariants.{Resolve}
use Rattle.theory.specs.Steps.{call, act, traps, slot_at, resolved, resolved_save, behind, Outcome, addr_of}
use Rattle.theory.specs.Runs.{Accesses, Accesses.loads, Accesses.stores, AccessRepeatsFrom}
use Rattle.theory.proofs.Basics.{upd_same, page_lo, aligned}
use Rattle.theory.proofs.Cases.{load_ways, store_ways}
use Rattle.theory.proofs.Refusals.{cond_zero, name_ok}
use Rattle.theory.proofs.World.{Body, Phased}
use Rattle.theory.proofs.Rights.{InTo, Rights, Good, good_call, good_after}
use Rattle.theory.proofs.Copy.{start_top}
use Rattle.theory.proofs.Sim.{holder}
use Rattle.theory.proofs.Standing.{Stands, stands_after}

module _ (H : Shape) (laws : Laws H.lay) (pos : 0 < H.page) where
  abbrev P : ℕ
  P = H.page

  -- an address of to-space lies on a page of it
  pub page_in : (sd x : ℕ) → sd * half H ≤ x → x < sd * half H + half H → InTo H sd (x / P)
  page_in sd x l b =
      let ma = mul_assoc sd H.pages P in
      ((le-div_iff_mul-le {k = P} {x = sd * H.pages} {y = x} pos).1 (omega arith), (div-lt_iff_lt-mul {k = P} {x = x} {y = sd * H.pages + H.pages} pos).1 (omega arith))

  module _ (m : Machine) (g : Good H m) where
    abbrev b : Body H g.flip m.st m.scan m.side m.used m.reg m.phase g.never.heap g.never.reg g.never.l g.never.n g.never.u
    b = g.world.body

    -- a word of an object of to-space, on a page that RESOLVE has nothing to do for, can be written
    open_at : (x : ℕ) → (m.side * half H ≤ x) × (x < m.side * half H + half H) → (x < m.st.top) ⊎ (b.pair.limit ≤ x) → (is_busy m.phase && behind H m (x / P)) ≡ false → (closed_is_imaging m.phase && m.pend (x / P)) ≡ false → m.st.right (x / P) ≡ 2
    open_at x i w nb np = go m.phase nb np b.phased g.rights
      where
        into : InTo H m.side (x / P)
        into = page_in m.side x i.0 i.1

        go : (ph : Phase) → (is_busy ph && behind H m (x / P)) ≡ false → (closed_is_imaging ph && m.pend (x / P)) ≡ false → Phased H g.flip m.st m.scan m.used g.never.heap g.never.l g.never.u b.pair ph → Rights H m.st m.pend m.scan m.side m.used m.mark ph → m.st.right (x / P) ≡ 2
        go Idle f n o r = r (x / P) into
        go Imaging f n o r = (r.1 (x / P) into).0 n
        go Collecting f n o r =
            let lo = page_lo P x in
            let ma = mul_assoc m.side H.pages P in
            let al = aligned P (m.side * H.pages) x pos (omega (arith, i.0)) in
            elim w [
              | inl t ↦ (r (x / P) into).1 (omega arith) (elim (cases_lt (m.scan (x / P)) (min (x / P * P + P) m.st.top)) [
                | inl y ↦ absurd (both_ways (behind H m (x / P)) f (and_from (leb (m.side * half H) (x / P * P)) (ltb (m.scan (x / P)) (min (x / P * P + P) m.st.top)) (le-leb (m.side * half H) (x / P * P) (omega arith)) (lt-ltb (m.scan (x / P)) (min (x / P * P + P) m.st.top) y)))
                | inr y ↦ y
              ])
              | inr t ↦ (r (x / P) into).0 (let al₂ = aligned P (m.side * H.pages + (m.used + (P - 1)) / P) x pos (omega (arith, o.limit, b.start)) in omega arith)
            ]

    slot_open : (k s i : ℕ) → at k s < 32 → refs (m.reg (at k s)) ≡ true → i < H.lay.slots (head_of m.st.mem (m.reg (at k s))) → (is_busy m.phase && behind H m (slot_at m k s i / P)) ≡ false → (closed_is_imaging m.phase && m.pend (slot_at m k s i / P)) ≡ false → m.st.right (slot_at m k s i / P) ≡ 2
    slot_open k s i l r sl =
        let o = holder H laws pos g.flip m g.never g.world (g.never.reg (at k s)) (m.reg (at k s)) (b.regs (at k s) l).0 (b.regs (at k s) l).1 r in
        rw o.3 (at_slot o.0 o.2 (rw (o.3, b.inv.head o.0 o.2) at sl))
      where
        at_slot : (q : ℕ) → b.pair.live q ≡ true → i < H.lay.slots (g.never.heap.hdr q) → (is_busy m.phase && behind H m ((b.pair.to q + suc i) / P)) ≡ false → (closed_is_imaging m.phase && m.pend ((b.pair.to q + suc i) / P)) ≡ false → m.st.right ((b.pair.to q + suc i) / P) ≡ 2
        at_slot q lq si = elim (cases_lt q g.flip.old.many) [
          | inl a ↦ (let w = b.inv.within q lq a in open_at (b.pair.to q + suc i) (omega (arith, b.start), omega (arith, b.start, b.last, b.inv.limits)) (inl (omega arith)))
          | inr a ↦ (let w = b.inv.beyond q lq a in open_at (b.pair.to q + suc i) (omega (arith, b.start, b.inv.limits, start_top H.lay g.flip b.ok g.never.heap m.st b.pair b.inv), omega (arith, b.start, b.last)) (inr (omega (arith, b.inv.limits))))
        ]

  -- what an access that is not refused says
  pub access_ok : (m : Machine) (k s i : ℕ) (c : Call) → Accesses k s i c → refusal (view_m H m) c ≡ 0 → (k < 4) × (s < 8) × (at k s < 32) × (refs (m.reg (at k s)) ≡ true) × (i < H.lay.slots (head_of m.st.mem (m.reg (at k s))))
  access_ok m k s i c (loads d) e =
      let e₁ = cond_zero (bad k d || bad k s) 3 _ (omega arith) e in
      let e₂ = cond_zero (not (closed_is_running (m.mut k))) 11 _ (omega arith) e₁.1 in
      let e₃ = cond_zero (not (refs (m.reg (at k s)))) 12 _ (omega arith) e₂.1 in
      let e₄ = cond_zero (leb ((view_m H m).slots (at k s)) i) 13 0 (omega arith) e₃.1 in
      let n = name_ok k s (or_parts (bad k d) (bad k s) e₁.0).1 in
      (n.0, n.1, n.2, not-false (refs (m.reg (at k s))) e₃.0, leb-false ((view_m H m).slots (at k s)) i e₄.0)
  access_ok m k s i c (stores x) e =
      let e₁ = cond_zero (bad k s || bad k x) 3 _ (omega arith) e in
      let e₂ = cond_zero (not (closed_is_running (m.mut k))) 11 _ (omega arith) e₁.1 in
      let e₃ = cond_zero (not (refs (m.reg (at k s)))) 12 _ (omega arith) e₂.1 in
      let e₄ = cond_zero (leb ((view_m H m).slots (at k s)) i) 13 _ (omega arith) e₃.1 in
      let n = name_ok k s (or_parts (bad k s) (bad k x) e₁.0).0 in
      (n.0, n.1, n.2, not-false (refs (m.reg (at k s))) e₃.0, leb-false ((view_m H m).slots (at k s)) i e₄.0)

  -- a trap is on the slot's page, which is not at all, and leaves the mutator waiting
  abbrev pub Trap : Machine → ℕ → ℕ → ℕ → ℕ → Outcome → Type 0
  Trap m k s i p o = o.answer ≡ trapped p → (slot_at m k s i / P ≡ p) × (m.st.right (slot_at m k s i / P) ≢ 2) × (o.next ≡ (traps m k p).next)

  pub access_trap : (m : Machine) (k s i p : ℕ) (c : Call) → Accesses k s i c → Trap m k s i p (act H m c)
  access_trap m k s i p c (loads d) = load_ways H m (Trap m k s i p) k d s i
      (λ t e. let z : slot_at m k s i / P ≡ p = cc in let y = eqb-true _ _ t in (z, omega arith, ap (λ q. (traps m k q).next) z))
      (λ t e. absurd (let z : ◌≡◌ {A = ℕ} 0 1 = cc in omega arith))
  access_trap m k s i p c (stores x) = store_ways H m (Trap m k s i p) k s i x
      (λ t e. absurd (let z : ◌≡◌ {A = ℕ} 0 1 = cc in omega arith))
      (λ t e. let z : slot_at m k s i / P ≡ p = cc in (z, eqb-false _ _ t, ap (λ q. (traps m k q).next) z))

  -- a call that traps is not refused
  pub trap_acts : (m : Machine) (c : Call) (p : ℕ) → (call H m c).answer ≡ trapped p → (refusal (view_m H m) c ≡ 0) × (call H m c ≡ act H m c)
  trap_acts m c p e = elim (cases_eq (refusal (view_m H m) c) 0) [
    | inl z ↦ (z, rw (eq-eqb (refusal (view_m H m) c) 0 z))
    | inr ne ↦ absurd (let y : refused (refusal (view_m H m) c) ≡ trapped p = rw (ne_eqb (refusal (view_m H m) c) 0 ne) at e in let z : ◌≡◌ {A = ℕ} 0 1 = cc in omega arith)
  ]

  -- RESOLVE leaves registers, and its page at all, or finds nothing to do and leaves words and rights
  abbrev Resolved : Machine → ℕ → ℕ → Machine → Type 0
  Resolved m k p m₂ = (m₂.reg ≡ m.reg) × ((m₂.st.right p ≡ 2) ⊎ ((m₂.st ≡ m.st) × ((is_busy m.phase && behind H m p) ≡ false) × ((closed_is_imaging m.phase && m.pend p) ≡ false)))

  resolved_ways : (m : Machine) (k p : ℕ) (t : Bool) → (is_busy m.phase && behind H m p) ≡ t → Resolved m k p (resolved H m k p t).next
  resolved_ways m k p true e = (refl, inl (upd_same (ran_page H.lay H.page m.st m.scan p).0.right p 2))
  resolved_ways m k p false e = go (closed_is_imaging m.phase && m.pend p) refl
    where
      go : (t : Bool) → (closed_is_imaging m.phase && m.pend p) ≡ t → Resolved m k p (resolved_save H m k p t).next
      go true f = (refl, inl (upd_same m.st.right p 2))
      go false f = (refl, inr (refl, e, f))

  -- m₂ being the state after the RESOLVE
  again : (k s i p q : ℕ) (c : Call) → Accesses k s i c → (m₁ m₂ : Machine) → Good H m₁ → s < 8 → at k s < 32 → slot_at m₁ k s i / P ≡ p → Resolved m₁ k p m₂ → (call H m₂ c).answer ≢ trapped q
  again k s i p q c ac m₁ m₂ g₁ sb kb es₁ rs t =
      let a₂ = trap_acts m₂ c q t in
      let ok₂ = access_ok m₂ k s i c ac a₂.0 in
      let t₂ = access_trap m₂ k s i q c ac (rw a₂.1 at t) in
      let er : m₁.reg (at k s) ≡ m₂.reg (at k s) = sym (ap (λ f. f (at k s)) rs.0) in
      let es : slot_at m₂ k s i / P ≡ p = ap (λ v. (addr_of v + suc i) / P) (sym er) ∙ es₁ in
      elim rs.1 [
        | inl z ↦ t₂.1 (ap m₂.st.right es ∙ z)
        | inr z ↦ (
            let y = slot_open m₁ g₁ k s i kb (ap refs er ∙ ok₂.3) (subst (λ w. i < H.lay.slots (head_of w (m₁.reg (at k s)))) (ap (λ u. u.mem) z.0) (subst (λ v. i < H.lay.slots (head_of m₂.st.mem v)) (sym er) ok₂.4)) (rw es₁ z.1) (rw es₁ z.2) in
            t₂.1 (ap m₂.st.right es ∙ ap (λ w. w.right p) z.0 ∙ ap m₁.st.right (sym es₁) ∙ y))
      ]

  resolve_runs : (m : Machine) (k p n : ℕ) → refusal (view_m H m) (Resolve k p n) ≡ 0 → Resolved m k p (call H m (Resolve k p n)).next
  resolve_runs m k p n re = rw (eq-eqb (refusal (view_m H m) (Resolve k p n)) 0 re) (resolved_ways m k p (is_busy m.phase && behind H m p) refl)

  pub access_repeats : (start : Machine) → Good H start → AccessRepeatsFrom H start
  access_repeats start good xs ys c k s i p n ac m₀ e₀ t₁ m₁ e₁ qu re q =
      let g₀ = rw (sym e₀) at (good_after H laws pos start good xs) in
      let g₁ = rw (sym e₁) at (good_after H laws pos (call H m₀ c).next (good_call H laws pos m₀ g₀ c) ys) in
      let a₀ = trap_acts m₀ c p t₁ in
      let ok = access_ok m₀ k s i c ac a₀.0 in
      let t₀ = access_trap m₀ k s i p c ac (rw a₀.1 at t₁) in
      let st₀ : Stands k p m₀.reg (call H m₀ c).next = rw (a₀.1, t₀.2) (record { state = inl (upd_same m₀.mut k (Waiting p)); kept = λ z l. refl }) in
      let st₁ = rw (sym e₁) at (stands_after H k p ok.0 m₀.reg (call H m₀ c).next st₀ ys qu) in
      again k s i p q c ac m₁ (call H m₁ (Resolve k p n)).next g₁ ok.1 ok.2 (ap (λ v. (addr_of v + suc i) / P) (st₁.kept s ok.1) ∙ t₀.0) (resolve_runs m₁ k p n re)
