-- A NEW traps only under an image, on the page with the copy end or that with the lowest new word at MARK: so at most twice running.
use Rattle.std.proofs.Common.{◌≡◌, ℕ, suc, ◌+◌, ◌-◌, ◌*◌, ◌/◌, ◌<◌, ◌≤◌, true, false, not, ◌||◌, eqb, ltb, ◌≢◌, ◌⊎◌, List, [], ◌∷◌, sym, refl, ap, ◌∙◌, inl, inr, mul-le-mul_right, mul_assoc, div-lt_iff_lt-mul, le-div_iff_mul-le, arith}
use Rattle.std.proofs.lemmas.Bool.{cases_Bool, both_ways, eqb-false, or_left, or_right, not-true}
use Rattle.layouts.specs.declared.values.Value.{Value}
use Rattle.theory.specs.Collect.{Laws}
use Rattle.theory.specs.Machine.{Shape, half, Machine, trapped, view_m, refusal, bad, closed_is_running, lowest, Found, Found.none, Found.found}
use Rattle.model.specs.declared.states.State.TheVariants.{Waiting}
use Rattle.model.specs.declared.states.Phase.{Phase}
use Rattle.model.specs.declared.states.Phase.TheVariants.{Idle, Collecting, Imaging}
use Rattle.model.specs.declared.calls.Call.{Call}
use Rattle.model.specs.declared.calls.Call.TheVariants.{New, Resolve}
use Rattle.theory.specs.Steps.{call, traps, closed_new_at}
use Rattle.theory.specs.Runs.{after, Quiet, resolves, marks, NewRepeatsFrom}
use Rattle.theory.proofs.Basics.{upd_same, page_lo, page_hi, page_of, div_mono, lowest_passes, lowest_least}
use Rattle.theory.proofs.Copy.{start_top}
use Rattle.theory.proofs.Refusals.{cond_zero, name_ok}
use Rattle.theory.proofs.World.{Body, Phased}
use Rattle.theory.proofs.Rights.{InTo, Rights, Good, good_call, good_after}
use Rattle.theory.proofs.Sim.{new_space, calm}
use Rattle.theory.proofs.Standing.{Stands, stands_call, no_turn}
use Rattle.theory.proofs.Repeats.{trap_acts}
use Rattle.theory.proofs.Drains.{Drains, drains_trans, stay, resolve_clears, drains_call}

module _ (H : Shape) (laws : Laws H.lay) (pos : 0 < H.page) where
  abbrev P : ℕ
  P = H.page

  pub drains_after : (k p : ℕ) → k < 4 → (reg : ℕ → Value) (m : Machine) → m.phase ≢ Collecting → Stands k p reg m → (cs : List Call) → Quiet H (λ c. resolves k c || marks c) m cs → Drains m (after H m cs)
  drains_after k p kb reg m ca h [] q = stay H laws pos m ca m refl refl refl refl refl
  drains_after k p kb reg m ca h (c ∷ cs) q =
      let d = drains_call H laws pos m ca c (no_turn H k p kb reg m h) (λ t. q.0 (or_right (resolves k c) (marks c) t)) in
      drains_trans m (call H m c).next (after H (call H m c).next cs) d
      (drains_after k p kb reg (call H m c).next d.calm (stands_call H k p kb reg m h c (λ t. q.0 (or_left (resolves k c) (marks c) t))) cs q.1)

  -- where a NEW may trap
  abbrev pub Edge : Machine → ℕ → Type 0
  Edge m p = (m.phase ≡ Imaging) × (m.pend p ≡ true) × ((p ≡ m.st.top / P) ⊎ (p ≡ m.mark / P)) × InTo H m.side p

  module _ (m : Machine) (g : Good H m) (z : ℕ) (zp : 0 < z) (room : g.world.body.pair.limit + z ≤ m.st.low) where
    abbrev b : Body H g.flip m.st m.scan m.side m.used m.reg m.phase g.never.heap g.never.reg g.never.l g.never.n g.never.u
    b = g.world.body

    edge_at : (p : ℕ) → (m.st.low - z) / P ≤ p → p ≤ (m.st.low - 1) / P → m.st.right p ≢ 2 → Edge m p
    edge_at p lo hi nr = go m.phase refl b.phased g.rights
      where
        tops : (m.side * half H ≤ m.st.top) × (m.st.top ≤ b.pair.limit) × (m.st.low ≤ m.side * half H + half H)
        tops = omega (arith, b.start, b.last, b.inv.limits, start_top H.lay g.flip b.ok g.never.heap m.st b.pair b.inv)

        lo_page : m.st.low - z < p * P + P
        lo_page = let q = page_hi P (m.st.low - z) pos in let r : (m.st.low - z) / P * P ≤ p * P = mul-le-mul_right P lo in omega arith

        hi_page : p * P ≤ m.st.low - 1
        hi_page = let q = page_lo P (m.st.low - 1) in let r : p * P ≤ (m.st.low - 1) / P * P = mul-le-mul_right P hi in omega arith

        above : (j : ℕ) → j * P ≤ m.st.low - z → j ≤ p
        above j l = let q = (le-div_iff_mul-le {k = P} {x = j} {y = m.st.low - z} pos).1 l in omega arith

        into : InTo H m.side p
        into =
            let ma = mul_assoc m.side H.pages P in (
              above (m.side * H.pages) (omega (arith, tops)),
              let q = (div-lt_iff_lt-mul {k = P} {x = m.st.low - 1} {y = m.side * H.pages + H.pages} pos).1 (omega (arith, tops)) in omega arith,
            )

        go : (ph : Phase) → m.phase ≡ ph → Phased H g.flip m.st m.scan m.used g.never.heap g.never.l g.never.u b.pair ph → Rights H m.st m.pend m.scan m.side m.used m.mark ph → Edge m p
        go Idle e o r = absurd (nr (r p into))
        go Collecting e o r =
            let ma = mul_assoc m.side H.pages P in
            let j : m.side * H.pages + (m.used + (P - 1)) / P ≤ p = above (m.side * H.pages + (m.used + (P - 1)) / P) (omega (arith, o.limit, b.start)) in
            let y : (m.side * H.pages + (m.used + (P - 1)) / P) * P ≤ p * P = mul-le-mul_right P j in
            absurd (nr ((r p into).0 (omega arith)))
        go Imaging e o r = elim (cases_Bool (m.pend p)) [
          | inr f ↦ absurd (nr ((r.1 p into).0 f))
          | inl t ↦ (
            e,
            t,
            elim ((r.1 p into).1 t).1 [
              | inl a ↦ inl (sym (page_of P m.st.top p (omega arith) (omega (arith, tops, lo_page))))
              | inr a ↦ inr (sym (page_of P m.mark p (omega (arith, hi_page, r.0)) a))
            ],
            into,
          )
        ]

  pub new_edge : (m : Machine) → Good H m → (k d r w p : ℕ) → (call H m (New k d r w)).answer ≡ trapped p → (k < 4) × Edge m p × ((call H m (New k d r w)).next ≡ (traps m k p).next)
  new_edge m g k d r w p t =
      let a = trap_acts H laws pos m (New k d r w) p t in
      let e₁ = cond_zero (bad k d) 3 _ (omega arith) a.0 in
      let e₂ = cond_zero (ltb 255 (r + w)) 4 _ (omega arith) e₁.1 in
      let e₃ = cond_zero (not (closed_is_running (m.mut k))) 11 _ (omega arith) e₂.1 in
      let e₄ = cond_zero ((view_m H m).full (suc (r + w))) 15 0 (omega arith) e₃.1 in
      let room = new_space H laws pos g.flip m g.never g.world m.phase g.world.body.phased (suc (r + w)) e₄.0 in
      let o = at_found room (lowest (suc ((m.st.low - 1) / P - (m.st.low - suc (r + w)) / P)) ((m.st.low - suc (r + w)) / P) (λ n. not (eqb (m.st.right n) 2))) refl (rw a.1 at t) in
      ((name_ok k d e₁.0).0, o.0, ap (λ z. z.next) a.1 ∙ o.1)
    where
      at_found : g.world.body.pair.limit + suc (r + w) ≤ m.st.low → (f : Found) → lowest (suc ((m.st.low - 1) / P - (m.st.low - suc (r + w)) / P)) ((m.st.low - suc (r + w)) / P) (λ n. not (eqb (m.st.right n) 2)) ≡ f → (closed_new_at H m k d r w f).answer ≡ trapped p → Edge m p × ((closed_new_at H m k d r w f).next ≡ (traps m k p).next)
      at_found room none e t = absurd (let z : ◌≡◌ {A = ℕ} 0 1 = cc in omega arith)
      at_found room (found q) e t =
          let z : q ≡ p = cc in
          let ps = lowest_passes (suc ((m.st.low - 1) / P - (m.st.low - suc (r + w)) / P)) ((m.st.low - suc (r + w)) / P) (λ n. not (eqb (m.st.right n) 2)) q e in
          let le = lowest_least (suc ((m.st.low - 1) / P - (m.st.low - suc (r + w)) / P)) ((m.st.low - suc (r + w)) / P) (λ n. not (eqb (m.st.right n) 2)) q e in
          let dm = div_mono P (m.st.low - suc (r + w)) (m.st.low - 1) (omega arith) in
          (rw z at (edge_at m g (suc (r + w)) (omega arith) room q le.0 (omega (arith, le.1)) (eqb-false (m.st.right q) 2 (not-true (eqb (m.st.right q) 2) ps))), ap (λ x. (traps m k x).next) z)

  trap_stands : (m m' : Machine) (k p : ℕ) → m' ≡ (traps m k p).next → (Stands k p m.reg m') × (m'.phase ≡ m.phase) × (m'.st ≡ m.st) × (m'.mark ≡ m.mark) × (m'.pend ≡ m.pend) × (m'.side ≡ m.side)
  trap_stands m m' k p e = rw e (record { state = inl (upd_same m.mut k (Waiting p)); kept = λ s l. refl }, refl, refl, refl, refl, refl)

  -- from a trap of NEW on p to the end of its RESOLVE
  round : (m m₁ : Machine) → Good H m → (k d r w p n : ℕ) → (call H m (New k d r w)).answer ≡ trapped p → (ys : List Call) → m₁ ≡ after H (call H m (New k d r w)).next ys → Quiet H (λ c. resolves k c || marks c) (call H m (New k d r w)).next ys → refusal (view_m H m₁) (Resolve k p n) ≡ 0 →
      (Edge m p) × (Drains m (call H m₁ (Resolve k p n)).next) × ((call H m₁ (Resolve k p n)).next.phase ≡ Imaging → (call H m₁ (Resolve k p n)).next.pend p ≡ false)
  round m m₁ g k d r w p n t ys e₁ qu re =
      let o = new_edge m g k d r w p t in
      let s = trap_stands m (call H m (New k d r w)).next k p o.2 in
      let ca : m.phase ≢ Collecting = calm H laws pos m.phase o.1.0 in
      let d₀ = stay H laws pos m ca (call H m (New k d r w)).next s.1 s.5 (ap (λ z. z.top) s.2) s.3 s.4 in
      let d₁ = rw (sym e₁) at (drains_after k p o.0 m.reg (call H m (New k d r w)).next d₀.calm s.0 ys qu) in
      let d₂ = drains_trans m (call H m (New k d r w)).next m₁ d₀ d₁ in
      let c = resolve_clears H laws pos m₁ d₂.calm k p n re in
      (o.1, drains_trans m m₁ (call H m₁ (Resolve k p n)).next d₂ c.0, c.1)

  pub new_repeats : (start : Machine) → Good H start → NewRepeatsFrom H start
  new_repeats start good xs ys zs k d r w p p₂ n n₂ m₀ e₀ t₀ m₁ e₁ q₁ re₁ m₂ e₂ t₂ m₃ e₃ q₃ re₃ q t₄ =
      let g₀ = rw (sym e₀) at (good_after H laws pos start good xs) in
      let g₁ = rw (sym e₁) at (good_after H laws pos (call H m₀ (New k d r w)).next (good_call H laws pos m₀ g₀ (New k d r w)) ys) in
      let g₂ = rw (sym e₂) at (good_call H laws pos m₁ g₁ (Resolve k p n)) in
      let g₃ = rw (sym e₃) at (good_after H laws pos (call H m₂ (New k d r w)).next (good_call H laws pos m₂ g₂ (New k d r w)) zs) in
      let g₄ = good_call H laws pos m₃ g₃ (Resolve k p₂ n₂) in
      let a = rw (sym e₂) at (round m₀ m₁ g₀ k d r w p n t₀ ys e₁ q₁ re₁) in
      let b = round m₂ m₃ g₂ k d r w p₂ n₂ t₂ zs e₃ q₃ re₃ in
      thrice m₀ m₂ (call H m₃ (Resolve k p₂ n₂)).next p p₂ q a.0 a.1 a.2 b.0 b.1 b.2 (new_edge (call H m₃ (Resolve k p₂ n₂)).next g₄ k d r w q t₄).1
    where
      thrice : (m₀ m₂ m₄ : Machine) (p p₂ q : ℕ) → Edge m₀ p → Drains m₀ m₂ → (m₂.phase ≡ Imaging → m₂.pend p ≡ false) → Edge m₂ p₂ → Drains m₂ m₄ → (m₄.phase ≡ Imaging → m₄.pend p₂ ≡ false) → Edge m₄ q → ⊥
      thrice m₀ m₂ m₄ p p₂ q a d₀ c₂ b d₂ c₄ c =
          let n₁ : p ≢ p₂ = λ e. both_ways (m₂.pend p) (c₂ b.0) (ap m₂.pend e ∙ b.1) in
          let n₂ : p₂ ≢ q = λ e. both_ways (m₄.pend p₂) (c₄ c.0) (ap m₄.pend e ∙ c.1) in
          let n₃ : p ≢ q = λ e. both_ways (m₂.pend p) (c₂ b.0) (ap m₂.pend e ∙ d₂.pend q c.1) in
          let t₂ : m₂.st.top / P ≡ m₀.st.top / P = ap (λ x. x / P) d₀.top in
          let t₄ : m₄.st.top / P ≡ m₂.st.top / P = ap (λ x. x / P) d₂.top in
          let k₂ : m₂.mark / P ≡ m₀.mark / P = ap (λ x. x / P) d₀.mark in
          let k₄ : m₄.mark / P ≡ m₂.mark / P = ap (λ x. x / P) d₂.mark in
          omega (arith, a.2, b.2, c.2)
