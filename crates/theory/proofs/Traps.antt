-- When a call traps, and where.
use Rattle.std.proofs.Common.{◌≡◌, ℕ, ◌+◌, ◌*◌, ◌/◌, ◌<◌, ◌≤◌, Bool, true, false, ◌&&◌, ◌≢◌, sym, refl, ap, subst, inl, inr, arith}
use Rattle.std.proofs.lemmas.Bool.{cases_lt, cases_Bool, eqb-true}
use Rattle.layouts.specs.declared.values.Value.{Value}
use Rattle.layouts.specs.declared.values.Value.TheVariants.{Nil, Number, Reference}
use Rattle.theory.specs.Collect.{Laws}
use Rattle.theory.specs.Machine.{Shape, Machine, trapped, fine, at, head_of, refs, is_busy, closed_is_imaging, Found, Found.none, Found.found}
use Rattle.model.specs.declared.states.Phase.{Phase}
use Rattle.model.specs.declared.states.Phase.TheVariants.{Idle, Collecting, Imaging}
use Rattle.model.specs.declared.calls.Call.{Call}
use Rattle.model.specs.declared.calls.Call.TheVariants.{New, Load, Store, Copy, SetNumber, SetNil, Same, Tell, Count, Flip as Turn, Step, Take, Resolve, Mark, Save}
use Rattle.theory.specs.Steps.{call, act, addr_of, slot_at, closed_kind_of, step, stepped, save, saved, save_page, lowest_pend, lowest_behind, scan_page, resolved, resolved_save, behind}
use Rattle.theory.specs.Runs.{Accesses, Accesses.loads, Accesses.stores, TrapsIn, TrapsWhenFrom}
use Rattle.theory.proofs.Cases.{load_ways}
use Rattle.theory.proofs.Copy.{start_top}
use Rattle.theory.proofs.NewRepeats.{new_edge}
use Rattle.theory.proofs.Repeats.{page_in, trap_acts, access_ok, access_trap}
use Rattle.theory.proofs.Rights.{InTo, Rights, Good, good_after}
use Rattle.theory.proofs.Sim.{holder}

fine≢ : (p : ℕ) → fine ≡ trapped p → ⊥
fine≢ p e = let z : ◌≡◌ {A = ℕ} 0 1 = cc in omega arith

tell≢ : (v : Value) (p : ℕ) → closed_kind_of v ≡ trapped p → ⊥
tell≢ Nil p e = let z : ◌≡◌ {A = ℕ} 0 1 = cc in omega arith
tell≢ (Number n) p e = let z : ◌≡◌ {A = ℕ} 0 1 = cc in omega arith
tell≢ (Reference a) p e = let z : ◌≡◌ {A = ℕ} 0 1 = cc in omega arith

module _ (H : Shape) (laws : Laws H.lay) (pos : 0 < H.page) where
  slot_in : (m : Machine) (g : Good H m) (k s i : ℕ) → at k s < 32 → refs (m.reg (at k s)) ≡ true → i < H.lay.slots (head_of m.st.mem (m.reg (at k s))) → InTo H m.side (slot_at m k s i / H.page)
  slot_in m g k s i l r sl =
      let b = g.world.body in
      let o = holder H laws pos g.flip m g.never g.world (g.never.reg (at k s)) (m.reg (at k s)) (b.regs (at k s) l).0 (b.regs (at k s) l).1 r in
      let e : addr_of (m.reg (at k s)) ≡ b.pair.to o.0 = ap addr_of o.3 in
      let sl₂ : i < H.lay.slots (g.never.heap.hdr o.0) = rw (o.3, b.inv.head o.0 o.2) at sl in
      let st = start_top H.lay g.flip b.ok g.never.heap m.st b.pair b.inv in
      elim (cases_lt o.0 g.flip.old.many) [
        | inl a ↦ (let w = b.inv.within o.0 o.2 a in page_in H laws pos m.side (slot_at m k s i) (omega (arith, b.start)) (omega (arith, b.start, b.last, b.inv.limits)))
        | inr a ↦ (let w = b.inv.beyond o.0 o.2 a in page_in H laws pos m.side (slot_at m k s i) (omega (arith, b.start, b.inv.limits)) (omega (arith, b.start, b.last)))
      ]

  access_in : (m : Machine) (g : Good H m) (k s i p : ℕ) (c : Call) → Accesses k s i c → (call H m c).answer ≡ trapped p → InTo H m.side p × (m.st.right p ≢ 2)
  access_in m g k s i p c ac t =
      let a = trap_acts H laws pos m c p t in
      let ok = access_ok H laws pos m k s i c ac a.0 in
      let tr = access_trap H laws pos m k s i p c ac (rw a.1 at t) in
      (rw tr.0 at (slot_in m g k s i ok.2 ok.3 ok.4), rw tr.0 at tr.1)

  not_idle : (m : Machine) (g : Good H m) (p : ℕ) → InTo H m.side p → m.st.right p ≢ 2 → m.phase ≢ Idle
  not_idle m g p i n e = n (subst (λ ph. Rights H m.st m.pend m.scan m.side m.used m.mark ph) e g.rights p i)

  only_busy : (m : Machine) (g : Good H m) (p : ℕ) → InTo H m.side p → m.st.right p ≡ 0 → m.phase ≡ Collecting
  only_busy m g p i z = go m.phase g.rights
    where
      go : (ph : Phase) → Rights H m.st m.pend m.scan m.side m.used m.mark ph → ph ≡ Collecting
      go Idle r = absurd (omega (arith, r p i))
      go Collecting r = refl
      go Imaging r = absurd (elim (cases_Bool (m.pend p)) [ inl t ↦ omega (arith, ((r.1 p i).1 t).0) | inr f ↦ omega (arith, (r.1 p i).0 f) ])

  load_none : (m : Machine) (k d s i p : ℕ) → (act H m (Load k d s i)).answer ≡ trapped p → m.st.right p ≡ 0
  load_none m k d s i p = load_ways H m (λ o. o.answer ≡ trapped p → m.st.right p ≡ 0) k d s i
      (λ t e. let z : slot_at m k s i / H.page ≡ p = cc in rw z at (eqb-true _ _ t))
      (λ t e. absurd (fine≢ p e))

  stepped≢ : (m : Machine) (sc co : ℕ) (f : Found) (p : ℕ) → (stepped H m sc co f).answer ≡ trapped p → ⊥
  stepped≢ m sc co none p e = fine≢ p e
  stepped≢ m sc co (found q) p e = fine≢ p e

  step≢ : (m : Machine) (f : Found) (p : ℕ) → (step H m f).answer ≡ trapped p → ⊥
  step≢ m none p e = fine≢ p e
  step≢ m (found n) p e = stepped≢ (scan_page H m n) _ _ (lowest_behind H (scan_page H m n)) p e

  save≢ : (m : Machine) (f : Found) (p : ℕ) → (save H m f).answer ≡ trapped p → ⊥
  save≢ m none p e = fine≢ p e
  save≢ m (found n) p e = go (lowest_pend H (save_page H m n)) e
    where
      go : (f : Found) → (saved H (save_page H m n) f).answer ≡ trapped p → ⊥
      go none e = fine≢ p e
      go (found q) e = fine≢ p e

  resolve≢ : (m : Machine) (k n p : ℕ) (t : Bool) → (resolved H m k n t).answer ≡ trapped p → ⊥
  resolve≢ m k n p true e = fine≢ p e
  resolve≢ m k n p false e = go (closed_is_imaging m.phase && m.pend n) e
    where
      go : (t : Bool) → (resolved_save H m k n t).answer ≡ trapped p → ⊥
      go true e = fine≢ p e
      go false e = fine≢ p e

  traps_at : (m : Machine) (g : Good H m) (c : Call) (p : ℕ) → (call H m c).answer ≡ trapped p → (act H m c).answer ≡ trapped p → (TrapsIn m.phase c) × (m.side * H.pages ≤ p) × (p < m.side * H.pages + H.pages)
  traps_at m g (New k d r w) p t u = let e = (new_edge H laws pos m g k d r w p t).1 in (e.0, e.3.0, e.3.1)
  traps_at m g (Load k d s i) p t u = let o = access_in m g k s i p (Load k d s i) (loads d) t in (only_busy m g p o.0 (load_none m k d s i p u), o.0.0, o.0.1)
  traps_at m g (Store k s i x) p t u = let o = access_in m g k s i p (Store k s i x) (stores x) t in (not_idle m g p o.0 o.1, o.0.0, o.0.1)
  traps_at m g (Copy k d f s) p t u = absurd (fine≢ p u)
  traps_at m g (SetNumber k d n) p t u = absurd (fine≢ p u)
  traps_at m g (SetNil k d) p t u = absurd (fine≢ p u)
  traps_at m g (Same k x y) p t u = absurd (let z : ◌≡◌ {A = ℕ} 0 1 = cc in omega arith)
  traps_at m g (Tell k s) p t u = absurd (tell≢ (m.reg (at k s)) p u)
  traps_at m g Count p t u = absurd (let z : ◌≡◌ {A = ℕ} 0 1 = cc in omega arith)
  traps_at m g Turn p t u = absurd (fine≢ p u)
  traps_at m g Step p t u = absurd (step≢ m (lowest_behind H m) p u)
  traps_at m g (Take k) p t u = absurd (let z : ◌≡◌ {A = ℕ} 0 1 = cc in omega arith)
  traps_at m g (Resolve k q n) p t u = absurd (resolve≢ m k q p (is_busy m.phase && behind H m q) u)
  traps_at m g (Mark n) p t u = absurd (fine≢ p u)
  traps_at m g (Save n) p t u = absurd (save≢ m (lowest_pend H m) p u)

  pub traps_when : (start : Machine) → Good H start → TrapsWhenFrom H start
  traps_when start good xs c p m e t =
      let a = trap_acts H laws pos m c p t in
      traps_at m (rw (sym e) at (good_after H laws pos start good xs)) c p t (rw a.1 at t)
