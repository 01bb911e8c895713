-- A collection, from its FLIP to the STEP that ends it.
use Rattle.std.proofs.Common.{◌≡◌, ℕ, suc, ◌+◌, ◌*◌, ◌/◌, ◌<◌, true, sym, refl, ap, ◌∙◌, subst, inl, inr, arith}
use Rattle.std.proofs.lemmas.Bool.{cases_lt, lt-ltb}
use Rattle.theory.specs.Collect.{Laws, Flip, Reached}
use Rattle.theory.specs.Reach.{reaches}
use Rattle.theory.specs.Machine.{Shape, half, Machine, Never, view_m, refusal}
use Rattle.model.specs.declared.states.Phase.TheVariants.{Idle, Collecting}
use Rattle.model.specs.declared.calls.Call.{Call}
use Rattle.model.specs.declared.calls.Call.TheVariants.{Flip as Turn, Step}
use Rattle.model.specs.Outcomes.{Told.ended}
use Rattle.theory.specs.Steps.{call, n_call, scanned_all, step, lowest_behind}
use Rattle.theory.specs.Pairing.{SinceFrom, SinceFrom.flips, SinceFrom.goes, Paired, Ends, CollectsFrom}
use Rattle.theory.proofs.Calls.{load_agrees}
use Rattle.theory.proofs.Reach.{reaches_all, reaches_only}
use Rattle.theory.proofs.World.{Body, World, Busy, Rest, Phased}
use Rattle.theory.proofs.Sim.{simulate, step_left, Left}

-- what the pairing is, however long the collection lasts
pub record Lasts (H : Shape) (a₀ : Never) (co sc : ℕ) (m : Machine) (a : Never) : Type 0 where
  pub flip : Flip
  pub world : World H flip m a
  pub old : flip.old ≡ a₀.heap
  pub regs : flip.regs ≡ 32
  pub reg : flip.reg ≡ a₀.reg
  pub copied : flip.start + co ≡ m.st.top
  pub scanned : sc ≡ scanned_all H m

-- both heaps, paired
pub record SimOf (H : Shape) (m : Machine) (a : Never) : Type 0 where
  pub flip : Flip
  pub world : World H flip m a

module _ (H : Shape) (laws : Laws H.lay) (pos : 0 < H.page) where
  first : (a₀ : Never) (m : Machine) → SimOf H m a₀ → refusal (view_m H m) Turn ≡ 0 → Lasts H a₀ (call H m Turn).copied (call H m Turn).scanned (call H m Turn).next (n_call H a₀ Turn (call H m Turn).told).next
  first a₀ m s e =
      let o = simulate H laws pos s.flip m a₀ s.world Turn in
      let f = o.fresh e refl in
      record { flip = o.flip; world = o.world; old = f.0; regs = f.1; reg = f.2; copied = omega (arith, f.3, o.world.body.start); scanned = omega (arith, f.4) }

  onward : (a₀ : Never) (co sc : ℕ) (m : Machine) (a : Never) → Lasts H a₀ co sc m a → m.phase ≡ Collecting → (c : Call) → Lasts H a₀ (co + (call H m c).copied) (sc + (call H m c).scanned) (call H m c).next (n_call H a c (call H m c).told).next
  onward a₀ co sc m a l pc c =
      let o = simulate H laws pos l.flip m a l.world c in
      let k = o.kept pc in
      let st : o.flip.start ≡ l.flip.start = ap (λ f. f.start) k.0 in
      record {
        flip = o.flip;
        world = o.world;
        old = ap (λ f. f.old) k.0 ∙ l.old;
        regs = ap (λ f. f.regs) k.0 ∙ l.regs;
        reg = ap (λ f. f.reg) k.0 ∙ l.reg;
        copied = omega (arith, k.1.0, l.copied, st);
        scanned = omega (arith, k.1.1, l.scanned);
      }

  pub lasts : {m₀ : Machine} {a₀ : Never} → SimOf H m₀ a₀ → {co sc : ℕ} {m : Machine} {a : Never} → SinceFrom H m₀ a₀ co sc m a → Lasts H a₀ co sc m a
  lasts {m₀ = m₀} {a₀ = a₀} o (flips e) = first a₀ m₀ o e
  lasts {a₀ = a₀} o (goes {co = co} {sc = sc} {m = m} {a = a} s pc c) = onward a₀ co sc m a (lasts o s) pc c

  -- the pairing, from what lasts
  module _ (a₀ : Never) (m : Machine) (a : Never) (f : Flip) (w : World H f m a) (old : f.old ≡ a₀.heap) (regs : f.regs ≡ 32) (reg : f.reg ≡ a₀.reg) where
    abbrev b : Body H f m.st m.scan m.side m.used m.reg m.phase a.heap a.reg a.l a.n a.u
    b = w.body

    many : f.old.many ≡ a₀.heap.many
    many = ap (λ h. h.many) old

    reached : (p : ℕ) → Reached H.lay f p → reaches H.lay a₀.heap 32 a₀.reg p ≡ true
    reached p r = rw (old, regs, reg) at (reaches_all H.lay f b.ok r)

    reached_back : (p : ℕ) → reaches H.lay a₀.heap 32 a₀.reg p ≡ true → Reached H.lay f p
    reached_back p e = reaches_only H.lay f b.ok p (rw (old, regs, reg) e)

    paired : ((p i : ℕ) → b.pair.live p ≡ true → i < H.lay.slots (a.heap.hdr p) → p < f.old.many → b.pair.to p + suc i < m.scan ((b.pair.to p + suc i) / H.page) → b.pair.done (b.pair.to p + suc i) ≡ true) → Paired H a₀ m a
    paired dn = record {
      live = b.pair.live;
      to = b.pair.to;
      copied = λ p l k. let k₂ : p < f.old.many = omega (arith, many) in let w₂ = b.inv.within p l k₂ in (reached p (b.inv.came p l k₂).1, omega (arith, b.start), w₂.1);
      covered = λ x l k. let o = b.inv.cover x (omega (arith, b.start)) k in (o.0, o.1, omega (arith, many, o.2), o.3, o.4);
      news = λ p k. ((λ l. b.inv.below p l), λ l. b.inv.news p (omega (arith, many)) l);
      new = λ p l k. let o = b.inv.beyond p l (omega (arith, many)) in (o.0, omega (arith, b.last, b.start));
      apart = b.inv.apart;
      header = b.inv.head;
      registers = λ k l. (b.regs k l).0;
      slots = λ p i l k h. (load_agrees H.lay laws f b.ok a.heap m.st b.pair b.inv p i l k (elim (cases_lt p f.old.many) [
        | inl z ↦ elim h [ inl y ↦ absurd (omega (arith, many)) | inr y ↦ dn p i l k z y ]
        | inr z ↦ b.inv.new p i l z k
      ])).0;
    }

    paired_busy : m.phase ≡ Collecting → Paired H a₀ m a
    paired_busy pc =
        let o : Busy H f m.st m.scan m.used a.heap a.l a.u b.pair = subst (λ ph. Phased H f m.st m.scan m.used a.heap a.l a.u b.pair ph) pc b.phased in
        paired (λ p i l k z y. let w₂ = b.inv.within p l z in o.scans.done (b.pair.to p + suc i) (omega arith) (omega (arith, b.inv.limits)) ∙ lt-ltb (b.pair.to p + suc i) (m.scan ((b.pair.to p + suc i) / H.page)) y)

    rest_of : m.phase ≡ Idle → Rest H f m.st a.heap a.l b.pair
    rest_of pi = subst (λ ph. Phased H f m.st m.scan m.used a.heap a.l a.u b.pair ph) pi b.phased

    ends : (co sc : ℕ) → m.phase ≡ Idle → f.start + co ≡ m.st.top → f.start + sc ≡ m.st.top → Ends H a₀ co sc m a
    unfolding paired
    ends co sc pi ec es =
        let o = rest_of pi in
        record {
          paired = paired (λ p i l k z y. o.all p i l k);
          all = λ p e. o.complete p (reached_back p e);
          copied = omega (arith, o.words);
          scanned = omega (arith, o.words);
        }

  step_runs : (m : Machine) → m.phase ≡ Collecting → call H m Step ≡ step H m (lowest_behind H m)
  step_runs m pc = rw pc

  last_step : (a₀ : Never) (co sc : ℕ) (m : Machine) (a : Never) → Lasts H a₀ co sc m a → m.phase ≡ Collecting → (call H m Step).told ≡ ended → Ends H a₀ (co + (call H m Step).copied) (sc + (call H m Step).scanned) (call H m Step).next (n_call H a Step (call H m Step).told).next
  last_step a₀ co sc m a l pc t =
      let n = onward a₀ co sc m a l pc Step in
      let e = step_runs m pc in
      let lf : Left H laws pos l.flip m (call H m Step).next = rw e (step_left H laws pos l.flip m a l.world pc (lowest_behind H m) refl (rw e at t)) in
      let s₁ = n.world.body.start in
      let s₂ = l.world.body.start in
      let s₃ : n.flip.start ≡ l.flip.start = s₁ ∙ ap (λ z. z * half H) lf.2 ∙ sym s₂ in
      ends a₀ (call H m Step).next (n_call H a Step (call H m Step).told).next n.flip n.world n.old n.regs n.reg (co + (call H m Step).copied) (sc + (call H m Step).scanned) lf.1 n.copied (omega (arith, n.scanned, lf.0))

  pub collects : (m₀ : Machine) (a₀ : Never) → SimOf H m₀ a₀ → CollectsFrom H m₀ a₀
  collects m₀ a₀ o co sc m a s pc =
      let l = lasts o s in (
        paired_busy a₀ m a l.flip l.world l.old l.regs l.reg pc,
        λ t. subst (λ z. Ends H a₀ (co + (call H m Step).copied) (sc + (call H m Step).scanned) (call H m Step).next (n_call H a Step z).next) t (last_step a₀ co sc m a l pc t),
      )
