-- Scanning one word keeps the invariant, with that address scanned.
use Rattle.std.proofs.Common.{◌≡◌, ℕ, suc, ◌+◌, ◌<◌, ◌≤◌, Bool, true, false, ◌≢◌, sym, refl, ap, ◌∙◌, inl, inr, le_refl, arith}
use Rattle.std.proofs.lemmas.Bool.{cases_eq}
use Rattle.theory.specs.Model.{map_v, Layout, upd}
use Rattle.layouts.specs.declared.values.Value.{Value}
use Rattle.layouts.specs.declared.values.Value.TheVariants.{Nil, Number, Reference}
use Rattle.layouts.specs.Layouts.{addressable}
use Rattle.theory.specs.Collect.{Laws, Heap, Flip, Reached, Reached.root, Reached.step, FlipOk, St, Pair, Alive, LooseInv, Grows, Writes, Sets, forward, scan_slot, rescan, LooseSide}
use Rattle.theory.proofs.Basics.{upd_same, upd_other, upd_at, nil≢ref, num≢ref, ref_inj}
use Rattle.theory.proofs.Copy.{near_map_v}
use Rattle.theory.proofs.Forward.{Forwarded, forward_keeps}
use Rattle.theory.proofs.Write.{marked, write_keeps}

pub record Scanned (L : Layout) (P : ℕ) (F : Flip) (A : Heap) (s : St) (g : Pair) (a : ℕ) (s' : St) : Type 0 where
  pub pair : Pair
  pub inv : LooseInv L F A s' pair
  pub grows : Grows g pair
  pub done : pair.done ≡ upd g.done a true
  pub side : LooseSide L P F A s g → LooseSide L P F A s' pair
  pub rises : s.top ≤ s'.top

pub sets_none : (A : Heap) (p i : ℕ) (v : Value) → A.val p i ≡ v → Sets A A p i v
sets_none A p i v e = record { many = refl; hdr = λ q. refl; here = e; other_slot = λ j ne. refl; other = λ q j ne. refl }

pub writes_none : (s : St) (a w : ℕ) → s.mem a ≡ w → Writes s s a w
writes_none s a w e = record { word = e; rest = λ b ne. refl; end = refl; low = refl; right = refl; cross = refl }

pub writes_upd : (s : St) (a w : ℕ) → Writes s (record { mem = upd s.mem a w; top = s.top; low = s.low; right = s.right; cross = s.cross }) a w
writes_upd s a w = record { word = upd_same s.mem a w; rest = λ b ne. upd_other s.mem a b w ne; end = refl; low = refl; right = refl; cross = refl }

-- one more address scanned
pub mark_side : (L : Layout) (P : ℕ) (F : Flip) (A : Heap) (s : St) (g : Pair) (a : ℕ) → LooseSide L P F A s g → LooseSide L P F A s (marked g a)
mark_side L P F A s g a o = record {
  opens = λ x l b r. elim (cases_eq x a) [ inl e ↦ upd_at g.done a x true e | inr ne ↦ upd_other g.done a x true ne ∙ o.opens x l b r ];
  cross = o.cross;
}

-- a reference is admitted wherever another is
pub admits_map_v : (L : Layout) (laws : Laws L) (h i : ℕ) (f : ℕ → ℕ) (v : Value) → L.admits h i v ≡ true → L.admits h i (map_v f v) ≡ true
admits_map_v L laws h i f Nil e = e
admits_map_v L laws h i f (Number n) e = e
admits_map_v L laws h i f (Reference q) e = laws.any_ref h i (f q) q ∙ e

module _ (L : Layout) (laws : Laws L) (P : ℕ) (F : Flip) (ok : FlipOk L F) (A : Heap) (s : St) (g : Pair) (inv : LooseInv L F A s g) (room : F.start + F.used ≤ g.limit) where
  module _ (p i : ℕ) (l : g.live p ≡ true) (m : p < F.old.many) (b : i < L.slots (A.hdr p)) (u : g.done (g.to p + suc i) ≡ false) where
    abbrev at : ℕ
    at = g.to p + suc i

    raw : (s.mem at ≡ L.pack (A.hdr p) i (map_v F.addr (F.old.val p i))) × (A.val p i ≡ F.old.val p i)
    raw = inv.raw p i l m b u

    b₀ : i < L.slots (F.old.hdr p)
    b₀ = rw (inv.heads p m) at b

    pub fit : L.admits (A.hdr p) i (F.old.val p i) ≡ true
    fit = rw (← raw.1) (inv.fits p i l b)

    pub here_ref : (v : Value) → F.old.val p i ≡ v → Alive F.here v
    here_ref Nil e = tt
    here_ref (Number n) e = tt
    here_ref (Reference q) e = ok.closed p i q (inv.came p l m).0 b₀ e

    near : addressable (map_v F.addr (F.old.val p i)) ≡ true
    near = near_map_v F.here F.addr (F.old.val p i) (here_ref (F.old.val p i) refl) ok.near

    pub read : (v : Value) → F.old.val p i ≡ v → L.unpack (A.hdr p) i (s.mem at) ≡ map_v F.addr v
    read v e =
        ap (L.unpack (A.hdr p) i) raw.0 ∙ laws.unpacks (A.hdr p) i _ (inv.valid p l) b near (admits_map_v L laws (A.hdr p) i F.addr (F.old.val p i) fit) ∙ ap (map_v F.addr) e

    -- a word that is no reference stays
    plain : (v : Value) → F.old.val p i ≡ v → map_v F.addr v ≡ map_v g.to v → Alive g.live v → ((x : ℕ) → v ≡ Reference x → ⊥) → Scanned L P F A s g at s
    plain v e same al none = record {
      pair = marked g at;
      inv = write_keeps L F ok A s g inv p i l b v al (rw e at fit) (λ x k r. absurd (none x (sym e ∙ r))) s (writes_none s at _ (raw.0 ∙ ap (λ z. L.pack (A.hdr p) i (map_v F.addr z)) e ∙ ap (L.pack (A.hdr p) i) same)) A (sets_none A p i v (raw.1 ∙ e));
      grows = record { live = λ q k. k; to = λ q k. refl; limit = refl };
      done = refl;
      side = mark_side L P F A s g at;
      rises = le_refl _;
    }

    -- a reference is forwarded and written back
    refers : (q : ℕ) → F.old.val p i ≡ Reference q → Forwarded L P F A s g q (forward L P s (F.addr q)) → Scanned L P F A s g at (rescan L P s (A.hdr p) i at (Reference (F.addr q)))
    refers q e fw =
        let g₁ = fw.pair in
        let s₁ = (forward L P s (F.addr q)).0 in
        let t : g₁.to p ≡ g.to p = fw.grows.to p l in
        let wr : Writes s₁ (rescan L P s (A.hdr p) i at (Reference (F.addr q))) (g₁.to p + suc i) (L.pack (A.hdr p) i (Reference (g₁.to q))) = rw (t, ← fw.at) (writes_upd s₁ at _) in
        record {
          pair = marked g₁ (g₁.to p + suc i);
          inv = write_keeps L F ok A s₁ g₁ fw.inv p i (fw.grows.live p l) b (Reference q) fw.live (rw e at fit) (λ x k r. rw (ref_inj (F.old.val p i) x q r e) fw.live) (rescan L P s (A.hdr p) i at (Reference (F.addr q))) wr A (sets_none A p i (Reference q) (raw.1 ∙ e));
          grows = record { live = fw.grows.live; to = fw.grows.to; limit = fw.grows.limit };
          done = rw (t, fw.done);
          side = λ o. (let m = mark_side L P F A s₁ g₁ (g₁.to p + suc i) (fw.side o) in record { opens = m.opens; cross = m.cross });
          rises = fw.rises;
        }

    scan_as : (v : Value) → F.old.val p i ≡ v → Scanned L P F A s g at (rescan L P s (A.hdr p) i at (map_v F.addr v))
    scan_as Nil e = plain Nil e refl tt (λ x k. nil≢ref x k)
    scan_as (Number n) e = plain (Number n) e refl tt (λ x k. num≢ref n x k)
    scan_as (Reference q) e =
        let hp = inv.came p l m in
        refers q e (forward_keeps L laws P F ok A s g inv room q (ok.closed p i q hp.0 b₀ e) (step i q hp.1 b₀ e))

    pub scan_keeps : Scanned L P F A s g at (scan_slot L P s (A.hdr p) i at)
    scan_keeps = rw (read (F.old.val p i) refl) (scan_as (F.old.val p i) refl)

-- an address that is no slot's counts as scanned with no change: a header's
module _ (L : Layout) (F : Flip) (ok : FlipOk L F) (A : Heap) (s : St) (g : Pair) (inv : LooseInv L F A s g) (a : ℕ) (below : a < s.top)
    (free : (p i : ℕ) → g.live p ≡ true → i < L.slots (A.hdr p) → g.to p + suc i ≢ a) where
  same : (b : ℕ) (t : Bool) → b ≢ a → upd g.done a true b ≡ t → g.done b ≡ t
  same b t ne e = sym (upd_other g.done a b true ne) ∙ e

  pub mark_keeps : LooseInv L F A s (marked g a)
  mark_keeps = record {
    many = inv.many;
    heads = inv.heads;
    below = inv.below;
    came = inv.came;
    news = inv.news;
    valid = inv.valid;
    fits = inv.fits;
    limits = inv.limits;
    total = inv.total;
    ends = inv.ends;
    within = inv.within;
    beyond = inv.beyond;
    apart = inv.apart;
    cover = inv.cover;
    cover_new = inv.cover_new;
    gone = inv.gone;
    kept = inv.kept;
    kept_slot = inv.kept_slot;
    kept_same = inv.kept_same;
    head = inv.head;
    raw = λ p i l m b d. inv.raw p i l m b (same (g.to p + suc i) false (free p i l b) d);
    ready = λ p i l b d. inv.ready p i l b (same (g.to p + suc i) true (free p i l b) d);
    traced = λ p i q l m b d e. inv.traced p i q l m b (same (g.to p + suc i) true (free p i l b) d) e;
    fresh = λ b l m. upd_other g.done a b true (omega arith) ∙ inv.fresh b l m;
    new = λ p i l m b. upd_other g.done a (g.to p + suc i) true (free p i l b) ∙ inv.new p i l m b;
  }

module _ (L : Layout) (F : Flip) (ok : FlipOk L F) (A : Heap) (s : St) (g : Pair) (inv : LooseInv L F A s g) where
  pub head_free : (q : ℕ) → g.live q ≡ true → (p i : ℕ) → g.live p ≡ true → i < L.slots (A.hdr p) → g.to p + suc i ≢ g.to q
  head_free q k p i l b e = elim (cases_eq p q) [
    | inl t ↦ (let u : g.to p ≡ g.to q = ap g.to t in omega arith)
    | inr ne ↦ omega (arith, inv.apart p q l k ne)
  ]

  pub scan_head : (P q : ℕ) → g.live q ≡ true → q < F.old.many → Scanned L P F A s g (g.to q) s
  scan_head P q k m = record {
    pair = marked g (g.to q);
    inv = mark_keeps L F ok A s g inv (g.to q) (omega (arith, inv.within q k m)) (head_free q k);
    grows = record { live = λ p l. l; to = λ p l. refl; limit = refl };
    done = refl;
    side = mark_side L P F A s g (g.to q);
    rises = le_refl _;
  }

-- what every collection's end has
module _ (L : Layout) (F : Flip) (ok : FlipOk L F) where
  pub reached_here : {p : ℕ} → Reached L F p → F.here p ≡ true
  reached_here (root {p = x} k l e) = ok.roots k x l e
  reached_here (step {p = x} i q r l e) = ok.closed x i q (reached_here r) l e

  module _ (A : Heap) (s : St) (g : Pair) (inv : LooseInv L F A s g)
      (rooted : (k p : ℕ) → k < F.regs → F.reg k ≡ Reference p → g.live p ≡ true)
      (all : (a : ℕ) → F.start ≤ a → a < s.top → g.done a ≡ true) where
    -- one step of the induction
    pub next_live : (p i q : ℕ) → F.here p ≡ true → g.live p ≡ true → i < L.slots (F.old.hdr p) → F.old.val p i ≡ Reference q → g.live q ≡ true
    next_live p i q h lp l e =
        let m = ok.below p h in
        let w = inv.within p lp m in
        let b : i < L.slots (A.hdr p) = rw (inv.heads p m) l in
        inv.traced p i q lp m b (all (g.to p + suc i) (omega arith) (omega arith)) e

    pub complete : {p : ℕ} → Reached L F p → g.live p ≡ true
    complete (root {p = x} k l e) = rooted k x l e
    complete (step {p = x} i q r l e) = next_live x i q (reached_here r) (complete r) l e

    -- the copied places are exactly the reached ones
    pub exactly : (p : ℕ) → p < F.old.many → (g.live p ≡ true → Reached L F p) × (Reached L F p → g.live p ≡ true)
    exactly p m = ((λ l. (inv.came p l m).1), complete)
