-- What each call leaves of the pairing.
use Rattle.std.proofs.Common.{◌≡◌, ℕ, suc, ◌+◌, ◌/◌, ◌<◌, true, ◌≢◌, sym, refl, ap, ◌∙◌, inl, inr, arith}
use mathlib.Core.Path.{fun_ext}
use Rattle.std.proofs.lemmas.Bool.{cases_eq, cases_lt, eq-eqb, ne_eqb}
use Rattle.theory.specs.Model.{map_v, Layout, upd}
use Rattle.layouts.specs.declared.values.Value.{Value}
use Rattle.theory.specs.Collect.{Laws, Heap, Flip, St, Pair, Alive, LooseInv, Sets}
use Rattle.theory.specs.Machine.{Shape}
use Rattle.model.specs.declared.states.Phase.{Phase}
use Rattle.model.specs.declared.states.Phase.TheVariants.{Idle, Collecting, Imaging}
use Rattle.theory.specs.Steps.{write, assign}
use Rattle.theory.proofs.Basics.{upd_other, upd_at}
use Rattle.theory.proofs.Write.{marked}
use Rattle.theory.proofs.Scan.{writes_upd}
use Rattle.theory.proofs.Calls.{load_agrees, store_keeps}
use Rattle.theory.proofs.World.{Rest, Phased, Body}

pub marked_same : (g : Pair) (a : ℕ) → g.done a ≡ true → marked g a ≡ g
marked_same g a d = ap (λ f. record { live = g.live; to = g.to; done = f; limit = g.limit }) same
  where
    same : upd g.done a true ≡ g.done
    same = fun_ext (λ b. elim (cases_eq b a) [ inl e ↦ upd_at g.done a b true e ∙ sym (ap g.done e ∙ d) | inr ne ↦ upd_other g.done a b true ne ])

module _ (H : Shape) (laws : Laws H.lay) (F : Flip) (st : St) (scan : ℕ → ℕ) (sd used : ℕ) (reg : ℕ → Value) (phase : Phase) (A : Heap) (areg : ℕ → Value) (l n u : ℕ)
    (b : Body H F st scan sd used reg phase A areg l n u) where
  abbrev L : Layout
  L = H.lay

  abbrev P : ℕ
  P = H.page

  abbrev g : Pair
  g = b.pair

  -- a register set alike on both sides
  pub body_reg : (k : ℕ) (x v : Value) → x ≡ map_v g.to v → Alive g.live v → Body H F st scan sd used (upd reg k x) phase A (upd areg k v) l n u
  body_reg k x v e al = record {
    pair = b.pair;
    ok = b.ok;
    inv = b.inv;
    side = b.side;
    regs = λ j lj. elim (cases_eq j k) [
      | inl t ↦ rw (upd_at reg k j x t, upd_at areg k j v t) (e, al)
      | inr ne ↦ rw (upd_other reg k j x ne, upd_other areg k j v ne) (b.regs j lj)
    ];
    which = b.which;
    start = b.start;
    last = b.last;
    low = b.low;
    inside = b.inside;
    phased = b.phased;
  }

  -- a slot that can be read is scanned
  pub slot_done : (p i : ℕ) → g.live p ≡ true → i < L.slots (A.hdr p) → st.right ((g.to p + suc i) / P) ≢ 0 → g.done (g.to p + suc i) ≡ true
  slot_done p i lp li r = elim (cases_lt p F.old.many) [
    | inl m ↦ (let w = b.inv.within p lp m in b.side.opens (g.to p + suc i) (omega arith) (omega arith) r)
    | inr m ↦ b.inv.new p i lp m li
  ]

  pub body_load : (p i : ℕ) → g.live p ≡ true → i < L.slots (A.hdr p) → st.right ((g.to p + suc i) / P) ≢ 0 → (L.unpack (A.hdr p) i (st.mem (g.to p + suc i)) ≡ map_v g.to (A.val p i)) × Alive g.live (A.val p i)
  body_load p i lp li r = load_agrees L laws F b.ok A st g b.inv p i lp li (slot_done p i lp li r)

  module _ (p i : ℕ) (v : Value) (lp : g.live p ≡ true) (li : i < L.slots (A.hdr p)) (r : st.right ((g.to p + suc i) / P) ≢ 0) (al : Alive g.live v) (ad : L.admits (A.hdr p) i v ≡ true) where
    abbrev st' : St
    st' = write st (g.to p + suc i) (L.pack (A.hdr p) i (map_v g.to v))

    sets : Sets A (assign A p i v) p i v
    sets = record {
      many = refl;
      hdr = λ q. refl;
      here = rw (eq-eqb p p refl, eq-eqb i i refl);
      other_slot = λ j ne. rw (eq-eqb p p refl, ne_eqb j i ne);
      other = λ q j ne. rw (ne_eqb q p ne);
    }

    inv' : LooseInv L F (assign A p i v) st' g
    inv' = rw (marked_same g (g.to p + suc i) (slot_done p i lp li r)) at (store_keeps L laws F b.ok A st g b.inv p i v lp li (slot_done p i lp li r) al ad st' (writes_upd st (g.to p + suc i) (L.pack (A.hdr p) i (map_v g.to v))) (assign A p i v) sets)

    phased' : (ph : Phase) → Phased H F st scan used A l u g ph → Phased H F st' scan used (assign A p i v) l u g ph
    phased' Idle o = record { all = o.all; every = o.every; limit = o.limit; words = o.words; complete = o.complete }
    phased' Imaging o = record { all = o.all; every = o.every; limit = o.limit; words = o.words; complete = o.complete }
    phased' Collecting o = record {
      used_is = o.used_is;
      flip_used = o.flip_used;
      regs_is = o.regs_is;
      limit = o.limit;
      room = o.room;
      rooted = o.rooted;
      words = o.words;
      scans = record { low = o.scans.low; high = o.scans.high; tops = o.scans.tops; done = o.scans.done; bound = λ k d f t. (let w = o.scans.bound k d f t in record { in_top = w.in_top; clear = w.clear }) };
    }

    pub body_store : Body H F st' scan sd used reg phase (assign A p i v) areg l n u
    body_store = record {
      pair = g;
      ok = b.ok;
      inv = inv';
      side = record { opens = b.side.opens; cross = b.side.cross };
      regs = b.regs;
      which = b.which;
      start = b.start;
      last = b.last;
      low = b.low;
      inside = b.inside;
      phased = phased' phase b.phased;
    }

-- rights and phase replaced, while no collection is under way
pub body_calm : (H : Shape) (F : Flip) (st : St) (scan : ℕ → ℕ) (sd used : ℕ) (reg : ℕ → Value) (ph ph' : Phase) (A : Heap) (areg : ℕ → Value) (l n u : ℕ) (right : ℕ → ℕ) →
    ((g : Pair) → Phased H F st scan used A l u g ph → Rest H F st A l g) → ((st' : St) (g : Pair) → Rest H F st' A l g → Phased H F st' scan used A l u g ph') →
    Body H F st scan sd used reg ph A areg l n u → Body H F (record { mem = st.mem; top = st.top; low = st.low; right = right; cross = st.cross }) scan sd used reg ph' A areg l n u
body_calm H F st scan sd used reg ph ph' A areg l n u right down up b =
    let o = down b.pair b.phased in
    let st' : St = record { mem = st.mem; top = st.top; low = st.low; right = right; cross = st.cross } in
    record {
      pair = b.pair;
      ok = b.ok;
      inv = right_inv H.lay F A st b.pair right b.inv;
      side = record { opens = λ x s t r. o.every x s t; cross = b.side.cross };
      regs = b.regs;
      which = b.which;
      start = b.start;
      last = b.last;
      low = b.low;
      inside = b.inside;
      phased = up st' b.pair (record { all = o.all; every = o.every; limit = o.limit; words = o.words; complete = o.complete });
    }
  where
    right_inv : (L : Layout) (F : Flip) (A : Heap) (s : St) (g : Pair) (right : ℕ → ℕ) → LooseInv L F A s g → LooseInv L F A (record { mem = s.mem; top = s.top; low = s.low; right = right; cross = s.cross }) g
    right_inv L F A s g right inv = record {
      many = inv.many;
      heads = inv.heads;
      below = inv.below;
      came = inv.came;
      news = inv.news;
      valid = inv.valid;
      fits = inv.fits;
      limits = inv.limits;
      total = inv.total;
      ends = inv.ends;
      within = inv.within;
      beyond = inv.beyond;
      apart = inv.apart;
      cover = inv.cover;
      cover_new = inv.cover_new;
      gone = inv.gone;
      kept = inv.kept;
      kept_slot = inv.kept_slot;
      kept_same = inv.kept_same;
      head = inv.head;
      raw = inv.raw;
      ready = inv.ready;
      traced = inv.traced;
      fresh = inv.fresh;
      new = inv.new;
    }
