-- What a scan of a page, a FLIP and a collection's end leave of the pairing.
use Rattle.std.proofs.Common.{◌≡◌, ℕ, suc, ◌+◌, ◌*◌, ◌/◌, ◌<◌, ◌≤◌, min, true, ◌⊎◌, sym, refl, ap, ◌∙◌, inl, inr, le_refl, arith}
use Rattle.std.proofs.lemmas.Bool.{cases_lt, lt-ltb, le-ltb}
use Rattle.theory.specs.Model.{Layout, upd}
use Rattle.layouts.specs.declared.values.Value.{Value}
use Rattle.theory.specs.Collect.{Laws, Heap, Flip, FlipOk, St, Pair, Alive, LooseInv, LooseSide, forward_regs}
use Rattle.theory.specs.Reach.{closed_reached_words}
use Rattle.theory.specs.Machine.{Shape, half, whole, begins, ran_page, grant}
use Rattle.model.specs.declared.states.Phase.TheVariants.{Idle, Collecting}
use Rattle.theory.proofs.Basics.{twice, page_lo, page_hi}
use Rattle.theory.proofs.Copy.{in_to}
use Rattle.theory.proofs.Flip.{AllDone, flipped, empty, flip_ok, flip_keeps, flip_side}
use Rattle.theory.proofs.Scan.{exactly, complete}
use Rattle.theory.proofs.Reach.{reached_words}
use Rattle.theory.proofs.Roots.{follows, Rooted, roots_keep}
use Rattle.theory.proofs.World.{Busy, Rest, Body}
use Rattle.theory.proofs.Low.{run_low, regs_low}
use Rattle.theory.proofs.PageScan.{Paged, page_keeps}

module _ (H : Shape) (laws : Laws H.lay) (pos : 0 < H.page) (F : Flip) (st : St) (scan : ℕ → ℕ) (sd used : ℕ) (reg : ℕ → Value) (A : Heap) (areg : ℕ → Value) (l n u : ℕ) where
  abbrev L : Layout
  L = H.lay

  abbrev P : ℕ
  P = H.page

  module _ (b : Body H F st scan sd used reg Collecting A areg l n u) where
    abbrev g : Pair
    g = b.pair

    abbrev busy : Busy H F st scan used A l u g
    busy = b.phased

    body_paged : (k : ℕ) (r : St × ℕ) → r.0.low ≡ st.low → Paged L P F A st g scan k r → Body H F (grant r.0 k 2) (upd scan k r.1) sd used reg Collecting A areg l n u
    body_paged k r lw p = record {
      pair = p.pair;
      ok = b.ok;
      inv = p.inv;
      side = p.side;
      regs = λ j lj. follows g p.pair p.grows (reg j) (areg j) (b.regs j lj);
      which = b.which;
      start = b.start;
      last = b.last;
      low = rw lw b.low;
      inside = b.inside;
      phased = record {
        used_is = busy.used_is;
        flip_used = busy.flip_used;
        regs_is = busy.regs_is;
        limit = p.grows.limit ∙ busy.limit;
        room = rw p.grows.limit busy.room;
        rooted = λ i q il e. p.grows.live q (busy.rooted i q il e);
        words = busy.words;
        scans = p.scans;
      };
    }

    pub body_scan : (k : ℕ) → F.start ≤ k * P → scan k < st.top → scan k < k * P + P → Body H F (grant (ran_page L P st scan k).0 k 2) (upd scan k (ran_page L P st scan k).1) sd used reg Collecting A areg l n u
    body_scan k s t e = body_paged k (ran_page L P st scan k) (run_low L P (k * P + P) P st (begins P st scan k) (scan k)) (page_keeps L laws P pos F b.ok A st g b.inv b.side scan busy.scans busy.room k s t e)

    pub scan_facts : (k : ℕ) → F.start ≤ k * P → scan k < st.top → scan k < k * P + P → (st.top ≤ (ran_page L P st scan k).0.top) × (scan k ≤ (ran_page L P st scan k).1) × (min (k * P + P) (ran_page L P st scan k).0.top ≤ (ran_page L P st scan k).1)
    scan_facts k s t e = let p = page_keeps L laws P pos F b.ok A st g b.inv b.side scan busy.scans busy.room k s t e in (p.rises, p.on, p.all)

    -- no page is behind: all words are scanned
    module _ (none : (k : ℕ) → F.start ≤ k * P → k * P < st.top → min (k * P + P) st.top ≤ scan k) (aligned : (x : ℕ) → F.start ≤ x → F.start ≤ x / P * P) where
      all_done : (x : ℕ) → F.start ≤ x → x < st.top → g.done x ≡ true
      all_done x a c =
          let lo = page_lo P x in
          let hi = page_hi P x pos in
          let s = none (x / P) (aligned x a) (omega arith) in
          busy.scans.done x a (omega (arith, b.inv.limits)) ∙ lt-ltb x (scan (x / P)) (omega arith)

      alldone : AllDone L A g
      alldone p i t k = elim (cases_lt p F.old.many) [
        | inl m ↦ (let w = b.inv.within p t m in all_done (g.to p + suc i) (omega arith) (omega arith))
        | inr m ↦ b.inv.new p i t m k
      ]

      words : F.start + l ≡ st.top
      words = omega (arith, b.inv.ends, busy.words, reached_words L F b.ok g.live (exactly L F b.ok A st g b.inv busy.rooted all_done))

      abbrev g' : Pair
      g' = record { live = g.live; to = g.to; done = g.done; limit = st.top }

      inv' : (s : St) → s.mem ≡ st.mem → s.top ≡ st.top → s.low ≡ st.low → LooseInv L F A s g'
      inv' s em et el = let inv = b.inv in record {
        many = inv.many;
        heads = inv.heads;
        below = inv.below;
        came = inv.came;
        news = inv.news;
        valid = inv.valid;
        fits = inv.fits;
        limits = omega (arith, inv.limits);
        total = rw (et, el) inv.total;
        ends = et ∙ inv.ends;
        within = rw et inv.within;
        beyond = rw el inv.beyond;
        apart = inv.apart;
        cover = rw et inv.cover;
        cover_new = rw el inv.cover_new;
        gone = λ ro. rw em (inv.gone (omega (arith, inv.limits)));
        kept = rw em inv.kept;
        kept_slot = rw em inv.kept_slot;
        kept_same = inv.kept_same;
        head = rw em inv.head;
        raw = rw em inv.raw;
        ready = rw em inv.ready;
        traced = inv.traced;
        fresh = λ a x y. absurd (omega arith);
        new = inv.new;
      }

      pub body_finish : (right cross : ℕ → ℕ) → Body H F (record { mem = st.mem; top = st.top; low = st.low; right = right; cross = st.cross }) scan sd used reg Idle A areg l n u
      body_finish right cross = record {
        pair = g';
        ok = b.ok;
        inv = inv' (record { mem = st.mem; top = st.top; low = st.low; right = right; cross = st.cross }) refl refl refl;
        side = record { opens = λ x a c e. all_done x a c; cross = λ ro. b.side.cross (omega (arith, b.inv.limits)) };
        regs = b.regs;
        which = b.which;
        start = b.start;
        last = b.last;
        low = b.low;
        inside = b.inside;
        phased = record { all = alldone; every = all_done; limit = refl; words = words; complete = λ p h. complete L F b.ok A st g b.inv busy.rooted all_done h };
      }

  -- FLIP
  module _ (b : Body H F st scan sd used reg Idle A areg l n u) (start last U : ℕ) (small : last ≤ 16384) (halves : (F.last ≤ start) ⊎ (last ≤ F.start)) (us : U ≡ l + n) (fits : start + whole P U ≤ last) (covers : U ≤ whole P U) where
    abbrev rest : Rest H F st A l b.pair
    rest = b.phased

    pub alive : (k : ℕ) → k < 32 → Alive b.pair.live (areg k)
    alive k h = (b.regs k h).1

    abbrev pub F₂ : Flip
    F₂ = flipped L F b.ok A st b.pair b.inv rest.all 32 areg alive start last (start + whole P U) halves small

    abbrev pub g₂ : Pair
    g₂ = empty L F b.ok A st b.pair b.inv rest.all 32 areg alive start last (start + whole P U) halves small

    pub ok₂ : FlipOk L F₂
    ok₂ = flip_ok L F b.ok A st b.pair b.inv rest.all 32 areg alive start last (start + whole P U) halves small

    pub used₂ : F₂.used ≡ U
    used₂ = omega (arith, us, b.inv.total, rest.words, b.low, b.inv.limits)

    pub inv₂ : (right cross : ℕ → ℕ) → LooseInv L F₂ A (record { mem = st.mem; top = start; low = last; right = right; cross = cross }) g₂
    inv₂ right cross = flip_keeps L F b.ok A st b.pair b.inv rest.all 32 areg alive start last (start + whole P U) halves small right cross (omega (arith, used₂)) fits

    side₂ : (right cross : ℕ → ℕ) → LooseSide L P F₂ A (record { mem = st.mem; top = start; low = last; right = right; cross = cross }) g₂
    side₂ right cross = flip_side L F b.ok A st b.pair b.inv rest.all 32 areg alive start last (start + whole P U) halves small P right cross

    -- what was to-space lies inside
    pub inside₂ : (p : ℕ) → b.pair.live p ≡ true → b.pair.to p < half H + half H
    inside₂ p t = omega (arith, in_to L F b.ok A st b.pair b.inv p 0 t (omega arith), b.last, b.start, twice (half H) sd b.which)

    module _ (right cross : ℕ → ℕ) (sd₂ : ℕ) (ws : sd₂ ≤ 1) (st-is : start ≡ sd₂ * half H) (la-is : last ≡ start + half H) where
      abbrev s₂ : St
      s₂ = record { mem = st.mem; top = start; low = last; right = right; cross = cross }

      turned_body : (r : St × (ℕ → Value)) → r.0.low ≡ last → Rooted L P F₂ A s₂ g₂ reg 32 r → Body H F₂ r.0 (λ k. k * P) sd₂ U r.1 Collecting A areg (closed_reached_words L A 32 areg) 0 (l + n)
      turned_body r lw o = record {
        pair = o.pair;
        ok = ok₂;
        inv = o.inv;
        side = o.side (side₂ right cross);
        regs = λ k h. o.past k h;
        which = ws;
        start = st-is;
        last = la-is;
        low = omega (arith, lw);
        inside = inside₂;
        phased = record {
          used_is = sym us;
          flip_used = used₂;
          regs_is = refl;
          limit = o.grows.limit;
          room = rw o.grows.limit (omega (arith, used₂));
          rooted = λ k p h e. rw e at (o.past k h).1;
          words = refl;
          scans = record {
            low = λ k. le_refl _;
            high = λ k. omega arith;
            tops = λ k. omega arith;
            done = λ x a c. ap (λ d. d x) o.done ∙ sym (le-ltb x (x / P * P) (page_lo P x));
            bound = λ k d e t. absurd (omega arith);
          };
        };
      }

      abbrev pub Turned : (ℕ → Value) → St → Type 0
      Turned rs s = (f : Flip) × Body H f s (λ k. k * P) sd₂ U rs Collecting A areg (closed_reached_words L A 32 areg) 0 (l + n) × (f.old ≡ A) × (f.regs ≡ 32) × (f.reg ≡ areg)

      body_turn₂ : Body H F₂ (forward_regs L P s₂ reg 32).0 (λ k. k * P) sd₂ U (forward_regs L P s₂ reg 32).1 Collecting A areg (closed_reached_words L A 32 areg) 0 (l + n)
      body_turn₂ = turned_body (forward_regs L P s₂ reg 32) (regs_low L P s₂ reg 32) (roots_keep L laws P F₂ ok₂ A s₂ g₂ (inv₂ right cross) (omega (arith, used₂)) reg (λ j h. (b.regs j h).0) 32 (le_refl _))

      pub body_turn : Turned (forward_regs L P s₂ reg 32).1 (forward_regs L P s₂ reg 32).0
      body_turn = (F₂, body_turn₂, refl, refl, refl)
