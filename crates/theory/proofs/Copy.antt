-- Copying an object that has not been copied keeps the invariant.
use Rattle.std.proofs.Common.{◌≡◌, ℕ, suc, ◌+◌, ◌*◌, ◌/◌, ◌<◌, ◌≤◌, Bool, true, false, ◌≢◌, ◌⊎◌, sym, refl, ap, ◌∙◌, inl, inr, add-zero, arith}
use Rattle.std.proofs.lemmas.Bool.{cases_eq, cases_lt, both_ways, lt-ltb}
use Rattle.theory.specs.Model.{map_v, Layout, upd, sum_to, weight}
use Rattle.layouts.specs.declared.values.Value.{Value}
use Rattle.layouts.specs.declared.values.Value.TheVariants.{Nil, Number, Reference}
use Rattle.layouts.specs.Layouts.{addressable}
use Rattle.theory.specs.Collect.{Heap, Flip, size, Reached, Clear, FlipOk, St, Pair, Alive, LooseInv, Grows, Copies, LooseSide}
use Rattle.theory.proofs.Basics.{upd_other, upd_at, weight_add, sum_mono, weight_mono, or_le}

-- the pairing with p at b
abbrev pub paired : Pair → ℕ → ℕ → Pair
paired g p b = record { live = upd g.live p true; to = upd g.to p b; done = g.done; limit = g.limit }

pub map_v_same : (live : ℕ → Bool) (f h : ℕ → ℕ) (v : Value) → Alive live v → ((q : ℕ) → live q ≡ true → h q ≡ f q) → map_v h v ≡ map_v f v
map_v_same live f h Nil a e = refl
map_v_same live f h (Number n) a e = refl
map_v_same live f h (Reference q) a e = ap Reference (e q a)

pub alive_more : (live live' : ℕ → Bool) (v : Value) → Alive live v → ((q : ℕ) → live q ≡ true → live' q ≡ true) → Alive live' v
alive_more live live' Nil a e = tt
alive_more live live' (Number n) a e = tt
alive_more live live' (Reference q) a e = e q a

-- a value whose reference, if it is one, leads below 16384
pub near_map_v : (live : ℕ → Bool) (f : ℕ → ℕ) (v : Value) → Alive live v → ((q : ℕ) → live q ≡ true → f q < 16384) → addressable (map_v f v) ≡ true
near_map_v live f Nil a e = refl
near_map_v live f (Number n) a e = refl
near_map_v live f (Reference q) a e = lt-ltb (f q) 16384 (e q a)

module _ (L : Layout) (F : Flip) (ok : FlipOk L F) (A : Heap) (s : St) (g : Pair) (inv : LooseInv L F A s g) where
  -- a place that is here and not yet copied has room below the limit
  pub space : (p : ℕ) → F.start + F.used ≤ g.limit → F.here p ≡ true → g.live p ≡ false → s.top + size L F.old p ≤ g.limit
  space p room h f =
      let lt = ok.below p h in
      let e = weight_add (size L F.old) g.live F.old.many p lt f in
      let live' : ℕ → Bool = upd g.live p true in
      let m = sum_mono (weight (size L F.old) live') (weight (size L F.old) F.here) F.old.many (λ q ql. weight_mono (size L F.old) live' F.here q (λ t. elim (cases_eq q p) [ inl e ↦ rw e h | inr ne ↦ (inv.came q (sym (upd_other g.live p q true ne) ∙ t) ql).0 ])) in
      omega (arith, e, m, inv.ends, ok.total)

  pub start_top : F.start ≤ s.top
  start_top = omega (arith, inv.ends)

  -- a word of a paired object lies in to-space, below the copy end or above the limit
  pub in_to : (q j : ℕ) → g.live q ≡ true → j < size L A q → (F.start ≤ g.to q + j) × (g.to q + j < F.last) × ((g.to q + j < s.top) ⊎ (s.low ≤ g.to q + j))
  in_to q j l h =
      let st = start_top in
      let en = inv.limits in
      elim (cases_lt q F.old.many) [
        | inl a ↦ (let w = inv.within q l a in (omega arith, omega arith, inl (omega arith)))
        | inr a ↦ (let w = inv.beyond q l a in (omega arith, omega arith, inr (omega arith)))
      ]

  module _ (p : ℕ) (room : F.start + F.used ≤ g.limit) (h : F.here p ≡ true) (r : Reached L F p) (f : g.live p ≡ false) (P : ℕ) (s' : St) (c : Copies P s s' (F.addr p) (size L F.old p)) where
    lt : p < F.old.many
    lt = ok.below p h

    sz : size L A p ≡ size L F.old p
    sz = ap (λ n. suc (L.slots n)) (inv.heads p lt)

    abbrev to' : ℕ → ℕ
    to' = upd g.to p s.top

    abbrev live' : ℕ → Bool
    live' = upd g.live p true

    was : (q : ℕ) → upd g.live p true q ≡ true → q ≢ p → g.live q ≡ true
    was q t ne = sym (upd_other g.live p q true ne) ∙ t

    -- words of other objects in from-space stay
    from_stays : (q j : ℕ) → F.here q ≡ true → q ≢ p → j < size L F.old q → s'.mem (F.addr q + j) ≡ s.mem (F.addr q + j)
    from_stays q j hq ne l =
        let a = ok.apart q p hq h ne in
        let sp = space p room h f in
        let o = ok.outside q hq in
        let e = inv.limits in
        let st = start_top in
        c.rest (F.addr q + j) (omega arith) (or_le _ _ _ _ (omega arith))

    to_stays : (q j : ℕ) → g.live q ≡ true → j < size L A q → s'.mem (g.to q + j) ≡ s.mem (g.to q + j)
    to_stays q j l b =
        let i = in_to q j l b in
        let sp = space p room h f in
        let o = ok.outside p h in
        let e = inv.limits in
        c.rest (g.to q + j) (omega arith) (or_le _ _ _ _ (omega arith))

    to_p : (q : ℕ) → q ≡ p → to' q ≡ s.top
    to_p q e = upd_at g.to p q s.top e

    to_o : (q : ℕ) → q ≢ p → to' q ≡ g.to q
    to_o q ne = upd_other g.to p q s.top ne

    sz_p : (q : ℕ) → q ≡ p → size L A q ≡ size L F.old p
    sz_p q e = rw e sz

    came' : (q : ℕ) → live' q ≡ true → q < F.old.many → (F.here q ≡ true) × Reached L F q
    came' q t l = elim (cases_eq q p) [ inl e ↦ rw e (h, r) | inr ne ↦ inv.came q (was q t ne) l ]

    below' : (q : ℕ) → live' q ≡ true → q < A.many
    below' q t = elim (cases_eq q p) [ inl e ↦ omega (arith, lt, inv.many) | inr ne ↦ inv.below q (was q t ne) ]

    ends' : s'.top ≡ F.start + sum_to F.old.many (weight (size L F.old) live')
    ends' = omega (arith, c.end, inv.ends, weight_add (size L F.old) g.live F.old.many p lt f)

    within' : (q : ℕ) → live' q ≡ true → q < F.old.many → (F.start ≤ to' q) × (to' q + size L A q ≤ s'.top)
    within' q t l = elim (cases_eq q p) [
      | inl e ↦ omega (arith, to_p q e, sz_p q e, c.end, start_top)
      | inr ne ↦ omega (arith, to_o q ne, inv.within q (was q t ne) l, c.end)
    ]

    beyond' : (q : ℕ) → live' q ≡ true → F.old.many ≤ q → (s'.low ≤ to' q) × (to' q + size L A q ≤ F.last)
    beyond' q t l = elim (cases_eq q p) [
      | inl e ↦ absurd (omega (arith, lt, e))
      | inr ne ↦ omega (arith, to_o q ne, inv.beyond q (was q t ne) l, c.low)
    ]

    total' : sum_to A.many (weight (size L A) live') + F.start + s'.low ≡ s'.top + F.last
    total' = omega (arith, c.end, c.low, inv.total, sz, weight_add (size L A) g.live A.many p (omega (arith, lt, inv.many)) f)

    valid' : (q : ℕ) → live' q ≡ true → L.head (A.hdr q) ≡ true
    valid' q t = elim (cases_eq q p) [ inl e ↦ rw (e, inv.heads p lt) (ok.heads p h) | inr ne ↦ inv.valid q (was q t ne) ]

    fits_p : (i : ℕ) → i < L.slots (A.hdr p) → L.admits (A.hdr p) i (A.val p i) ≡ true
    fits_p i k =
        let l₀ : i < L.slots (F.old.hdr p) = rw (inv.heads p lt) at k in
        rw (inv.heads p lt, inv.kept_same p i h f l₀) (ok.fits p i h l₀)

    fits' : (q i : ℕ) → live' q ≡ true → i < L.slots (A.hdr q) → L.admits (A.hdr q) i (A.val q i) ≡ true
    fits' q i t k = elim (cases_eq q p) [ inl e ↦ rw e (fits_p i (rw e at k)) | inr ne ↦ inv.fits q i (was q t ne) k ]

    -- a paired object is clear of the words copied to
    clear_new : (q : ℕ) → g.live q ≡ true → Clear (g.to q) (size L A q) s.top (size L F.old p)
    clear_new q l =
        let sp = space p room h f in
        let li = inv.limits in
        elim (cases_lt q F.old.many) [
          | inl a ↦ inl (omega (arith, inv.within q l a))
          | inr a ↦ inr (omega (arith, inv.beyond q l a))
        ]

    apart' : (q₁ q₂ : ℕ) → live' q₁ ≡ true → live' q₂ ≡ true → q₁ ≢ q₂ → Clear (to' q₁) (size L A q₁) (to' q₂) (size L A q₂)
    apart' q₁ q₂ t₁ t₂ d = elim (cases_eq q₁ p) [
      | inl e ↦ elim (cases_eq q₂ p) [
        | inl e₂ ↦ absurd (d (e ∙ sym e₂))
        | inr ne ↦ (let k = clear_new q₂ (was q₂ t₂ ne) in or_le _ _ _ _ (omega (arith, k, to_p q₁ e, sz_p q₁ e, to_o q₂ ne)))
      ]
      | inr ne ↦ elim (cases_eq q₂ p) [
        | inl e₂ ↦ (let k = clear_new q₁ (was q₁ t₁ ne) in or_le _ _ _ _ (omega (arith, k, to_p q₂ e₂, sz_p q₂ e₂, to_o q₁ ne)))
        | inr ne₂ ↦ rw (to_o q₁ ne, to_o q₂ ne₂) (inv.apart q₁ q₂ (was q₁ t₁ ne) (was q₂ t₂ ne₂) d)
      ]
    ]

    -- what was paired is another place
    other : (q : ℕ) → g.live q ≡ true → q ≢ p
    other q l e = both_ways (g.live p) f (rw (sym e) l)

    live_o : (q : ℕ) → q ≢ p → live' q ≡ g.live q
    live_o q ne = upd_other g.live p q true ne

    live_p : (q : ℕ) → q ≡ p → live' q ≡ true
    live_p q e = upd_at g.live p q true e

    stays_live : (q : ℕ) → g.live q ≡ true → live' q ≡ true
    stays_live q l = live_o q (other q l) ∙ l

    stays_to : (q : ℕ) → g.live q ≡ true → to' q ≡ g.to q
    stays_to q l = to_o q (other q l)

    -- what is not yet paired was not, and is another place
    not_p : (q : ℕ) → live' q ≡ false → q ≢ p
    not_p q t e = both_ways (live' q) t (live_p q e)

    cover' : (a : ℕ) → F.start ≤ a → a < s'.top → (q : ℕ) × (live' q ≡ true) × (q < F.old.many) × (to' q ≤ a) × (a < to' q + size L A q)
    cover' a l b = elim (cases_lt a s.top) [
      | inl k ↦ (let w = inv.cover a l k in let e = stays_to w.0 w.1 in (w.0, stays_live w.0 w.1, w.2, omega arith, omega arith))
      | inr k ↦ (p, live_p p refl, lt, omega (arith, to_p p refl), omega (arith, to_p p refl, sz, c.end))
    ]

    from_stays₀ : (q : ℕ) → F.here q ≡ true → q ≢ p → s'.mem (F.addr q) ≡ s.mem (F.addr q)
    from_stays₀ q hq ne = rw add-zero at (from_stays q 0 hq ne (omega arith))

    to_stays₀ : (q : ℕ) → g.live q ≡ true → s'.mem (g.to q) ≡ s.mem (g.to q)
    to_stays₀ q l = rw add-zero at (to_stays q 0 l (omega arith))

    gone' : (q : ℕ) → F.here q ≡ true → live' q ≡ true → s'.mem (F.addr q) ≡ 2 * to' q
    gone' q hq t = elim (cases_eq q p) [
      | inl e ↦ rw (to_p q e, e) c.word
      | inr ne ↦ rw (to_o q ne) (from_stays₀ q hq ne ∙ inv.gone room q hq (was q t ne))
    ]

    kept' : (q : ℕ) → F.here q ≡ true → live' q ≡ false → s'.mem (F.addr q) ≡ F.old.hdr q
    kept' q hq t = let ne = not_p q t in from_stays₀ q hq ne ∙ inv.kept q hq (sym (live_o q ne) ∙ t)

    kept_slot' : (q i : ℕ) → F.here q ≡ true → live' q ≡ false → i < L.slots (F.old.hdr q) → s'.mem (F.addr q + suc i) ≡ L.pack (F.old.hdr q) i (map_v F.addr (F.old.val q i))
    kept_slot' q i hq t l = let ne = not_p q t in from_stays q (suc i) hq ne (omega arith) ∙ inv.kept_slot q i hq (sym (live_o q ne) ∙ t) l

    kept_same' : (q i : ℕ) → F.here q ≡ true → live' q ≡ false → i < L.slots (F.old.hdr q) → A.val q i ≡ F.old.val q i
    kept_same' q i hq t l = inv.kept_same q i hq (sym (live_o q (not_p q t)) ∙ t) l

    copied_head : s'.mem s.top ≡ A.hdr p
    copied_head = (simp add-zero at (c.copy 0 (omega arith))) ∙ inv.kept p h f ∙ sym (inv.heads p lt)

    head' : (q : ℕ) → live' q ≡ true → s'.mem (to' q) ≡ A.hdr q
    head' q t = elim (cases_eq q p) [
      | inl e ↦ rw (to_p q e, e) copied_head
      | inr ne ↦ rw (to_o q ne) (to_stays₀ q (was q t ne) ∙ inv.head q (was q t ne))
    ]

    raw_p : (i : ℕ) → i < L.slots (A.hdr p) → (s'.mem (s.top + suc i) ≡ L.pack (A.hdr p) i (map_v F.addr (F.old.val p i))) × (A.val p i ≡ F.old.val p i)
    raw_p i l =
        let l₀ : i < L.slots (F.old.hdr p) = rw (inv.heads p lt) at l in (
          c.copy (suc i) (omega arith) ∙ inv.kept_slot p i h f l₀ ∙ ap (λ n. L.pack n i (map_v F.addr (F.old.val p i))) (sym (inv.heads p lt)),
          inv.kept_same p i h f l₀,
        )

    raw' : (q i : ℕ) → live' q ≡ true → q < F.old.many → i < L.slots (A.hdr q) → g.done (to' q + suc i) ≡ false → (s'.mem (to' q + suc i) ≡ L.pack (A.hdr q) i (map_v F.addr (F.old.val q i))) × (A.val q i ≡ F.old.val q i)
    raw' q i t l k d = elim (cases_eq q p) [
      | inl e ↦ rw (to_p q e, e) (raw_p i (rw e at k))
      | inr ne ↦ (let o = inv.raw q i (was q t ne) l k (rw (to_o q ne) at d) in rw (to_o q ne) (to_stays q (suc i) (was q t ne) (omega arith) ∙ o.0, o.1))
    ]

    -- no word of the copied object is scanned
    unscanned : (i : ℕ) → i < L.slots (A.hdr p) → g.done (s.top + suc i) ≡ false
    unscanned i l = inv.fresh (s.top + suc i) (omega arith) (omega (arith, space p room h f, sz))

    ready' : (q i : ℕ) → live' q ≡ true → i < L.slots (A.hdr q) → g.done (to' q + suc i) ≡ true → (s'.mem (to' q + suc i) ≡ L.pack (A.hdr q) i (map_v to' (A.val q i))) × Alive live' (A.val q i)
    ready' q i t k d = elim (cases_eq q p) [
      | inl e ↦ absurd (both_ways (g.done (s.top + suc i)) (unscanned i (rw e at k)) (rw (to_p q e) at d))
      | inr ne ↦ (let o = inv.ready q i (was q t ne) k (rw (to_o q ne) at d) in
          rw (to_o q ne) (to_stays q (suc i) (was q t ne) (omega arith) ∙ o.0 ∙ ap (L.pack (A.hdr q) i) (sym (map_v_same g.live g.to to' (A.val q i) o.1 stays_to)), alive_more g.live live' (A.val q i) o.1 stays_live))
    ]

    traced' : (q i x : ℕ) → live' q ≡ true → q < F.old.many → i < L.slots (A.hdr q) → g.done (to' q + suc i) ≡ true → F.old.val q i ≡ Reference x → live' x ≡ true
    traced' q i x t l k d v = elim (cases_eq q p) [
      | inl e ↦ absurd (both_ways (g.done (s.top + suc i)) (unscanned i (rw e at k)) (rw (to_p q e) at d))
      | inr ne ↦ stays_live x (inv.traced q i x (was q t ne) l k (rw (to_o q ne) at d) v)
    ]

    new' : (q i : ℕ) → live' q ≡ true → F.old.many ≤ q → i < L.slots (A.hdr q) → g.done (to' q + suc i) ≡ true
    new' q i t l k = let ne : q ≢ p = omega (arith, lt) in rw (to_o q ne) (inv.new q i (was q t ne) l k)

    pub copy_keeps : LooseInv L F A s' (paired g p s.top)
    copy_keeps = record {
      many = inv.many;
      heads = inv.heads;
      below = below';
      came = came';
      news = λ q k m. stays_live q (inv.news q k m);
      valid = valid';
      fits = fits';
      limits = omega (arith, inv.limits, c.end, c.low, space p room h f);
      total = total';
      ends = ends';
      within = within';
      beyond = beyond';
      apart = apart';
      cover = cover';
      cover_new = λ a l b. let w = inv.cover_new a (rw c.low at l) b in let e = stays_to w.0 w.1 in (w.0, stays_live w.0 w.1, w.2, omega arith, omega arith);
      gone = λ ro. gone';
      kept = kept';
      kept_slot = kept_slot';
      kept_same = kept_same';
      head = head';
      raw = raw';
      ready = ready';
      traced = traced';
      fresh = λ a l k. inv.fresh a (omega (arith, c.end)) k;
      new = new';
    }

    pub copy_grows : Grows g (paired g p s.top)
    copy_grows = record { live = stays_live; to = stays_to; limit = refl }

    pub copy_side : LooseSide L P F A s g → LooseSide L P F A s' (paired g p s.top)
    copy_side o = record {
      opens = λ x l b r. elim (cases_lt x s.top) [
        | inl k ↦ o.opens x l k (λ z. r (c.shuts (x / P) r ∙ z))
        | inr k ↦ absurd (r (c.right x k (omega (arith, c.end))))
      ];
      cross = λ ro n l b. elim (cases_lt (n * P) s.top) [
        | inl k ↦ (let w = o.cross ro n l k in let e = stays_to w.0 w.1 in (w.0, stays_live w.0 w.1, w.2, c.crosses n k ∙ w.3 ∙ sym e, rw e w.4, rw e w.5))
        | inr k ↦ (p, live_p p refl, lt, c.cross n k (omega (arith, c.end)) ∙ sym (to_p p refl), omega (arith, to_p p refl), omega (arith, to_p p refl, sz, c.end))
      ];
    }
