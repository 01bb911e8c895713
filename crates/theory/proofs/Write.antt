-- Writing a slot of a paired object: a scanned word, or a STORE.
use Rattle.std.proofs.Common.{◌≡◌, ℕ, suc, ◌+◌, ◌<◌, ◌≤◌, Bool, true, false, cond, ◌≢◌, ◌⊎◌, sym, ap, ◌∙◌, inl, inr, arith}
use Rattle.std.proofs.lemmas.Bool.{cases_eq, both_ways}
use Rattle.theory.specs.Model.{map_v, Layout, upd, sum_to, weight}
use Rattle.layouts.specs.declared.values.Value.{Value}
use Rattle.layouts.specs.declared.values.Value.TheVariants.{Reference}
use Rattle.theory.specs.Collect.{Heap, Flip, size, FlipOk, St, Pair, Alive, LooseInv, Writes, Sets}
use Rattle.theory.proofs.Basics.{upd_other, upd_at, sum_same}
use Rattle.theory.proofs.Copy.{in_to}

-- the pairing with address a scanned
abbrev pub marked : Pair → ℕ → Pair
marked g a = record { live = g.live; to = g.to; done = upd g.done a true; limit = g.limit }

module _ (L : Layout) (F : Flip) (ok : FlipOk L F) (A : Heap) (s : St) (g : Pair) (inv : LooseInv L F A s g) where
  -- two slots of paired objects at one address are one slot
  pub same_slot : (p i q j : ℕ) → g.live p ≡ true → i < L.slots (A.hdr p) → g.live q ≡ true → j < L.slots (A.hdr q) → g.to q + suc j ≡ g.to p + suc i → (q ≡ p) × (j ≡ i)
  same_slot p i q j l b l₂ b₂ e = elim (cases_eq q p) [
    | inl k ↦ (k, (let t : g.to q ≡ g.to p = ap g.to k in omega arith))
    | inr ne ↦ absurd (omega (arith, inv.apart q p l₂ l ne))
  ]

  module _ (p i : ℕ) (l : g.live p ≡ true) (b : i < L.slots (A.hdr p)) (v : Value) (al : Alive g.live v) (ad : L.admits (A.hdr p) i v ≡ true)
      (tr : (x : ℕ) → p < F.old.many → F.old.val p i ≡ Reference x → g.live x ≡ true)
      (s' : St) (w : Writes s s' (g.to p + suc i) (L.pack (A.hdr p) i (map_v g.to v))) (A' : Heap) (se : Sets A A' p i v) where
    abbrev at : ℕ
    at = g.to p + suc i

    abbrev done' : ℕ → Bool
    done' = upd g.done at true

    sz : (q : ℕ) → size L A' q ≡ size L A q
    sz q = ap (λ n. suc (L.slots n)) (se.hdr q)

    inside : (F.start ≤ at) × (at < F.last) × ((at < s.top) ⊎ (s.low ≤ at))
    inside = in_to L F ok A s g inv p (suc i) l (omega arith)

    from_stays : (q j : ℕ) → F.here q ≡ true → j < size L F.old q → s'.mem (F.addr q + j) ≡ s.mem (F.addr q + j)
    from_stays q j hq k = w.rest (F.addr q + j) (omega (arith, inside, ok.outside q hq))

    from_stays₀ : (q : ℕ) → F.here q ≡ true → s'.mem (F.addr q) ≡ s.mem (F.addr q)
    from_stays₀ q hq = w.rest (F.addr q) (omega (arith, inside, ok.outside q hq))

    head_stays : (q : ℕ) → g.live q ≡ true → s'.mem (g.to q) ≡ s.mem (g.to q)
    head_stays q lq = w.rest (g.to q) (elim (cases_eq q p) [
      | inl e ↦ (let t : g.to q ≡ g.to p = ap g.to e in omega arith)
      | inr ne ↦ omega (arith, inv.apart q p lq l ne)
    ])

    -- a slot at another address is another slot
    val_stays : (q j : ℕ) → g.to q + suc j ≢ at → A'.val q j ≡ A.val q j
    val_stays q j ne = elim (cases_eq q p) [
      | inl e ↦ (let t : g.to q ≡ g.to p = ap g.to e in rw e (se.other_slot j (omega arith)))
      | inr d ↦ se.other q j d
    ]

    slots_of : (q j : ℕ) → j < L.slots (A'.hdr q) → j < L.slots (A.hdr q)
    slots_of q j k = rw (se.hdr q) at k

    pack_as : (q j : ℕ) (x : Value) → L.pack (A'.hdr q) j x ≡ L.pack (A.hdr q) j x
    pack_as q j x = ap (λ n. L.pack n j x) (se.hdr q)

    undone : (a : ℕ) → done' a ≡ false → (a ≢ at) × (g.done a ≡ false)
    undone a d = elim (cases_eq a at) [
      | inl e ↦ absurd (both_ways (done' a) d (upd_at g.done at a true e))
      | inr ne ↦ (ne, sym (upd_other g.done at a true ne) ∙ d)
    ]

    was_done : (a : ℕ) → a ≢ at → done' a ≡ true → g.done a ≡ true
    was_done a ne d = sym (upd_other g.done at a true ne) ∙ d

    still_done : (a : ℕ) → g.done a ≡ true → done' a ≡ true
    still_done a d = elim (cases_eq a at) [ inl e ↦ upd_at g.done at a true e | inr ne ↦ upd_other g.done at a true ne ∙ d ]

    raw' : (q j : ℕ) → g.live q ≡ true → q < F.old.many → j < L.slots (A'.hdr q) → done' (g.to q + suc j) ≡ false → (s'.mem (g.to q + suc j) ≡ L.pack (A'.hdr q) j (map_v F.addr (F.old.val q j))) × (A'.val q j ≡ F.old.val q j)
    raw' q j lq k bj d =
        let u = undone (g.to q + suc j) d in
        let o = inv.raw q j lq k (slots_of q j bj) u.1 in
        (w.rest (g.to q + suc j) u.0 ∙ o.0 ∙ sym (pack_as q j _), val_stays q j u.0 ∙ o.1)

    ready_here : (s'.mem at ≡ L.pack (A'.hdr p) i (map_v g.to (A'.val p i))) × Alive g.live (A'.val p i)
    ready_here = rw (se.hdr p, se.here) (w.word, al)

    ready' : (q j : ℕ) → g.live q ≡ true → j < L.slots (A'.hdr q) → done' (g.to q + suc j) ≡ true → (s'.mem (g.to q + suc j) ≡ L.pack (A'.hdr q) j (map_v g.to (A'.val q j))) × Alive g.live (A'.val q j)
    ready' q j lq k d = elim (cases_eq (g.to q + suc j) at) [
      | inl e ↦ (let t = same_slot p i q j l b lq (slots_of q j k) e in rw (t.0, t.1) ready_here)
      | inr ne ↦ (let o = inv.ready q j lq (slots_of q j k) (was_done (g.to q + suc j) ne d) in
          rw (val_stays q j ne) (w.rest (g.to q + suc j) ne ∙ o.0 ∙ sym (pack_as q j _), o.1))
    ]

    traced' : (q j x : ℕ) → g.live q ≡ true → q < F.old.many → j < L.slots (A'.hdr q) → done' (g.to q + suc j) ≡ true → F.old.val q j ≡ Reference x → g.live x ≡ true
    traced' q j x lq m k d e = elim (cases_eq (g.to q + suc j) at) [
      | inl t ↦ (let u = same_slot p i q j l b lq (slots_of q j k) t in tr x (rw u.0 at m) (rw (u.0, u.1) at e))
      | inr ne ↦ inv.traced q j x lq m (slots_of q j k) (was_done (g.to q + suc j) ne d) e
    ]

    not_p : (q : ℕ) → g.live q ≡ false → q ≢ p
    not_p q f e = both_ways (g.live q) f (rw e l)

    fits' : (q j : ℕ) → g.live q ≡ true → j < L.slots (A'.hdr q) → L.admits (A'.hdr q) j (A'.val q j) ≡ true
    fits' q j lq k = elim (cases_eq (g.to q + suc j) at) [
      | inl e ↦ (let t = same_slot p i q j l b lq (slots_of q j k) e in rw (t.0, t.1, se.hdr p, se.here) ad)
      | inr ne ↦ rw (se.hdr q, val_stays q j ne) (inv.fits q j lq (slots_of q j k))
    ]

    total' : sum_to A'.many (weight (size L A') g.live) + F.start + s'.low ≡ s'.top + F.last
    total' = rw se.many (omega (arith, w.end, w.low, inv.total, sum_same (weight (size L A') g.live) (weight (size L A) g.live) A.many (λ q k. ap (λ n. cond (g.live q) n 0) (sz q))))

    pub write_keeps : LooseInv L F A' s' (marked g at)
    write_keeps = record {
      many = rw se.many inv.many;
      heads = λ q k. se.hdr q ∙ inv.heads q k;
      below = λ q k. rw se.many (inv.below q k);
      came = inv.came;
      news = λ q k m. inv.news q k (rw se.many at m);
      valid = λ q k. rw (se.hdr q) (inv.valid q k);
      fits = fits';
      limits = omega (arith, inv.limits, w.end, w.low);
      total = total';
      ends = w.end ∙ inv.ends;
      within = λ q k m. rw (w.end, sz q) (inv.within q k m);
      beyond = λ q k m. rw (sz q, w.low) (inv.beyond q k m);
      apart = λ q x k m d. rw (sz q, sz x) (inv.apart q x k m d);
      cover = λ a k m. let o = inv.cover a k (rw w.end at m) in (o.0, o.1, o.2, o.3, rw (sz o.0) o.4);
      cover_new = λ a k m. let o = inv.cover_new a (rw w.low at k) m in (o.0, o.1, o.2, o.3, rw (sz o.0) o.4);
      gone = λ ro q h k. from_stays₀ q h ∙ inv.gone ro q h k;
      kept = λ q h k. from_stays₀ q h ∙ inv.kept q h k;
      kept_slot = λ q j h k m. from_stays q (suc j) h (omega arith) ∙ inv.kept_slot q j h k m;
      kept_same = λ q j h k m. se.other q j (not_p q k) ∙ inv.kept_same q j h k m;
      head = λ q k. head_stays q k ∙ inv.head q k ∙ sym (se.hdr q);
      raw = raw';
      ready = ready';
      traced = traced';
      fresh = λ a k m. let t = inside in let li = inv.limits in let k₂ : s.top ≤ a = rw w.end at k in upd_other g.done at a true (omega arith) ∙ inv.fresh a k₂ m;
      new = λ q j k m n. still_done (g.to q + suc j) (inv.new q j k m (slots_of q j n));
    }
