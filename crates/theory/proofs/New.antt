-- NEW, at any moment.
use Rattle.std.proofs.Common.{◌≡◌, ℕ, suc, ◌+◌, ◌<◌, ◌≤◌, Bool, true, false, cond, ◌&&◌, ltb, leb, ◌≢◌, ◌⊎◌, sym, refl, ap, ◌∙◌, inl, inr, add-zero, arith}
use Rattle.std.proofs.lemmas.Bool.{cases_eq, cases_lt, cases_Bool}
use Rattle.std.proofs.lemmas.Bool.Decides.{nat_tests}
use Rattle.theory.specs.Model.{map_v, Layout, upd, sum_to, weight}
use Rattle.layouts.specs.declared.values.Value.{Value}
use Rattle.layouts.specs.declared.values.Value.TheVariants.{Nil, Number, Reference}
use Rattle.theory.specs.Collect.{Heap, Flip, size, Clear, FlipOk, St, Pair, Alive, LooseInv, Grows, Adds, Places}
use Rattle.theory.proofs.Basics.{upd_same, upd_other, upd_at, sum_same, or_le}
use Rattle.theory.proofs.Copy.{in_to, start_top, map_v_same, alive_more}

-- the addresses from a up to b count as scanned
abbrev pub span : (ℕ → Bool) → ℕ → ℕ → (ℕ → Bool)
span done a b = λ x. cond (leb a x && ltb x b) true (done x)

pub span_in : (done : ℕ → Bool) (a b x : ℕ) → a ≤ x → x < b → span done a b x ≡ true
span_in done a b x l m = grind (arith, nat_tests)

pub span_out : (done : ℕ → Bool) (a b x : ℕ) → (x < a) ⊎ (b ≤ x) → span done a b x ≡ done x
span_out done a b x o = grind (arith, nat_tests)

-- no reference
abbrev pub Plain : Value → Type 0
Plain Nil = Unit {0}
Plain (Number n) = Unit {0}
Plain (Reference a) = ⊥

pub plain_alive : (live : ℕ → Bool) (v : Value) → Plain v → Alive live v
plain_alive live Nil p = tt
plain_alive live (Number n) p = tt
plain_alive live (Reference a) p = absurd p

pub plain_map_v : (f : ℕ → ℕ) (v : Value) → Plain v → map_v f v ≡ v
plain_map_v f Nil p = refl
plain_map_v f (Number n) p = refl
plain_map_v f (Reference a) p = absurd p

module _ (L : Layout) (F : Flip) (ok : FlipOk L F) (A : Heap) (s : St) (g : Pair) (inv : LooseInv L F A s g)
    (h : ℕ) (init : ℕ → Value) (plain : (i : ℕ) → i < L.slots h → Plain (init i)) (hh : L.head h ≡ true) (hf : (i : ℕ) → i < L.slots h → L.admits h i (init i) ≡ true)
    (A' : Heap) (ad : Adds A A' h init) (s' : St) (pl : Places L s s' h init) (space : g.limit ≤ s'.low) where
  abbrev n : ℕ
  n = A.many

  abbrev to' : ℕ → ℕ
  to' = upd g.to n s'.low

  abbrev live' : ℕ → Bool
  live' = upd g.live n true

  abbrev done' : ℕ → Bool
  done' = span g.done s'.low s.low

  abbrev pub placed : Pair
  placed = record { live = live'; to = to'; done = done'; limit = g.limit }

  other : (q : ℕ) → g.live q ≡ true → q ≢ n
  other q l = omega (arith, inv.below q l)

  was : (q : ℕ) → q ≢ n → live' q ≡ true → g.live q ≡ true
  was q ne t = sym (upd_other g.live n q true ne) ∙ t

  stays_live : (q : ℕ) → g.live q ≡ true → live' q ≡ true
  stays_live q l = upd_other g.live n q true (other q l) ∙ l

  to_n : (q : ℕ) → q ≡ n → to' q ≡ s'.low
  to_n q e = upd_at g.to n q s'.low e

  to_o : (q : ℕ) → q ≢ n → to' q ≡ g.to q
  to_o q ne = upd_other g.to n q s'.low ne

  stays_to : (q : ℕ) → g.live q ≡ true → to' q ≡ g.to q
  stays_to q l = to_o q (other q l)

  sz_n : (q : ℕ) → q ≡ n → size L A' q ≡ suc (L.slots h)
  sz_n q e = rw (e, ad.hdr)

  sz_o : (q : ℕ) → q ≢ n → size L A' q ≡ size L A q
  sz_o q ne = rw (ad.old_hdr q ne)

  dead : g.live n ≡ false
  dead = elim (cases_Bool (g.live n)) [ inl t ↦ absurd (omega (arith, inv.below n t)) | inr f ↦ f ]

  -- words of paired objects, and of from-space, stay
  to_stays : (q j : ℕ) → g.live q ≡ true → j < size L A q → s'.mem (g.to q + j) ≡ s.mem (g.to q + j)
  to_stays q j l b = pl.rest (g.to q + j) (or_le _ _ _ _ (omega (arith, in_to L F ok A s g inv q j l b, inv.limits, space)))

  to_stays₀ : (q : ℕ) → g.live q ≡ true → s'.mem (g.to q) ≡ s.mem (g.to q)
  to_stays₀ q l = rw add-zero at (to_stays q 0 l (omega arith))

  from_stays : (q j : ℕ) → F.here q ≡ true → j < size L F.old q → s'.mem (F.addr q + j) ≡ s.mem (F.addr q + j)
  from_stays q j hq b = pl.rest (F.addr q + j) (or_le _ _ _ _ (omega (arith, ok.outside q hq, inv.limits, space, start_top L F ok A s g inv)))

  from_stays₀ : (q : ℕ) → F.here q ≡ true → s'.mem (F.addr q) ≡ s.mem (F.addr q)
  from_stays₀ q hq = rw add-zero at (from_stays q 0 hq (omega arith))

  -- scanned or not as before
  done_stays : (q j : ℕ) → g.live q ≡ true → j < size L A q → done' (g.to q + j) ≡ g.done (g.to q + j)
  done_stays q j l b = span_out g.done s'.low s.low (g.to q + j) (or_le _ _ _ _ (omega (arith, in_to L F ok A s g inv q j l b, inv.limits, space)))

  slots_o : (q j : ℕ) → q ≢ n → j < L.slots (A'.hdr q) → j < L.slots (A.hdr q)
  slots_o q j ne k = rw (ad.old_hdr q ne) at k

  slots_n : (q j : ℕ) → q ≡ n → j < L.slots (A'.hdr q) → j < L.slots h
  slots_n q j e k = rw (e, ad.hdr) at k

  within' : (q : ℕ) → live' q ≡ true → q < F.old.many → (F.start ≤ to' q) × (to' q + size L A' q ≤ s'.top)
  within' q t m = let ne : q ≢ n = omega (arith, inv.many) in omega (arith, inv.within q (was q ne t) m, to_o q ne, sz_o q ne, pl.top)

  beyond' : (q : ℕ) → live' q ≡ true → F.old.many ≤ q → (s'.low ≤ to' q) × (to' q + size L A' q ≤ F.last)
  beyond' q t m = elim (cases_eq q n) [
    | inl e ↦ omega (arith, to_n q e, sz_n q e, pl.low, inv.limits)
    | inr ne ↦ omega (arith, inv.beyond q (was q ne t) m, to_o q ne, sz_o q ne, pl.low)
  ]

  clear_new : (q : ℕ) → g.live q ≡ true → Clear (g.to q) (size L A q) s'.low (suc (L.slots h))
  clear_new q l = elim (cases_lt q F.old.many) [
    | inl a ↦ inl (omega (arith, inv.within q l a, inv.limits, space))
    | inr a ↦ inr (omega (arith, inv.beyond q l a, pl.low))
  ]

  apart' : (q₁ q₂ : ℕ) → live' q₁ ≡ true → live' q₂ ≡ true → q₁ ≢ q₂ → Clear (to' q₁) (size L A' q₁) (to' q₂) (size L A' q₂)
  apart' q₁ q₂ t₁ t₂ d = elim (cases_eq q₁ n) [
    | inl e ↦ elim (cases_eq q₂ n) [
      | inl e₂ ↦ absurd (d (e ∙ sym e₂))
      | inr ne ↦ (let k = clear_new q₂ (was q₂ ne t₂) in or_le _ _ _ _ (omega (arith, k, to_n q₁ e, sz_n q₁ e, to_o q₂ ne, sz_o q₂ ne)))
    ]
    | inr ne ↦ elim (cases_eq q₂ n) [
      | inl e₂ ↦ (let k = clear_new q₁ (was q₁ ne t₁) in or_le _ _ _ _ (omega (arith, k, to_n q₂ e₂, sz_n q₂ e₂, to_o q₁ ne, sz_o q₁ ne)))
      | inr ne₂ ↦ rw (to_o q₁ ne, to_o q₂ ne₂, sz_o q₁ ne, sz_o q₂ ne₂) (inv.apart q₁ q₂ (was q₁ ne t₁) (was q₂ ne₂ t₂) d)
    ]
  ]

  cover' : (a : ℕ) → F.start ≤ a → a < s'.top → (q : ℕ) × (live' q ≡ true) × (q < F.old.many) × (to' q ≤ a) × (a < to' q + size L A' q)
  cover' a l b =
      let w = inv.cover a l (omega (arith, pl.top)) in
      let e = stays_to w.0 w.1 in
      let z = sz_o w.0 (other w.0 w.1) in
      (w.0, stays_live w.0 w.1, w.2, omega arith, omega arith)

  cover_new' : (a : ℕ) → s'.low ≤ a → a < F.last → (q : ℕ) × (live' q ≡ true) × (F.old.many ≤ q) × (to' q ≤ a) × (a < to' q + size L A' q)
  cover_new' a l b = elim (cases_lt a s.low) [
    | inl k ↦ (n, upd_same g.live n true, inv.many, omega (arith, to_n n refl), omega (arith, to_n n refl, sz_n n refl, pl.low))
    | inr k ↦ (
        let w = inv.cover_new a k b in
        let e = stays_to w.0 w.1 in
        let z = sz_o w.0 (other w.0 w.1) in
        (w.0, stays_live w.0 w.1, w.2, omega arith, omega arith))
  ]

  total' : sum_to A'.many (weight (size L A') live') + F.start + s'.low ≡ s'.top + F.last
  total' =
      let e = sum_same (weight (size L A') live') (weight (size L A) g.live) n (λ q k. let ne : q ≢ n = omega arith in rw (upd_other g.live n q true ne, ad.old_hdr q ne)) in
      let z : weight (size L A') live' n ≡ suc (L.slots h) = rw (upd_same g.live n true, ad.hdr) in
      rw ad.many (omega (arith, e, z, inv.total, pl.low, pl.top))

  ends' : s'.top ≡ F.start + sum_to F.old.many (weight (size L F.old) live')
  ends' =
      let e = sum_same (weight (size L F.old) live') (weight (size L F.old) g.live) F.old.many (λ q k. let ne : q ≢ n = omega (arith, inv.many) in rw (upd_other g.live n q true ne)) in
      omega (arith, e, inv.ends, pl.top)

  head' : (q : ℕ) → live' q ≡ true → s'.mem (to' q) ≡ A'.hdr q
  head' q t = elim (cases_eq q n) [
    | inl e ↦ rw (to_n q e, e, ad.hdr) pl.head
    | inr ne ↦ rw (to_o q ne, ad.old_hdr q ne) (to_stays₀ q (was q ne t) ∙ inv.head q (was q ne t))
  ]

  raw' : (q i : ℕ) → live' q ≡ true → q < F.old.many → i < L.slots (A'.hdr q) → done' (to' q + suc i) ≡ false → (s'.mem (to' q + suc i) ≡ L.pack (A'.hdr q) i (map_v F.addr (F.old.val q i))) × (A'.val q i ≡ F.old.val q i)
  raw' q i t m k d =
      let ne : q ≢ n = omega (arith, inv.many) in
      let l = was q ne t in
      let b = slots_o q i ne k in
      let o = inv.raw q i l m b (sym (done_stays q (suc i) l (omega arith)) ∙ (rw (to_o q ne) at d)) in
      rw (to_o q ne, ad.old_hdr q ne, ad.old_val q i ne) (to_stays q (suc i) l (omega arith) ∙ o.0, o.1)

  ready_n : (i : ℕ) → i < L.slots h → (s'.mem (s'.low + suc i) ≡ L.pack h i (map_v to' (init i))) × Alive live' (init i)
  ready_n i k = (pl.slot i k ∙ ap (L.pack h i) (sym (plain_map_v to' (init i) (plain i k))), plain_alive live' (init i) (plain i k))

  ready' : (q i : ℕ) → live' q ≡ true → i < L.slots (A'.hdr q) → done' (to' q + suc i) ≡ true → (s'.mem (to' q + suc i) ≡ L.pack (A'.hdr q) i (map_v to' (A'.val q i))) × Alive live' (A'.val q i)
  ready' q i t k d = elim (cases_eq q n) [
    | inl e ↦ rw (to_n q e, e, ad.hdr, ad.val i) (ready_n i (slots_n q i e k))
    | inr ne ↦ (
        let l = was q ne t in
        let b = slots_o q i ne k in
        let o = inv.ready q i l b (sym (done_stays q (suc i) l (omega arith)) ∙ (rw (to_o q ne) at d)) in
        rw (to_o q ne, ad.old_hdr q ne, ad.old_val q i ne) (to_stays q (suc i) l (omega arith) ∙ o.0 ∙ ap (L.pack (A.hdr q) i) (sym (map_v_same g.live g.to to' (A.val q i) o.1 stays_to)), alive_more g.live live' (A.val q i) o.1 stays_live))
  ]

  traced' : (q i x : ℕ) → live' q ≡ true → q < F.old.many → i < L.slots (A'.hdr q) → done' (to' q + suc i) ≡ true → F.old.val q i ≡ Reference x → live' x ≡ true
  traced' q i x t m k d v =
      let ne : q ≢ n = omega (arith, inv.many) in
      let l = was q ne t in
      let b = slots_o q i ne k in
      stays_live x (inv.traced q i x l m b (sym (done_stays q (suc i) l (omega arith)) ∙ (rw (to_o q ne) at d)) v)

  new' : (q i : ℕ) → live' q ≡ true → F.old.many ≤ q → i < L.slots (A'.hdr q) → done' (to' q + suc i) ≡ true
  new' q i t m k = elim (cases_eq q n) [
    | inl e ↦ (let b = slots_n q i e k in rw (to_n q e) (span_in g.done s'.low s.low (s'.low + suc i) (omega arith) (omega (arith, pl.low))))
    | inr ne ↦ (
        let l = was q ne t in
        let b = slots_o q i ne k in
        rw (to_o q ne) (done_stays q (suc i) l (omega arith) ∙ inv.new q i l m b))
  ]

  old_live : (q : ℕ) → q ≢ n → (t : Bool) → live' q ≡ t → g.live q ≡ t
  old_live q ne t e = sym (upd_other g.live n q true ne) ∙ e

  not_n : (q : ℕ) → F.here q ≡ true → q ≢ n
  not_n q hq = omega (arith, ok.below q hq, inv.many)

  pub new_keeps : LooseInv L F A' s' placed
  new_keeps = record {
    many = omega (arith, ad.many, inv.many);
    heads = λ q m. let ne : q ≢ n = omega (arith, inv.many) in ad.old_hdr q ne ∙ inv.heads q m;
    below = λ q t. elim (cases_eq q n) [ inl e ↦ omega (arith, ad.many) | inr ne ↦ omega (arith, ad.many, inv.below q (was q ne t)) ];
    came = λ q t m. let ne : q ≢ n = omega (arith, inv.many) in inv.came q (was q ne t) m;
    news = λ q m k. elim (cases_eq q n) [ inl e ↦ upd_at g.live n q true e | inr ne ↦ stays_live q (inv.news q m (omega (arith, ad.many))) ];
    valid = λ q t. elim (cases_eq q n) [ inl e ↦ rw (e, ad.hdr) hh | inr ne ↦ rw (ad.old_hdr q ne) (inv.valid q (was q ne t)) ];
    fits = λ q i t k. elim (cases_eq q n) [ inl e ↦ rw (e, ad.hdr, ad.val i) (hf i (slots_n q i e k)) | inr ne ↦ rw (ad.old_hdr q ne, ad.old_val q i ne) (inv.fits q i (was q ne t) (slots_o q i ne k)) ];
    limits = omega (arith, inv.limits, pl.low, pl.top, space);
    total = total';
    ends = ends';
    within = within';
    beyond = beyond';
    apart = apart';
    cover = cover';
    cover_new = cover_new';
    gone = λ ro q hq t. let ne = not_n q hq in rw (to_o q ne) (from_stays₀ q hq ∙ inv.gone ro q hq (was q ne t));
    kept = λ q hq t. from_stays₀ q hq ∙ inv.kept q hq (old_live q (not_n q hq) false t);
    kept_slot = λ q i hq t k. from_stays q (suc i) hq (omega arith) ∙ inv.kept_slot q i hq (old_live q (not_n q hq) false t) k;
    kept_same = λ q i hq t k. ad.old_val q i (not_n q hq) ∙ inv.kept_same q i hq (old_live q (not_n q hq) false t) k;
    head = head';
    raw = raw';
    ready = ready';
    traced = traced';
    fresh = λ a l m. span_out g.done s'.low s.low a (inl (omega (arith, space))) ∙ inv.fresh a (omega (arith, pl.top)) m;
    new = new';
  }

  pub new_grows : Grows g placed
  new_grows = record { live = stays_live; to = stays_to; limit = refl }
