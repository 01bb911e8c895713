-- A page scanned and opened, with the map of scanned words.
use Rattle.std.proofs.Common.{◌≡◌, ℕ, ◌+◌, ◌*◌, ◌/◌, ◌<◌, ◌≤◌, min, max, true, false, ltb, ◌≢◌, ◌⊎◌, sym, ap, ◌∙◌, inl, inr, le_refl, arith}
use Rattle.std.proofs.lemmas.Bool.{cases_eq, cases_lt, cases_Bool, both_ways, eq-eqb, ne_eqb, lt-ltb, le-ltb}
use Rattle.theory.specs.Model.{Layout, upd}
use Rattle.theory.specs.Collect.{Laws, Heap, Flip, FlipOk, St, Pair, LooseInv, LooseSide, Grows}
use Rattle.theory.specs.Machine.{begins, ran_page, grant}
use Rattle.theory.proofs.Basics.{upd_other, upd_at, or_le, page_lo, page_hi, page_of}
use Rattle.theory.proofs.Pages.{Points, Ran, run_keeps}
use Rattle.theory.proofs.World.{Whole, Scans}

-- an address that no object reaches over stays so while objects are copied
pub whole_grows : (L : Layout) (F : Flip) (A : Heap) (s s' : St) (g g' : Pair) → LooseInv L F A s g → LooseInv L F A s' g' → Grows g g' → s.top ≤ s'.top → (x : ℕ) → Whole L F A s g x → Whole L F A s' g' x
whole_grows L F A s s' g g' inv inv' gr up x w = record {
  in_top = omega (arith, w.in_top);
  clear = λ q l m. elim (cases_Bool (g.live q)) [
    | inl t ↦ rw (gr.to q t) (w.clear q t m)
    | inr f ↦ or_le _ _ _ _ (λ a b. hits q l m f (omega arith))
  ];
}
  where
    hits : (q : ℕ) → g'.live q ≡ true → q < F.old.many → g.live q ≡ false → g'.to q < x → ⊥
    hits q l m f a =
        let c = inv.cover (g'.to q) (inv'.within q l m).0 (omega (arith, w.in_top)) in
        let ne : c.0 ≢ q = λ e. both_ways (g.live q) f (ap g.live (sym e) ∙ c.1) in
        let l₀ = gr.live c.0 c.1 in
        let t = gr.to c.0 c.1 in
        omega (arith, c.3, c.4, inv'.apart c.0 q l₀ l ne)

-- what page n is after its scan
pub record Paged (L : Layout) (P : ℕ) (F : Flip) (A : Heap) (s : St) (g : Pair) (scan : ℕ → ℕ) (n : ℕ) (r : St × ℕ) : Type 0 where
  pub pair : Pair
  pub inv : LooseInv L F A (grant r.0 n 2) pair
  pub grows : Grows g pair
  pub side : LooseSide L P F A (grant r.0 n 2) pair
  pub scans : Scans L P F A (grant r.0 n 2) pair (upd scan n r.1)
  pub rises : s.top ≤ r.0.top
  pub all : min (n * P + P) r.0.top ≤ r.1
  pub on : scan n ≤ r.1

-- rights do not enter the invariant
pub grant_inv : (L : Layout) (F : Flip) (A : Heap) (s : St) (g : Pair) (n r : ℕ) → LooseInv L F A s g → LooseInv L F A (grant s n r) g
grant_inv L F A s g n r inv = record {
  many = inv.many;
  heads = inv.heads;
  below = inv.below;
  came = inv.came;
  news = inv.news;
  valid = inv.valid;
  fits = inv.fits;
  limits = inv.limits;
  total = inv.total;
  ends = inv.ends;
  within = inv.within;
  beyond = inv.beyond;
  apart = inv.apart;
  cover = inv.cover;
  cover_new = inv.cover_new;
  gone = inv.gone;
  kept = inv.kept;
  kept_slot = inv.kept_slot;
  kept_same = inv.kept_same;
  head = inv.head;
  raw = inv.raw;
  ready = inv.ready;
  traced = inv.traced;
  fresh = inv.fresh;
  new = inv.new;
}

module _ (L : Layout) (laws : Laws L) (P : ℕ) (pos : 0 < P) (F : Flip) (ok : FlipOk L F) (A : Heap) (s : St) (g : Pair) (inv : LooseInv L F A s g) (side : LooseSide L P F A s g)
    (scan : ℕ → ℕ) (sc : Scans L P F A s g scan) (room : F.start + F.used ≤ g.limit) (n : ℕ) (st : F.start ≤ n * P) where
  -- the header where scanning begins
  pub points : scan n < s.top → scan n < n * P + P → Points L F A g (begins P s scan n) (scan n)
  points b c = elim (cases_eq (scan n) (n * P)) [
    | inl e ↦ (
        let o = side.cross room n st (omega arith) in
        let h : begins P s scan n ≡ s.cross n = rw (eq-eqb (scan n) (n * P) e) in
        record { place = o.0; live = o.1; old = o.2; head = h ∙ o.3; from = omega (arith, o.4); to = omega (arith, o.5) })
    | inr ne ↦ (
        let lo = sc.low n in
        let w = sc.bound n (omega arith) c st in
        let o = inv.cover (scan n) (omega arith) b in
        let k = w.clear o.0 o.1 o.2 in
        let h : begins P s scan n ≡ scan n = rw (ne_eqb (scan n) (n * P) ne) in
        record { place = o.0; live = o.1; old = o.2; head = h ∙ omega (arith, k, o.3, o.4); from = o.3; to = omega (arith, o.4) })
  ]

  -- a word of page n at or after the first unscanned one is unscanned
  pub unscanned : (x : ℕ) → scan n ≤ x → x < n * P + P → x < g.limit → g.done x ≡ false
  unscanned x a b c =
      let lo = sc.low n in
      let e = page_of P x n (omega arith) b in
      sc.done x (omega arith) c ∙ ap (λ k. ltb x (scan k)) e ∙ le-ltb x (scan n) a

  ran : scan n < s.top → scan n < n * P + P → Ran L P F A s g (n * P + P) (scan n) (ran_page L P s scan n) × (n * P + P ≤ scan n + P → min (n * P + P) (ran_page L P s scan n).0.top ≤ (ran_page L P s scan n).1)
  ran b c = let lo = sc.low n in run_keeps L laws P F ok A P (n * P + P) s g (begins P s scan n) (scan n) inv room (omega arith) (λ z. points b c) unscanned

  module _ (r : St × ℕ) (b : scan n < s.top) (c : scan n < n * P + P) (o : Ran L P F A s g (n * P + P) (scan n) r) (en : min (n * P + P) r.0.top ≤ r.1) where
    abbrev scan' : ℕ → ℕ
    scan' = upd scan n r.1

    bounds : (scan n ≤ r.1) × (r.1 ≤ n * P + P) × (n * P ≤ r.1)
    bounds = let lo = sc.low n in omega (arith, o.on, o.within)

    -- a word of another page
    elsewhere : (x : ℕ) → x / P ≢ n → (x < scan n) ⊎ (r.1 ≤ x)
    elsewhere x ne =
        let lo = sc.low n in
        let hi = bounds in
        elim (cases_lt x (n * P)) [
          | inl k ↦ inl (omega arith)
          | inr k ↦ elim (cases_lt x (n * P + P)) [ inl j ↦ absurd (ne (page_of P x n k j)) | inr j ↦ inr (omega arith) ]
        ]

    in_page : (x : ℕ) → x / P ≡ n → (n * P ≤ x) × (x < n * P + P)
    in_page x e =
        let lo : n * P ≤ x = rw e at (page_lo P x) in
        let hi : x < n * P + P = rw e at (page_hi P x pos) in
        (lo, hi)

    done' : (x : ℕ) → F.start ≤ x → x < g.limit → o.pair.done x ≡ ltb x (scan' (x / P))
    done' x l m = elim (cases_eq (x / P) n) [
      | inl e ↦ rw (upd_at scan n (x / P) r.1 e) (here x l m e)
      | inr ne ↦ rw (upd_other scan n (x / P) r.1 ne) (o.rest x (elsewhere x ne) ∙ sc.done x l m)
    ]
      where
        here : (x : ℕ) → F.start ≤ x → x < g.limit → x / P ≡ n → o.pair.done x ≡ ltb x r.1
        here x l m e = elim (cases_lt x r.1) [
          | inl k ↦ elim (cases_lt x (scan n)) [
            | inl j ↦ o.rest x (inl j) ∙ sc.done x l m ∙ ap (λ k. ltb x (scan k)) e ∙ lt-ltb x (scan n) j ∙ sym (lt-ltb x r.1 k)
            | inr j ↦ o.done x j k ∙ sym (lt-ltb x r.1 k)
          ]
          | inr k ↦ (let hi = bounds in o.rest x (inr k) ∙ sc.done x l m ∙ ap (λ k. ltb x (scan k)) e ∙ le-ltb x (scan n) (omega arith) ∙ sym (le-ltb x r.1 k))
        ]

    at_top : r.1 < n * P + P → r.1 ≡ r.0.top
    at_top h = omega (arith, en, o.in_top, o.rises)

    grown : (x : ℕ) → Whole L F A s g x → Whole L F A (grant r.0 n 2) o.pair x
    grown x w = let v = whole_grows L F A s r.0 g o.pair inv o.inv o.grows o.rises x w in record { in_top = v.in_top; clear = v.clear }

    bound' : (k : ℕ) → k * P < scan' k → scan' k < k * P + P → F.start ≤ k * P → Whole L F A (grant r.0 n 2) o.pair (scan' k)
    bound' k d f t = elim (cases_eq k n) [
      | inl e ↦ (
          let z = upd_at scan n k r.1 e in
          let e₂ : k * P ≡ n * P = ap (λ q. q * P) e in
          let tp = at_top (omega arith) in
          rw (z, tp) (record { in_top = le_refl _; clear = λ q l m. inl (o.inv.within q l m).1 }))
      | inr ne ↦ (
          let z = upd_other scan n k r.1 ne in
          rw z (grown (scan k) (sc.bound k (rw z at d) (rw z at f) t)))
    ]

    low' : (k : ℕ) → k * P ≤ scan' k
    low' k = elim (cases_eq k n) [
      | inl e ↦ (let e₂ : k * P ≡ n * P = ap (λ q. q * P) e in omega (arith, upd_at scan n k r.1 e, bounds))
      | inr ne ↦ omega (arith, upd_other scan n k r.1 ne, sc.low k)
    ]

    high' : (k : ℕ) → scan' k ≤ k * P + P
    high' k = elim (cases_eq k n) [
      | inl e ↦ (let e₂ : k * P ≡ n * P = ap (λ q. q * P) e in omega (arith, upd_at scan n k r.1 e, bounds))
      | inr ne ↦ omega (arith, upd_other scan n k r.1 ne, sc.high k)
    ]

    tops' : (k : ℕ) → scan' k ≤ max (k * P) r.0.top
    tops' k = elim (cases_eq k n) [
      | inl e ↦ omega (arith, upd_at scan n k r.1 e, o.in_top, o.rises)
      | inr ne ↦ omega (arith, upd_other scan n k r.1 ne, sc.tops k, o.rises)
    ]

    -- every copied word of the page is scanned
    page_done : (x : ℕ) → F.start ≤ x → x < r.0.top → x / P ≡ n → o.pair.done x ≡ true
    page_done x l m e =
        let p = in_page x e in
        let li : x < g.limit = omega (arith, o.inv.limits, o.grows.limit) in
        done' x l li ∙ ap (ltb x) (upd_at scan n (x / P) r.1 e) ∙ lt-ltb x r.1 (omega (arith, en))

    side' : LooseSide L P F A (grant r.0 n 2) o.pair
    side' = let d = o.side side in record {
      opens = λ x l m h. elim (cases_eq (x / P) n) [
        | inl e ↦ page_done x l m e
        | inr ne ↦ d.opens x l m (λ z. h (upd_other r.0.right n (x / P) 2 ne ∙ z))
      ];
      cross = d.cross;
    }

    paged : Paged L P F A s g scan n r
    paged = record {
      pair = o.pair;
      inv = grant_inv L F A r.0 o.pair n 2 o.inv;
      grows = o.grows;
      side = side';
      scans = record { low = low'; high = high'; tops = tops'; done = λ x l m. done' x l (rw o.grows.limit at m); bound = bound' };
      rises = o.rises;
      all = en;
      on = o.on;
    }

  pub page_keeps : scan n < s.top → scan n < n * P + P → Paged L P F A s g scan n (ran_page L P s scan n)
  page_keeps b c =
      let o = ran b c in
      let lo = sc.low n in
      paged (ran_page L P s scan n) b c o.0 (o.1 (omega arith))
