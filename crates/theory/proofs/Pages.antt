-- Scanning a page.
use Rattle.std.proofs.Common.{◌≡◌, ℕ, zero, suc, ◌+◌, ◌-◌, ◌<◌, ◌≤◌, min, max, true, false, ◌≢◌, ◌⊎◌, sym, refl, ap, ◌∙◌, inl, inr, le_refl, arith}
use Rattle.std.proofs.lemmas.Bool.{cases_eq, cases_lt, eq-eqb, ne_eqb, lt-ltb, le-ltb}
use Rattle.theory.specs.Model.{Layout}
use Rattle.theory.specs.Collect.{Laws, Heap, Flip, size, FlipOk, St, Pair, LooseInv, LooseSide, Grows, scan_at, closed_head_at, scan_run}
use Rattle.theory.proofs.Basics.{upd_other, upd_at, or_le}
use Rattle.theory.proofs.Forward.{grows_refl, grows_trans}
use Rattle.theory.proofs.Scan.{Scanned, scan_keeps, scan_head}

-- the object that has the word at a, or ends there, begins at hd
pub record Points (L : Layout) (F : Flip) (A : Heap) (g : Pair) (hd a : ℕ) : Type 0 where
  pub place : ℕ
  pub live : g.live place ≡ true
  pub old : place < F.old.many
  pub head : hd ≡ g.to place
  pub from : g.to place ≤ a
  pub to : a ≤ g.to place + size L A place

-- what holds after the words from a up to r.1 are scanned
pub record Ran (L : Layout) (P : ℕ) (F : Flip) (A : Heap) (s : St) (g : Pair) (e a : ℕ) (r : St × ℕ) : Type 0 where
  pub pair : Pair
  pub inv : LooseInv L F A r.0 pair
  pub grows : Grows g pair
  pub side : LooseSide L P F A s g → LooseSide L P F A r.0 pair
  pub rises : s.top ≤ r.0.top
  pub on : a ≤ r.1
  pub in_top : (r.1 ≡ a) ⊎ (r.1 ≤ r.0.top)
  pub done : (x : ℕ) → a ≤ x → x < r.1 → pair.done x ≡ true
  pub rest : (x : ℕ) → (x < a) ⊎ (r.1 ≤ x) → pair.done x ≡ g.done x
  pub within : r.1 ≤ max a e

module _ (L : Layout) (laws : Laws L) (P : ℕ) (F : Flip) (ok : FlipOk L F) (A : Heap) where
  module _ (s : St) (g : Pair) (inv : LooseInv L F A s g) where
    -- the header of the word at a, found from that of the word before
    pub found : (hd a : ℕ) → F.start ≤ a → a < s.top → Points L F A g hd a → (q : ℕ) × (g.live q ≡ true) × (q < F.old.many) × (closed_head_at L s hd a ≡ g.to q) × (g.to q ≤ a) × (a < g.to q + size L A q)
    found hd a l b p =
        let q = p.place in
        let hq : s.mem hd ≡ A.hdr q = ap s.mem p.head ∙ inv.head q p.live in
        let z : L.slots (s.mem hd) ≡ L.slots (A.hdr q) = ap L.slots hq in
        elim (cases_eq a (hd + suc (L.slots (s.mem hd)))) [
          | inl e ↦ (
              let c = inv.cover a l b in
              let ne : c.0 ≢ q = λ t. (let u : g.to c.0 ≡ g.to q = ap g.to t in let v : size L A c.0 ≡ size L A q = ap (size L A) t in omega (arith, c.3, c.4, p.head)) in
              let cl = inv.apart c.0 q c.1 p.live ne in
              let hh : closed_head_at L s hd a ≡ a = rw (eq-eqb a (hd + suc (L.slots (s.mem hd))) e) in
              (c.0, c.1, c.2, omega (arith, c.3, c.4, p.head, p.from), c.3, c.4))
          | inr ne ↦ (
              let hh : closed_head_at L s hd a ≡ hd = rw (ne_eqb a (hd + suc (L.slots (s.mem hd))) ne) in
              (q, p.live, p.old, hh ∙ p.head, p.from, omega (arith, p.to, p.head)))
        ]

    module _ (room : F.start + F.used ≤ g.limit) where
      -- the word at a, of the object of q
      pub scan_one : (hd a q : ℕ) → g.live q ≡ true → q < F.old.many → hd ≡ g.to q → g.to q ≤ a → a < g.to q + size L A q → g.done a ≡ false → Scanned L P F A s g a (scan_at L P s hd a)
      scan_one hd a q l m e f t u = elim (cases_eq a hd) [
        | inl k ↦ rw (eq-eqb a hd k, k, e) (scan_head L F ok A s g inv P q l m)
        | inr ne ↦ (
            let hh : s.mem hd ≡ A.hdr q = ap s.mem e ∙ inv.head q l in
            let ea : g.to q + suc (a - suc hd) ≡ a = omega arith in
            let u₂ : g.done (g.to q + suc (a - suc hd)) ≡ false = rw ea u in
            rw (ne_eqb a hd ne, hh) (rw ea at (scan_keeps L laws P F ok A s g inv room q (a - suc hd) l m (omega arith) u₂)))
      ]

  -- one word, and then the others
  run_step : (s : St) (g : Pair) (e a : ℕ) (s₁ : St) (r : St × ℕ) → a < s.top → a < e → (sc : Scanned L P F A s g a s₁) → Ran L P F A s₁ sc.pair e (suc a) r → Ran L P F A s g e a r
  run_step s g e a s₁ r b be sc o = record {
    pair = o.pair;
    inv = o.inv;
    grows = grows_trans g sc.pair o.pair sc.grows o.grows;
    side = λ x. o.side (sc.side x);
    rises = omega (arith, sc.rises, o.rises);
    on = omega (arith, o.on);
    in_top = inr (omega (arith, o.in_top, o.rises, sc.rises));
    done = λ x l m. elim (cases_eq x a) [
      | inl t ↦ o.rest x (inl (omega arith)) ∙ ap (λ d. d x) sc.done ∙ upd_at g.done a x true t
      | inr ne ↦ o.done x (omega arith) m
    ];
    within = omega (arith, o.within);
    rest = λ x h. o.rest x (or_le _ _ _ _ (omega arith)) ∙ ap (λ d. d x) sc.done ∙ upd_other g.done a x true (omega (arith, o.on));
  }

  run_none : (s : St) (g : Pair) (e a : ℕ) → LooseInv L F A s g → Ran L P F A s g e a (s, a)
  run_none s g e a inv = record { pair = g; inv = inv; grows = grows_refl g; side = λ x. x; rises = le_refl _; on = le_refl _; in_top = inl refl; done = λ x l m. absurd (omega arith); rest = λ x h. refl; within = omega arith }

  -- that a run of at most k words up to e keeps all
  abbrev Keeps : ℕ → ℕ → Type 0
  Keeps k e = (s : St) (g : Pair) (hd a : ℕ) → LooseInv L F A s g → F.start + F.used ≤ g.limit → F.start ≤ a → (a < s.top → Points L F A g hd a) → ((x : ℕ) → a ≤ x → x < e → x < g.limit → g.done x ≡ false) → Ran L P F A s g e a (scan_run L P e k s hd a) × (e ≤ a + k → min e (scan_run L P e k s hd a).0.top ≤ (scan_run L P e k s hd a).1)

  pub points_on : (s : St) (g : Pair) (hd a q : ℕ) (s₁ : St) (sc : Scanned L P F A s g a s₁) → g.live q ≡ true → q < F.old.many → hd ≡ g.to q → g.to q ≤ a → a < g.to q + size L A q → Points L F A sc.pair hd (suc a)
  points_on s g hd a q s₁ sc l m e f t =
      let u = sc.grows.to q l in
      record { place = q; live = sc.grows.live q l; old = m; head = e ∙ sym u; from = omega arith; to = omega arith }

  pub unscanned_on : (s : St) (g : Pair) (a e : ℕ) (s₁ : St) (sc : Scanned L P F A s g a s₁) → ((x : ℕ) → a ≤ x → x < e → x < g.limit → g.done x ≡ false) → (x : ℕ) → suc a ≤ x → x < e → x < sc.pair.limit → sc.pair.done x ≡ false
  unscanned_on s g a e s₁ sc un x c d m = ap (λ z. z x) sc.done ∙ upd_other g.done a x true (omega arith) ∙ un x (omega arith) d (rw sc.grows.limit at m)

  run_more : (k e : ℕ) → Keeps k e → (s : St) (g : Pair) (hd a q : ℕ) (s₁ : St) (sc : Scanned L P F A s g a s₁) → F.start + F.used ≤ g.limit → F.start ≤ a → a < s.top → a < e → g.live q ≡ true → q < F.old.many → hd ≡ g.to q → g.to q ≤ a → a < g.to q + size L A q → ((x : ℕ) → a ≤ x → x < e → x < g.limit → g.done x ≡ false) → Ran L P F A s g e a (scan_run L P e k s₁ hd (suc a)) × (e ≤ suc a + k → min e (scan_run L P e k s₁ hd (suc a)).0.top ≤ (scan_run L P e k s₁ hd (suc a)).1)
  run_more k e ih s g hd a q s₁ sc room l b be lq m eq f t un =
      let o = ih s₁ sc.pair hd (suc a) sc.inv (rw sc.grows.limit room) (omega arith) (λ z. points_on s g hd a q s₁ sc lq m eq f t) (unscanned_on s g a e s₁ sc un) in
      (run_step s g e a s₁ (scan_run L P e k s₁ hd (suc a)) b be sc o.0, o.1)

  run_yes : (k e : ℕ) → Keeps k e → (s : St) (g : Pair) (hd a : ℕ) → (inv : LooseInv L F A s g) → F.start + F.used ≤ g.limit → F.start ≤ a → (a < s.top → Points L F A g hd a) → ((x : ℕ) → a ≤ x → x < e → x < g.limit → g.done x ≡ false) → a < e → a < s.top →
      Ran L P F A s g e a (scan_run L P e k (scan_at L P s (closed_head_at L s hd a) a) (closed_head_at L s hd a) (suc a)) × (e ≤ suc a + k → min e (scan_run L P e k (scan_at L P s (closed_head_at L s hd a) a) (closed_head_at L s hd a) (suc a)).0.top ≤ (scan_run L P e k (scan_at L P s (closed_head_at L s hd a) a) (closed_head_at L s hd a) (suc a)).1)
  run_yes k e ih s g hd a inv room l pt un ae at =
      let f = found s g inv hd a l at (pt at) in
      run_more k e ih s g (closed_head_at L s hd a) a f.0 (scan_at L P s (closed_head_at L s hd a) a) (scan_one s g inv room (closed_head_at L s hd a) a f.0 f.1 f.2 f.3 f.4 f.5 (un a (le_refl _) ae (omega (arith, inv.limits)))) room l at ae f.1 f.2 f.3 f.4 f.5 un

  run_next : (k e : ℕ) → Keeps k e → Keeps (suc k) e
  run_next k e ih s g hd a inv room l pt un = elim (cases_lt a (min e s.top)) [
    | inl b ↦ (let o = run_yes k e ih s g hd a inv room l pt un (omega arith) (omega arith) in rw (lt-ltb a (min e s.top) b) (o.0, λ h. o.1 (omega arith)))
    | inr b ↦ rw (le-ltb a (min e s.top) b) (run_none s g e a inv, λ h. b)
  ]

  pub run_keeps : (k e : ℕ) → Keeps k e
  run_keeps zero e = λ s g hd a inv room l pt un. (run_none s g e a inv, λ h. omega arith)
  run_keeps (suc k) e = run_next k e (run_keeps k e)
