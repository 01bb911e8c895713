-- FLIP on the moving heap is FLIP on its closed form.
use Rattle.std.proofs.Common.{◌≡◌, ℕ, suc, ◌+◌, ◌-◌, ◌*◌, ◌/◌, ◌%◌, ◌<◌, ◌≤◌, Bool, true, false, cond, ◌&&◌, ltb, leb, ◌⊎◌, sym, refl, ap, ◌∙◌, subst, ap₂, inl, inr, le_refl, mul-le-mul_right, mul_assoc, le_of_mul-le-mul_right, arith}
use Rattle.std.proofs.lemmas.Bool.{cases_lt, lt-ltb, le-ltb}
use Rattle.std.proofs.lemmas.Bool.Decides.{nat_tests}
use Rattle.memory.specs.Rights.{rank, lesser}
use Rattle.memory.specs.Memory.{Memory, legal_sizes, lowered_run, after_protn}
use Rattle.memory.specs.declared.rights.Right.{Right}
use Rattle.layouts.specs.Layouts.{Rules, Lawful}
use Rattle.layouts.specs.declared.values.Value.{Value}
use Rattle.model.specs.declared.states.Half.{Half}
use Rattle.model.specs.declared.states.Half.TheVariants.{Lower, Upper}
use Rattle.model.specs.declared.states.Phase.TheVariants.{Idle, Collecting}
use Rattle.model.specs.declared.calls.Call.TheVariants.{Flip}
use Rattle.model.specs.Heap.{Heap as MovingHeap, plus, half_number, other_half, half_pages, first_page, to_page, whole_pages}
use Rattle.model.specs.Forwarding.{Roots, roots_forwarded}
use Rattle.model.specs.Collecting.{opened, words_used, flipped_memory, swapped, roots_of, flipped}
use Rattle.model.specs.Outcomes.{Machine, with_heap}
use Rattle.model.specs.Calls.{carried_out}
use Rattle.theory.specs.Model.{Layout}
use Rattle.theory.specs.Collect.{Flip as Flipping, FlipOk, St, Pair, LooseInv, forward_regs}
use Rattle.theory.specs.Machine.{Shape, half, whole, Machine as Closed, Never as ClosedNeverMoving}
use Rattle.theory.specs.Steps.{act, used_now, swapped as closed_swapped, turned}
use Rattle.theory.specs.Closed.{closed_layout, both_halves, closed_shape, closed_moving, closed_words, closed}
use Rattle.theory.proofs.Basics.{whole_covers, whole_fits, halves_apart, half_within, or_le}
use Rattle.theory.proofs.World.{World, Body}
use Rattle.theory.proofs.Sim.{body_idle}
use Rattle.theory.proofs.BodyScan.{F₂, g₂, ok₂, used₂, inv₂, inside₂}
use Rattle.theory.proofs.ClosedLaws.{closed_laws, size_positive, size_few}
use Rattle.theory.proofs.ClosedKept.{Kept, kept_trans, kept_protn, kept_opened, kept_roots}
use Rattle.theory.proofs.ClosedRights.{lowers, raised_run, opened_as, protn_as}
use Rattle.theory.proofs.ClosedRoots.{roots_as}
use Rattle.theory.proofs.ClosedMutators.{Meets, ends_inside}

-- Rights

flipped_as : (m : Memory) (old new n : ℕ) → old + half_pages m ≤ m.page_count → new + half_pages m ≤ m.page_count → n ≤ half_pages m →
    flipped_memory m old new n ≡ raised_run (lowered_run (lowered_run m old (half_pages m) Right.None) new n Right.None) (new + n) (half_pages m - n)
flipped_as m old new n lo ln k =
    ap (λ z. opened (half_pages m - n) (after_protn z new n Right.None) (new + n)) (protn_as m old (half_pages m) Right.None lo)
    ∙ ap (λ z. opened (half_pages m - n) z (new + n)) (protn_as (lowered_run m old (half_pages m) Right.None) new n Right.None (omega arith))
    ∙ opened_as (half_pages m - n) (lowered_run (lowered_run m old (half_pages m) Right.None) new n Right.None) (new + n) (omega arith)

-- a page's right once the halves are swapped
abbrev old_right : Right → ℕ → ℕ → ℕ → Right
old_right r K old q = cond (leb old q && ltb q (old + K)) (lesser r Right.None) r

old_lowered : (r : Right) (K new old q : ℕ) → ((q < new) ⊎ (new + K ≤ q) → (q < old) ⊎ (old + K ≤ q) → rank r ≡ 0) → (q < new) ⊎ (new + K ≤ q) → rank (old_right r K old q) ≡ 0
old_lowered r K new old q h o = elim (cases_lt q old) [
  | inl a ↦ (let z = h o (inl a) in grind (arith, nat_tests))
  | inr a ↦ elim (cases_lt q (old + K)) [
    | inl b ↦ (let z = lowers r in grind (arith, nat_tests))
    | inr b ↦ (let z = h o (inr b) in grind (arith, nat_tests))
  ]
]

right_flipped : (r : Right) (K n new old q : ℕ) → n ≤ K → ((q < new) ⊎ (new + K ≤ q) → (q < old) ⊎ (old + K ≤ q) → rank r ≡ 0) →
    rank (cond (leb (new + n) q && ltb q (new + n + (K - n))) Right.All (cond (leb new q && ltb q (new + n)) (lesser (old_right r K old q) Right.None) (old_right r K old q))) ≡ cond (leb new q && ltb q (new + K)) (cond (ltb q (new + n)) 0 2) 0
right_flipped r K n new old q l h = by (old_right r K old q) (old_lowered r K new old q h)
  where
    by : (x : Right) → ((q < new) ⊎ (new + K ≤ q) → rank x ≡ 0) → rank (cond (leb (new + n) q && ltb q (new + n + (K - n))) Right.All (cond (leb new q && ltb q (new + n)) (lesser x Right.None) x)) ≡ cond (leb new q && ltb q (new + K)) (cond (ltb q (new + n)) 0 2) 0
    by x f = elim (cases_lt q new) [
      | inl a ↦ (let z = f (inl a) in grind (arith, nat_tests))
      | inr a ↦ elim (cases_lt q (new + n)) [
        | inl b ↦ (let z = lowers x in grind (arith, nat_tests))
        | inr b ↦ elim (cases_lt q (new + K)) [
          | inl d ↦ grind (arith, nat_tests)
          | inr d ↦ (let z = f (inr d) in grind (arith, nat_tests))
        ]
      ]
    ]

-- Halves

pub other_number : (s : Half) → half_number (other_half s) ≡ 1 - half_number s
other_number Lower = refl
other_number Upper = refl

-- a page of no half lies past both
past_halves : (s : Half) (K q : ℕ) → (q < half_number (other_half s) * K) ⊎ (half_number (other_half s) * K + K ≤ q) → (q < half_number s * K) ⊎ (half_number s * K + K ≤ q) → K + K ≤ q
past_halves Lower K q a b = omega arith
past_halves Upper K q a b = omega arith

half_fits : (s : Half) (K count : ℕ) → K + K ≤ count → half_number s * K + K ≤ count
half_fits Lower K count l = omega arith
half_fits Upper K count l = omega arith

pub ltb_scaled : (q k P : ℕ) → 0 < P → ltb (q * P) (k * P) ≡ ltb q k
ltb_scaled q k P pos = elim (cases_lt q k) [
  | inl l ↦ (
      let s : suc q * P ≤ k * P = mul-le-mul_right P l in
      lt-ltb (q * P) (k * P) (omega arith) ∙ sym (lt-ltb q k l))
  | inr l ↦ le-ltb (q * P) (k * P) (mul-le-mul_right P l) ∙ sym (le-ltb q k l)
]

module _ (L : Rules) (lawful : Lawful L) (x : Machine) (small : both_halves x.heap.memory.page_count x.heap.memory.page_size ≤ 16384) (legal : legal_sizes x.heap.memory.page_count x.heap.memory.page_size ≡ true)
    (even : x.heap.memory.page_count % 2 ≡ 0) (past : (p : ℕ) → x.heap.memory.page_count ≤ p → rank (x.heap.memory.right p) ≡ 0)
    (F : Flipping) (a : ClosedNeverMoving) (w : World (closed_shape L x.heap.memory.page_count x.heap.memory.page_size small) F (closed x) a) (idle : x.heap.phase ≡ Idle) where
  abbrev h : MovingHeap
  h = x.heap

  abbrev m : Memory
  m = x.heap.memory

  abbrev P : ℕ
  P = m.page_size

  abbrev K : ℕ
  K = half_pages m

  abbrev H : Shape
  H = closed_shape L m.page_count m.page_size small

  abbrev c : Closed
  c = closed x

  abbrev lay : Layout
  lay = closed_layout L

  pos : 0 < P
  pos = size_positive m.page_count m.page_size legal

  b : Body H F c.st c.scan c.side c.used c.reg Idle a.heap a.reg a.l a.n a.u
  b = body_idle H (closed_laws L lawful) pos F c a w idle

  abbrev U : ℕ
  U = used_now H c

  used_is : U ≡ a.l + a.n
  used_is = omega (arith, b.phased.words, b.low, b.last, b.start, b.inv.limits)

  used_fits : U ≤ half H
  used_fits = omega (arith, b.phased.words, b.low, b.last, b.start, b.inv.limits)

  used_as : words_used h ≡ U
  used_as = let f = used_fits in let s = H.small in omega arith

  -- the whole pages of the words in use
  abbrev n : ℕ
  n = (U + (P - 1)) / P

  few : n ≤ K
  few = le_of_mul-le-mul_right (whole_fits P U K pos used_fits) pos

  pages_as : whole_pages m (words_used h) ≡ n
  pages_as =
      let f = used_fits in
      let s = H.small in
      let k = few in
      let e : plus U (P - 1) ≡ U + (P - 1) = (let o = size_few m.page_count P legal in omega arith) in
      rw (used_as, e) (omega arith)

  both_fit : K + K ≤ m.page_count
  both_fit = omega arith

  -- the memory

  abbrev new : ℕ
  new = first_page m (other_half h.half)

  memory_as : (swapped h).memory ≡ raised_run (lowered_run (lowered_run m (to_page h) K Right.None) new n Right.None) (new + n) (K - n)
  memory_as =
      ap (flipped_memory m (to_page h) new) pages_as ∙ flipped_as m (to_page h) new n (half_fits h.half K m.page_count both_fit) (half_fits (other_half h.half) K m.page_count both_fit) few

  kept_swapped : Kept m (swapped h).memory
  kept_swapped = kept_trans m _ _ (kept_protn m (to_page h) K Right.None) (kept_trans _ _ _ (kept_protn _ new (whole_pages m (words_used h)) Right.None) (kept_opened (K - whole_pages m (words_used h)) _ (new + whole_pages m (words_used h))))

  scaled : (q : ℕ) → ltb q (new + n) ≡ ltb (q * P) ((1 - c.side) * half H + whole P U)
  scaled q =
      let e : (new + n) * P ≡ (1 - c.side) * half H + whole P U = (let o = ap (λ z. z * K * P) (other_number h.half) in let ma = mul_assoc (1 - c.side) K P in omega arith) in
      sym (ltb_scaled q (new + n) P pos) ∙ ap (ltb (q * P)) e

  rights_as : (q : ℕ) → rank ((swapped h).memory.right q) ≡ (closed_swapped H c).right q
  rights_as q =
      ap (λ z. rank (z.right q)) memory_as
      ∙ right_flipped (m.right q) K n new (to_page h) q few (λ o r. past q (omega (arith, past_halves h.half K q o r)))
      ∙ ap₂ (λ z t. cond (leb (z * K) q && ltb q (z * K + K)) (cond t 0 2) 0) (other_number h.half) (scaled q)

  swapped_as : closed_words (swapped h) ≡ closed_swapped H c
  swapped_as = λ i. record {
    mem = (memory_as i).word;
    top = other_number h.half i * (K * P);
    low = other_number h.half i * (K * P) + K * P;
    right = λ q. rights_as q i;
    cross = h.space.crossing;
  }

  -- the registers

  abbrev start : ℕ
  start = (1 - c.side) * half H

  last_fits : start + half H ≤ 16384
  last_fits = half_within (1 - c.side) (half H) (omega (arith, b.which)) H.small

  apart : (F.last ≤ start) ⊎ (start + half H ≤ F.start)
  apart = or_le _ _ _ _ (omega (arith, halves_apart c.side (half H) b.which, b.last, b.start))

  limit_fits : start + whole P U ≤ start + half H
  limit_fits = omega (arith, whole_fits P U K pos used_fits)

  covered : U ≤ whole P U
  covered = whole_covers P U pos

  abbrev G : Flipping
  G = F₂ H (closed_laws L lawful) pos F c.st c.scan c.side c.used c.reg a.heap a.reg a.l a.n a.u b start (start + half H) U last_fits apart used_is limit_fits covered

  abbrev g : Pair
  g = g₂ H (closed_laws L lawful) pos F c.st c.scan c.side c.used c.reg a.heap a.reg a.l a.n a.u b start (start + half H) U last_fits apart used_is limit_fits covered

  found_ok : FlipOk lay G
  found_ok = ok₂ H (closed_laws L lawful) pos F c.st c.scan c.side c.used c.reg a.heap a.reg a.l a.n a.u b start (start + half H) U last_fits apart used_is limit_fits covered

  found_inside : (p : ℕ) → G.here p ≡ true → G.addr p < both_halves m.page_count P
  found_inside = inside₂ H (closed_laws L lawful) pos F c.st c.scan c.side c.used c.reg a.heap a.reg a.l a.n a.u b start (start + half H) U last_fits apart used_is limit_fits covered

  inv : LooseInv lay G a.heap (closed_swapped H c) g
  inv = inv₂ H (closed_laws L lawful) pos F c.st c.scan c.side c.used c.reg a.heap a.reg a.l a.n a.u b start (start + half H) U last_fits apart used_is limit_fits covered (closed_swapped H c).right h.space.crossing

  room : G.start + G.used ≤ g.limit
  room = omega (arith, covered, used₂ H (closed_laws L lawful) pos F c.st c.scan c.side c.used c.reg a.heap a.reg a.l a.n a.u b start (start + half H) U last_fits apart used_is limit_fits covered)

  abbrev roots : Roots
  roots = roots_forwarded L (roots_of (swapped h)) 32

  roots_same : ◌≡◌ {A = St × (ℕ → Value)} (closed_moving roots.moving (swapped h).new_start, roots.register) (forward_regs lay P (closed_swapped H c) h.register 32)
  roots_same =
      roots_as L lawful m.page_count P legal G found_ok found_inside (omega (arith, ends_inside m.page_count P (1 - c.side) (omega (arith, b.which)))) a.heap
      (roots_of (swapped h)) (swapped h).new_start g (subst (λ s. LooseInv lay G a.heap s g) (sym swapped_as) inv) room (λ j l. (b.regs j l).0) kept_swapped.page_size kept_swapped.page_count 32 (le_refl _)
      ∙ ap (λ s. forward_regs lay P s h.register 32) swapped_as

  -- FLIP

  kept_flipped : Kept m (flipped L h).memory
  kept_flipped = kept_trans m (swapped h).memory _ kept_swapped (kept_roots L (roots_of (swapped h)) 32)

  scan_as : (p size : ℕ) → size ≡ P → cond (ltb p 64) (cond (ltb p 64) (p * P) 0) (p * size) ≡ p * P
  scan_as p size e = by (ltb p 64)
    where
      by : (t : Bool) → cond t (cond t (p * P) 0) (p * size) ≡ p * P
      by true = refl
      by false = ap (λ z. p * z) e

  left_as : closed (with_heap x (flipped L h)) ≡ turned H c
  left_as = λ i. record {
    st = (roots_same i).0;
    scan = λ p. scan_as p (flipped L h).memory.page_size kept_flipped.page_size i;
    pend = h.unsaved;
    side = other_number h.half i;
    used = used_as i;
    reg = (roots_same i).1;
    mut = h.state;
    phase = Collecting;
    count = h.traps;
    buf = x.buffer;
    mark = h.mark_start;
  }

  pub meets_flip : Meets x (carried_out L x Flip) (act H c Flip)
  meets_flip = record {
    left = left_as;
    answer = refl;
    told_same = refl;
    kept = kept_flipped;
    copied_same = λ i. (roots_same i).0.top - other_number h.half i * (K * P);
    scanned_same = refl;
  }
