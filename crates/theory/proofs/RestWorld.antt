-- A heap at rest that no FLIP came before, paired with the never-moving one: its copied objects are taken as those that a FLIP
-- found and copied, one register for each.
use Rattle.std.proofs.Common.{◌≡◌, ℕ, suc, ◌+◌, ◌-◌, ◌*◌, ◌<◌, ◌≤◌, true, ltb, ◌≢◌, refl, arith}
use Rattle.std.proofs.lemmas.Bool.{both_ways, true≢false, lt-ltb, ltb-true}
use Rattle.layouts.specs.declared.values.Value.{Value}
use Rattle.layouts.specs.declared.values.Value.TheVariants.{Nil, Number, Reference}
use Rattle.model.specs.declared.states.Phase.TheVariants.{Idle}
use Rattle.theory.specs.Model.{map_v, Layout, sum_to, weight}
use Rattle.theory.specs.Collect.{Laws, Heap, Flip, size, Reached.root, Clear, FlipOk, St, Pair, Alive, LooseInv}
use Rattle.theory.specs.Machine.{Shape, half}
use Rattle.theory.proofs.Basics.{sum_same, or_le, nil≢ref, num≢ref, ref_inj, halves_apart, half_within, twice}
use Rattle.theory.proofs.Scan.{admits_map_v, reached_here}
use Rattle.theory.proofs.World.{Body}

-- The objects of a heap at rest: the places below n are those of copied objects, the others of new ones; to p is the address of
-- the object of place p. They make up the words from start to top and from low to last.
pub record Objects (L : Layout) (mem : ℕ → ℕ) (A : Heap) (n : ℕ) (to : ℕ → ℕ) (start top low last : ℕ) : Type 0 where
  pub many : n ≤ A.many
  pub bounds : (start ≤ top) × (top ≤ low) × (low ≤ last)
  pub head : (p : ℕ) → p < A.many → mem (to p) ≡ A.hdr p
  pub valid : (p : ℕ) → p < A.many → L.head (A.hdr p) ≡ true
  pub within : (p : ℕ) → p < n → (start ≤ to p) × (to p + size L A p ≤ top)
  pub beyond : (p : ℕ) → p < A.many → n ≤ p → (low ≤ to p) × (to p + size L A p ≤ last)
  pub apart : (p q : ℕ) → p < A.many → q < A.many → p ≢ q → Clear (to p) (size L A p) (to q) (size L A q)
  pub cover : (x : ℕ) → start ≤ x → x < top → (p : ℕ) × (p < n) × (to p ≤ x) × (x < to p + size L A p)
  pub cover_new : (x : ℕ) → low ≤ x → x < last → (p : ℕ) × (p < A.many) × (n ≤ p) × (to p ≤ x) × (x < to p + size L A p)
  pub sum : start + sum_to n (size L A) ≡ top
  pub sum_all : sum_to A.many (size L A) + start + low ≡ top + last
  pub fits : (p i : ℕ) → p < A.many → i < L.slots (A.hdr p) → L.admits (A.hdr p) i (A.val p i) ≡ true
  pub slot : (p i : ℕ) → p < A.many → i < L.slots (A.hdr p) → (mem (to p + suc i) ≡ L.pack (A.hdr p) i (map_v to (A.val p i))) × Alive (λ q. ltb q A.many) (A.val p i)

-- a value whose reference is p's own
own_ref : (v : Value) (p q : ℕ) → map_v (λ z. p) v ≡ Reference q → p ≡ q
own_ref Nil p q e = absurd (nil≢ref q e)
own_ref (Number n) p q e = absurd (num≢ref n q e)
own_ref (Reference z) p q e = ref_inj (Reference p) p q refl e

module _ (H : Shape) (laws : Laws H.lay) (sd : ℕ) (which : sd ≤ 1) (st : St) (A : Heap) (n : ℕ) (to : ℕ → ℕ)
    (o : Objects H.lay st.mem A n to (sd * half H) st.top st.low (sd * half H + half H)) where
  abbrev L : Layout
  L = H.lay

  abbrev start : ℕ
  start = sd * half H

  abbrev last : ℕ
  last = sd * half H + half H

  -- the other half
  abbrev other : ℕ
  other = (1 - sd) * half H

  -- each copied object found at the same distance from the other half's start, and with its own references to itself.
  -- No copy has room.
  abbrev pub F : Flip
  F = record {
    old = record { many = n; hdr = A.hdr; val = λ p i. map_v (λ q. p) (A.val p i) };
    here = λ p. ltb p n;
    addr = λ p. other + (to p - start);
    start = start;
    last = last;
    used = suc (half H);
    regs = n;
    reg = λ k. Reference k;
  }

  abbrev pub g : Pair
  g = record { live = λ p. ltb p A.many; to = to; done = λ x. true; limit = st.top }

  in_old : (p : ℕ) → ltb p n ≡ true → p < n
  in_old p t = ltb-true p n t

  in_all : (p : ℕ) → ltb p A.many ≡ true → p < A.many
  in_all p t = ltb-true p A.many t

  old_live : (p : ℕ) → p < n → ltb p A.many ≡ true
  old_live p l = lt-ltb p A.many (omega (arith, o.many))

  ok : FlipOk L F
  ok = record {
    below = in_old;
    heads = λ p h. o.valid p (omega (arith, in_old p h, o.many));
    closed = λ p i q h l e. lt-ltb q n (omega (arith, own_ref (A.val p i) p q e, in_old p h));
    fits = λ p i h l. admits_map_v L laws (A.hdr p) i (λ q. p) (A.val p i) (o.fits p i (omega (arith, in_old p h, o.many)) l);
    apart = λ p q h k ne.
        let wp = o.within p (in_old p h) in
        let wq = o.within q (in_old q k) in
        let c = o.apart p q (omega (arith, in_old p h, o.many)) (omega (arith, in_old q k, o.many)) ne in
        or_le _ _ _ _ (omega arith);
    outside = λ p h. let w = o.within p (in_old p h) in let c = halves_apart sd (half H) which in or_le _ _ _ _ (omega (arith, o.bounds));
    total = let e = sum_same (weight (size L A) (λ p. ltb p n)) (size L A) n (λ p l. rw (lt-ltb p n l)) in omega (arith, o.sum, o.bounds);
    roots = λ k p l e. lt-ltb p n (omega (arith, ref_inj (Reference k) k p refl e));
    near = λ p h. omega (arith, o.within p (in_old p h), o.bounds, half_within (1 - sd) (half H) (omega arith) H.small);
    small = half_within sd (half H) which H.small;
  }

  inv : LooseInv L F A st g
  inv = record {
    many = o.many;
    heads = λ p l. refl;
    below = in_all;
    came = λ p t l. (lt-ltb p n l, root p l refl);
    news = λ p l k. lt-ltb p A.many k;
    valid = λ p t. o.valid p (in_all p t);
    fits = λ p i t l. o.fits p i (in_all p t) l;
    limits = omega (arith, o.bounds);
    total = let e = sum_same (weight (size L A) (λ p. ltb p A.many)) (size L A) A.many (λ p l. rw (lt-ltb p A.many l)) in omega (arith, o.sum_all);
    ends = let e = sum_same (weight (size L A) (λ p. ltb p A.many)) (size L A) n (λ p l. rw (old_live p l)) in omega (arith, o.sum);
    within = λ p t l. o.within p l;
    beyond = λ p t l. o.beyond p (in_all p t) l;
    apart = λ p q t u ne. o.apart p q (in_all p t) (in_all q u) ne;
    cover = λ x l k. let c = o.cover x l k in (c.0, old_live c.0 c.1, c.1, c.2, c.3);
    cover_new = λ x l k. let c = o.cover_new x l k in (c.0, lt-ltb c.0 A.many c.1, c.2, c.3, c.4);
    gone = λ ro p h t. absurd (omega (arith, ro, o.bounds));
    kept = λ p h t. absurd (both_ways (ltb p A.many) t (old_live p (in_old p h)));
    kept_slot = λ p i h t l. absurd (both_ways (ltb p A.many) t (old_live p (in_old p h)));
    kept_same = λ p i h t l. absurd (both_ways (ltb p A.many) t (old_live p (in_old p h)));
    head = λ p t. o.head p (in_all p t);
    raw = λ p i t l k d. absurd (true≢false d);
    ready = λ p i t l d. o.slot p i (in_all p t) l;
    traced = λ p i q t l k d e. old_live q (omega (arith, own_ref (A.val p i) p q e));
    fresh = λ x l k. absurd (omega arith);
    new = λ p i t l k. refl;
  }

  -- an idle heap's pairing, whatever was scanned and used
  pub rest_body : (scan : ℕ → ℕ) (used : ℕ) (reg areg : ℕ → Value) (l nw u : ℕ) → ((k : ℕ) → k < 32 → (reg k ≡ map_v to (areg k)) × Alive (λ q. ltb q A.many) (areg k)) →
      start + l ≡ st.top → nw + st.low ≡ last → Body H F st scan sd used reg Idle A areg l nw u
  rest_body scan used reg areg l nw u regs el en = record {
    pair = g;
    ok = ok;
    inv = inv;
    side = record { opens = λ x a c e. refl; cross = λ ro k a c. absurd (omega (arith, ro, o.bounds)) };
    regs = regs;
    which = which;
    start = refl;
    last = refl;
    low = en;
    inside = λ p h. omega (arith, o.within p (in_old p h), o.bounds, twice (half H) (1 - sd) (omega arith));
    phased = record { all = λ p i t k. refl; every = λ x a c. refl; limit = refl; words = el; complete = λ p h. old_live p (in_old p (reached_here L F ok h)) };
  }
