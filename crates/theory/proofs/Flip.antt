-- FLIP, from a heap whose every word is scanned.
use Rattle.std.proofs.Common.{◌≡◌, ℕ, zero, suc, ◌+◌, ◌<◌, ◌≤◌, true, false, ◌⊎◌, refl, inl, inr, le_refl, arith}
use Rattle.std.proofs.lemmas.Bool.{cases_lt, false≢true}
use Rattle.theory.specs.Model.{Layout, sum_to, weight}
use Rattle.layouts.specs.declared.values.Value.{Value}
use Rattle.layouts.specs.declared.values.Value.TheVariants.{Reference}
use Rattle.theory.specs.Collect.{Heap, Flip, size, FlipOk, LooseSide, St, Pair, Alive, LooseInv}
use Rattle.theory.proofs.Basics.{or_le}
use Rattle.theory.proofs.Copy.{start_top}

pub sum_none : (size : ℕ → ℕ) (n : ℕ) → sum_to n (weight size (λ p. false)) ≡ 0
sum_none size zero = refl
sum_none size (suc n) = omega (arith, sum_none size n)

-- every slot of a paired object is scanned
abbrev pub AllDone : Layout → Heap → Pair → Type 0
AllDone L A g = (p i : ℕ) → g.live p ≡ true → i < L.slots (A.hdr p) → g.done (g.to p + suc i) ≡ true

module _ (L : Layout) (F : Flip) (ok : FlipOk L F) (A : Heap) (s : St) (g : Pair) (inv : LooseInv L F A s g) (all : AllDone L A g)
    (n : ℕ) (reg : ℕ → Value) (regs : (k : ℕ) → k < n → Alive g.live (reg k))
    (start last limit : ℕ) (halves : (F.last ≤ start) ⊎ (last ≤ F.start)) (small : last ≤ 16384) where
  abbrev pub flipped : Flip
  flipped = record { old = A; here = g.live; addr = g.to; start = start; last = last; used = sum_to A.many (weight (size L A) g.live); regs = n; reg = reg }

  abbrev pub empty : Pair
  empty = record { live = λ p. false; to = λ p. 0; done = λ a. false; limit = limit }

  abbrev pub turned : (ℕ → ℕ) → (ℕ → ℕ) → St
  turned right cross = record { mem = s.mem; top = start; low = last; right = right; cross = cross }

  inside : (p : ℕ) → g.live p ≡ true → (F.start ≤ g.to p) × (g.to p + size L A p ≤ F.last)
  inside p l = elim (cases_lt p F.old.many) [ inl a ↦ omega (arith, inv.within p l a, inv.limits) | inr a ↦ omega (arith, inv.beyond p l a, inv.limits, start_top L F ok A s g inv) ]

  alive_ref : (v : Value) (q : ℕ) → Alive g.live v → v ≡ Reference q → g.live q ≡ true
  alive_ref v q a e = rw e at a

  pub flip_ok : FlipOk L flipped
  flip_ok = record {
    below = inv.below;
    heads = inv.valid;
    closed = λ p i q l b e. alive_ref (A.val p i) q (inv.ready p i l b (all p i l b)).1 e;
    fits = inv.fits;
    apart = inv.apart;
    outside = λ p l. or_le _ _ _ _ (omega (arith, inside p l));
    total = le_refl _;
    roots = λ k p l e. alive_ref (reg k) p (regs k l) e;
    near = λ p l. omega (arith, inside p l, ok.small);
    small = small;
  }

  pub flip_keeps : (right cross : ℕ → ℕ) → start + flipped.used ≤ limit → limit ≤ last → LooseInv L flipped A (turned right cross) empty
  flip_keeps right cross room e = record {
    many = le_refl _;
    heads = λ p l. refl;
    below = λ p t. absurd (false≢true t);
    came = λ p t m. absurd (false≢true t);
    news = λ p m k. absurd (omega arith);
    valid = λ p t. absurd (false≢true t);
    fits = λ p i t k. absurd (false≢true t);
    limits = omega arith;
    total = omega (arith, sum_none (size L A) A.many);
    ends = omega (arith, sum_none (size L A) A.many);
    within = λ p t m. absurd (false≢true t);
    beyond = λ p t m. absurd (false≢true t);
    apart = λ p q t m d. absurd (false≢true t);
    cover = λ a l m. absurd (omega arith);
    cover_new = λ a l m. absurd (omega arith);
    gone = λ ro p h t. absurd (false≢true t);
    kept = λ p h t. inv.head p h;
    kept_slot = λ p i h t k. (inv.ready p i h k (all p i h k)).0;
    kept_same = λ p i h t k. refl;
    head = λ p t. absurd (false≢true t);
    raw = λ p i t m k d. absurd (false≢true t);
    ready = λ p i t k d. absurd (false≢true t);
    traced = λ p i q t m k d v. absurd (false≢true t);
    fresh = λ a l m. refl;
    new = λ p i t m k. absurd (false≢true t);
  }

  pub flip_side : (P : ℕ) (right cross : ℕ → ℕ) → LooseSide L P flipped A (turned right cross) empty
  flip_side P right cross = record { opens = λ x l b r. absurd (omega arith); cross = λ ro m l b. absurd (omega arith) }
