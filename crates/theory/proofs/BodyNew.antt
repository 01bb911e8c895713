-- What NEW leaves of the pairing.
use Rattle.std.proofs.Common.{◌≡◌, ℕ, suc, ◌+◌, ◌-◌, ◌<◌, ◌≤◌, Bool, true, false, cond, ◌&&◌, ltb, leb, ◌≢◌, ◌⊎◌, sym, refl, ap, ◌∙◌, inl, inr, le_refl, arith}
use Rattle.std.proofs.lemmas.Bool.{cases_eq, cases_lt, cases_Bool, eq-eqb, ne_eqb, lt-ltb, le-ltb}
use Rattle.std.proofs.lemmas.Bool.Decides.{nat_tests}
use Rattle.theory.specs.Model.{Layout, upd}
use Rattle.layouts.specs.declared.values.Value.{Value}
use Rattle.layouts.specs.declared.values.Value.TheVariants.{Nil, Number, Reference}
use Rattle.theory.specs.Collect.{Laws, Heap, Flip, size, St, Pair, LooseInv, Grows, Adds, Places}
use Rattle.theory.specs.Machine.{Shape}
use Rattle.model.specs.declared.states.Phase.{Phase}
use Rattle.model.specs.declared.states.Phase.TheVariants.{Idle, Collecting, Imaging}
use Rattle.theory.specs.Steps.{initial, initially, place, append}
use Rattle.theory.proofs.Basics.{upd_same, upd_other, upd_at}
use Rattle.theory.proofs.Flip.{AllDone}
use Rattle.theory.proofs.New.{Plain, new_keeps, new_grows, span, span_out, span_in}
use Rattle.theory.proofs.Roots.{follows}
use Rattle.theory.proofs.World.{Whole, Rest, Phased, Body}

pub plain_initial : (r i : ℕ) → Plain (initial r i)
plain_initial r i = go (ltb i r)
  where
    go : (t : Bool) → Plain (cond t Nil (Number 0))
    go true = tt
    go false = tt

pub plain_initially : (r w i : ℕ) → Plain (initially r w i)
plain_initially r w i = go (ltb i (r + w))
  where
    go : (t : Bool) → Plain (cond t (initial r i) Nil)
    go true = plain_initial r i
    go false = tt

pub in_range : (a b x : ℕ) → a ≤ x → x < b → (leb a x && ltb x b) ≡ true
in_range a b x l m = grind (arith, nat_tests)

pub out_range : (a b x : ℕ) → (x < a) ⊎ (b ≤ x) → (leb a x && ltb x b) ≡ false
out_range a b x o = grind (arith, nat_tests)

pub appends : (L : Layout) (A : Heap) (r w : ℕ) → Adds A (append L A r w) (L.make r w) (initially r w)
appends L A r w = record {
  many = refl;
  hdr = upd_same A.hdr A.many (L.make r w);
  val = λ i. rw (eq-eqb A.many A.many refl);
  old_hdr = λ q ne. upd_other A.hdr A.many q (L.make r w) ne;
  old_val = λ q i ne. rw (ne_eqb q A.many ne);
}

pub places : (L : Layout) (s : St) (r w : ℕ) → L.slots (L.make r w) ≡ r + w → suc (r + w) ≤ s.low → Places L s (place L s r w) (L.make r w) (initially r w)
places L s r w e f = record {
  low = omega arith;
  top = refl;
  head = rw (in_range (s.low - suc (r + w)) s.low (s.low - suc (r + w)) (le_refl _) (omega arith), eq-eqb (s.low - suc (r + w)) (s.low - suc (r + w)) refl);
  slot = λ i l. let k : (s.low - suc (r + w)) + suc i ≢ s.low - suc (r + w) = omega arith in
      let z : (s.low - suc (r + w)) + suc i - suc (s.low - suc (r + w)) ≡ i = omega arith in
      rw (in_range (s.low - suc (r + w)) s.low ((s.low - suc (r + w)) + suc i) (omega arith) (omega arith), lt-ltb i (r + w) (omega arith), ne_eqb ((s.low - suc (r + w)) + suc i) (s.low - suc (r + w)) k, z);
  rest = λ b o. rw (out_range (s.low - suc (r + w)) s.low b o);
}

module _ (H : Shape) (laws : Laws H.lay) (F : Flip) (st : St) (scan : ℕ → ℕ) (sd used : ℕ) (reg : ℕ → Value) (phase : Phase) (A : Heap) (areg : ℕ → Value) (l n u : ℕ)
    (b : Body H F st scan sd used reg phase A areg l n u) (r w : ℕ) (small : r + w ≤ 255) (space : b.pair.limit + suc (r + w) ≤ st.low) where
  abbrev L : Layout
  L = H.lay

  abbrev g : Pair
  g = b.pair

  abbrev A' : Heap
  A' = append L A r w

  abbrev st' : St
  st' = place L st r w

  h_fits : (i : ℕ) → i < L.slots (L.make r w) → L.admits (L.make r w) i (initially r w i) ≡ true
  h_fits i k =
      let s = (laws.made r w small).1 in
      elim (cases_lt i r) [
        | inl a ↦ rw (lt-ltb i (r + w) (omega arith), lt-ltb i r a) (laws.first r w i small a)
        | inr a ↦ rw (lt-ltb i (r + w) (omega arith), le-ltb i r a) (laws.next r w i small a (omega arith))
      ]

  pl : Places L st st' (L.make r w) (initially r w)
  pl = places L st r w (laws.made r w small).1 (omega arith)

  sp : g.limit ≤ st'.low
  sp = omega arith

  abbrev g' : Pair
  g' = record { live = upd g.live A.many true; to = upd g.to A.many st'.low; done = span g.done st'.low st.low; limit = g.limit }

  inv' : LooseInv L F A' st' g'
  inv' = new_keeps L F b.ok A st g b.inv (L.make r w) (initially r w) (λ i k. plain_initially r w i) (laws.made r w small).0 h_fits A' (appends L A r w) st' pl sp

  grows : Grows g g'
  grows = new_grows L F b.ok A st g b.inv (L.make r w) (initially r w) (λ i k. plain_initially r w i) (laws.made r w small).0 h_fits A' (appends L A r w) st' pl sp

  -- an old place is as it was
  not_new : (q : ℕ) → q < F.old.many → q ≢ A.many
  not_new q m = omega (arith, b.inv.many)

  was : (q : ℕ) → q < F.old.many → g'.live q ≡ true → g.live q ≡ true
  was q m t = sym (upd_other g.live A.many q true (not_new q m)) ∙ t

  sz : (q : ℕ) → q < F.old.many → size L A' q ≡ size L A q
  sz q m = ap (λ z. suc (L.slots z)) (upd_other A.hdr A.many q (L.make r w) (not_new q m))

  below_same : (x : ℕ) → x < g.limit → g'.done x ≡ g.done x
  below_same x k = span_out g.done st'.low st.low x (inl (omega (arith, sp)))

  whole' : (x : ℕ) → Whole L F A st g x → Whole L F A' st' g' x
  whole' x k = record {
    in_top = k.in_top;
    clear = λ q t m. let e = grows.to q (was q m t) in rw (e, sz q m) (k.clear q (was q m t) m);
  }

  rest' : Rest H F st A l g → Rest H F st' A' l g'
  rest' o = record { all = all'; every = λ x a c. still x (o.every x a c); limit = o.limit; words = o.words; complete = λ p h. grows.live p (o.complete p h) }
    where
      still : (x : ℕ) → g.done x ≡ true → g'.done x ≡ true
      still x d = elim (cases_Bool (leb st'.low x && ltb x st.low)) [ inl e ↦ rw e | inr e ↦ rw e d ]

      all' : AllDone L A' g'
      all' p i t k = elim (cases_eq p A.many) [
        | inl e ↦ (
            let z = upd_at g.to A.many p st'.low e in
            let hh : A'.hdr p ≡ L.make r w = upd_at A.hdr A.many p (L.make r w) e in
            let k₂ : i < L.slots (L.make r w) = rw hh at k in
            rw z (span_in g.done st'.low st.low (st'.low + suc i) (omega arith) (omega (arith, pl.low))))
        | inr ne ↦ (
            let tl : g.live p ≡ true = sym (upd_other g.live A.many p true ne) ∙ t in
            let hh : A'.hdr p ≡ A.hdr p = upd_other A.hdr A.many p (L.make r w) ne in
            let k₂ : i < L.slots (A.hdr p) = rw hh at k in
            rw (upd_other g.to A.many p st'.low ne) (still (g.to p + suc i) (o.all p i tl k₂)))
      ]

  phased' : (ph : Phase) → Phased H F st scan used A l u g ph → Phased H F st' scan used A' l u g' ph
  phased' Idle o = rest' o
  phased' Imaging o = rest' o
  phased' Collecting o = record {
    used_is = o.used_is;
    flip_used = o.flip_used;
    regs_is = o.regs_is;
    limit = o.limit;
    room = o.room;
    rooted = λ k p kl e. grows.live p (o.rooted k p kl e);
    words = o.words;
    scans = record { low = o.scans.low; high = o.scans.high; tops = o.scans.tops; done = λ x x₁ x₂. below_same x x₂ ∙ o.scans.done x x₁ x₂; bound = λ k d f t. whole' (scan k) (o.scans.bound k d f t) };
  }

  pub body_new : (k : ℕ) → Body H F st' scan sd used (upd reg k (Reference st'.low)) phase A' (upd areg k (Reference A.many)) l (n + suc (r + w)) u
  body_new k = record {
    pair = g';
    ok = b.ok;
    inv = inv';
    side = record {
      opens = λ x a c e. let li = b.inv.limits in below_same x (omega arith) ∙ b.side.opens x a c e;
      cross = λ ro m a c. let o = b.side.cross ro m a c in let e = grows.to o.0 o.1 in (o.0, grows.live o.0 o.1, o.2, o.3 ∙ sym e, rw e o.4, rw (e, sz o.0 o.2) o.5);
    };
    regs = λ j lj. elim (cases_eq j k) [
      | inl t ↦ rw (upd_at reg k j (Reference st'.low) t, upd_at areg k j (Reference A.many) t) (ap Reference (sym (upd_same g.to A.many st'.low)), upd_same g.live A.many true)
      | inr ne ↦ rw (upd_other reg k j (Reference st'.low) ne, upd_other areg k j (Reference A.many) ne) (follows g g' grows (reg j) (areg j) (b.regs j lj))
    ];
    which = b.which;
    start = b.start;
    last = b.last;
    low = omega (arith, b.low, pl.low);
    inside = b.inside;
    phased = phased' phase b.phased;
  }
