-- The objects of an accepted image: they make up its rows, and the never-moving heap of the image has them by place.
use Rattle.std.proofs.Common.{◌≡◌, ℕ, suc, ◌+◌, ◌-◌, ◌^◌, ◌<◌, ◌≤◌, true, ◌&&◌, ltb, ◌≢◌, List, [], length, get_or, Some, sym, refl, ap, ◌∙◌, subst, inl, inr, arith}
use Rattle.std.proofs.lemmas.Bool.{cases_lt, lt-ltb, and_parts, or_cases}
use Rattle.std.proofs.lemmas.List.{length-append, length-map, get_or-map, get_or_append_left, get_or-append_right}
use Rattle.layouts.specs.Layouts.{Rules, Lawful, addressable}
use Rattle.layouts.specs.declared.values.Value.{Value}
use Rattle.layouts.specs.declared.values.Value.TheVariants.{Nil, Number, Reference}
use Rattle.model.specs.Heap.{Heap as MovingHeap, to_start, to_stop}
use Rattle.model.specs.Objects.{slot_count, is_header, packed_word}
use Rattle.model.specs.Outcomes.{Machine}
use Rattle.model.specs.Reaching.{object_at}
use Rattle.model.specs.ImageHeap.{copied_headers, new_headers, headers, place_in, object_from, objects_of}
use Rattle.theory.specs.Model.{map_v, Layout, sum_to}
use Rattle.theory.specs.Collect.{Heap, Clear, Alive, size}
use Rattle.theory.specs.Machine.{Shape, half, Machine as Closed}
use Rattle.theory.specs.Restore.{every, row, closed_header_in, slots_in, closed_is_header, closed_refers_well, closed_well_made}
use Rattle.theory.specs.Closed.{closed_layout, both_halves, closed_shape, closed}
use Rattle.theory.proofs.Basics.{sum_same, half_within}
use Rattle.theory.proofs.Scan.{admits_map_v}
use Rattle.theory.proofs.Again.{every_at}
use Rattle.theory.proofs.ClosedLaws.{slots_known, closed_laws}
use Rattle.theory.proofs.ClosedNever.{placed, Headed}
use Rattle.theory.proofs.RowHeaders.{nth, found_at, length_listed, get_d_listed, sum_parts, Listed, row_listed, header_listed, slots_listed}
use Rattle.theory.proofs.RestWorld.{Objects}

-- what a 32-bit word in a slot gives, if it is no address beyond every object, is admitted and packs back
gives_back : (L : Rules) → Lawful L → (x i w : ℕ) → is_header L x ≡ true → i < slot_count L x → w < 2 ^ 32 → addressable (L.unpacked x i w) ≡ true → (L.admits x i (L.unpacked x i w) ≡ true) × (packed_word L x i (L.unpacked x i w) ≡ w)
gives_back L lawful x i w h l k a =
    let s = lawful.shaped x (slot_count L x) (slots_known L lawful x h) in
    of_shape s.0 s.1 s.4 (omega (arith, s.2, s.3)) (omega (arith, s.2))
  where
    of_shape : (r t : ℕ) → L.header r t ≡ x → r + t ≤ 255 → i < r + t → (L.admits x i (L.unpacked x i w) ≡ true) × (packed_word L x i (L.unpacked x i w) ≡ w)
    of_shape r t e few b =
        let ad : L.admits x i (L.unpacked x i w) ≡ true = rw (← e) (lawful.gives_admitted r t i w few b k (rw e a)) in
        let pb : L.packed x i (L.unpacked x i w) ≡ w = rw (← e) (lawful.packs_back r t i w few b k (rw e a)) in
        (ad, rw (ad, a) pb)

module _ (L : Rules) (lawful : Lawful L) (x : Machine) (small : both_halves x.heap.memory.page_count x.heap.memory.page_size ≤ 16384) where
  abbrev h : MovingHeap
  h = x.heap

  abbrev H : Shape
  H = closed_shape L h.memory.page_count h.memory.page_size small

  abbrev lay : Layout
  lay = closed_layout L

  abbrev c : Closed
  c = closed x

  abbrev mem : ℕ → ℕ
  mem = h.memory.word

  abbrev start : ℕ
  start = to_start h

  abbrev top : ℕ
  top = h.space.copy_end

  abbrev low : ℕ
  low = h.new_start

  abbrev last : ℕ
  last = to_stop h

  abbrev xs : List ℕ
  xs = copied_headers L h

  abbrev ys : List ℕ
  ys = new_headers L h

  abbrev zs : List ℕ
  zs = headers L h

  abbrev pub to : ℕ → ℕ
  to p = nth zs p

  abbrev place : ℕ → ℕ
  place a = place_in zs a

  abbrev pub A : Heap
  A = placed (objects_of L h)

  -- the places of copied objects
  abbrev pub copied : ℕ
  copied = length xs

  module _ (which : c.side ≤ 1) (bounds : (start ≤ top) × (top ≤ low) × (low ≤ last)) (words : (a : ℕ) → mem a < 2 ^ 32) (made : closed_well_made H c ≡ true) where
    parts : (row lay mem (half H) start top ≡ true) × (row lay mem (half H) low last ≡ true) × (slots_in lay mem (closed_refers_well H c) (half H) start top ≡ true) × (slots_in lay mem (closed_refers_well H c) (half H) low last ≡ true) × (every 32 (λ k. closed_refers_well H c (c.reg k)) ≡ true)
    parts =
        let t = and_parts (row lay mem (half H) start top && row lay mem (half H) low last) _ made in
        let r = and_parts (row lay mem (half H) start top) (row lay mem (half H) low last) t.0 in
        let u = and_parts (slots_in lay mem (closed_refers_well H c) (half H) start top && slots_in lay mem (closed_refers_well H c) (half H) low last) (every 32 (λ k. closed_refers_well H c (c.reg k))) t.1 in
        let s = and_parts (slots_in lay mem (closed_refers_well H c) (half H) start top) (slots_in lay mem (closed_refers_well H c) (half H) low last) u.0 in
        (r.0, r.1, s.0, s.1, u.1)

    lx : Listed L mem top xs start
    lx = row_listed L mem top (half H) start parts.0

    ly : Listed L mem last ys low
    ly = row_listed L mem last (half H) low parts.1

    -- Places

    length_all : length zs ≡ copied + length ys
    length_all = length-append xs ys

    many_is : A.many ≡ length zs
    many_is = length-map zs (object_from L mem place)

    in_list : (p : ℕ) → p < A.many → p < length zs
    in_list p l = omega (arith, many_is)

    to_copied : (p : ℕ) → p < copied → to p ≡ nth xs p
    to_copied p l = get_or_append_left xs ys 0 p l

    to_new : (p : ℕ) → copied ≤ p → to p ≡ nth ys (p - copied)
    to_new p l = get_or-append_right xs ys copied p 0 refl l

    object_is : (p : ℕ) → p < A.many → object_at (objects_of L h) p ≡ object_from L mem place (to p)
    object_is p l = get_or-map (object_from L mem place) zs p 0 (record { header = 0; slots = [] }) (in_list p l)

    hdr_is : (p : ℕ) → p < A.many → A.hdr p ≡ mem (to p)
    hdr_is p l = ap (λ z. z.header) (object_is p l)

    size_is : (p : ℕ) → p < A.many → size lay A p ≡ suc (slot_count L (mem (to p)))
    size_is p l = ap (λ z. suc (slot_count L z)) (hdr_is p l)

    -- the size of a copied object, and of a new one
    size_copied : (p : ℕ) → p < copied → size lay A p ≡ suc (slot_count L (mem (nth xs p)))
    size_copied p l = size_is p (omega (arith, many_is, length_all)) ∙ ap (λ z. suc (slot_count L (mem z))) (to_copied p l)

    size_new : (p : ℕ) → p < A.many → copied ≤ p → size lay A p ≡ suc (slot_count L (mem (nth ys (p - copied))))
    size_new p l k = size_is p l ∙ ap (λ z. suc (slot_count L (mem z))) (to_new p k)

    new_index : (p : ℕ) → p < A.many → copied ≤ p → p - copied < length ys
    new_index p l k = omega (arith, many_is, length_all)

    within : (p : ℕ) → p < copied → (start ≤ to p) × (to p + size lay A p ≤ top)
    within p l = omega (arith, lx.within p l, to_copied p l, size_copied p l)

    beyond : (p : ℕ) → p < A.many → copied ≤ p → (low ≤ to p) × (to p + size lay A p ≤ last)
    beyond p l k = omega (arith, ly.within (p - copied) (new_index p l k), to_new p k, size_new p l k)

    valid : (p : ℕ) → p < A.many → is_header L (mem (to p)) ≡ true
    valid p l = elim (cases_lt p copied) [
      | inl k ↦ ap (λ z. is_header L (mem z)) (to_copied p k) ∙ lx.valid p k
      | inr k ↦ ap (λ z. is_header L (mem z)) (to_new p k) ∙ ly.valid (p - copied) (new_index p l k)
    ]

    -- in the order of their places the objects lie apart
    ordered : (p q : ℕ) → p < q → q < A.many → to p + size lay A p ≤ to q
    ordered p q l m = elim (cases_lt q copied) [
      | inl k ↦ omega (arith, lx.ordered p q l k, to_copied p (omega arith), size_copied p (omega arith), to_copied q k)
      | inr k ↦ elim (cases_lt p copied) [
        | inl j ↦ omega (arith, within p j, beyond q m k, bounds)
        | inr j ↦ omega (arith, ly.ordered (p - copied) (q - copied) (omega arith) (new_index q m k), to_new p j, size_new p (omega arith) j, to_new q k)
      ]
    ]

    apart : (p q : ℕ) → p < A.many → q < A.many → p ≢ q → Clear (to p) (size lay A p) (to q) (size lay A q)
    apart p q l m ne = elim (cases_lt p q) [ inl k ↦ inl (ordered p q k m) | inr k ↦ inr (ordered q p (omega arith) l) ]

    cover : (a : ℕ) → start ≤ a → a < top → (p : ℕ) × (p < copied) × (to p ≤ a) × (a < to p + size lay A p)
    cover a l k = let o = lx.cover a l k in (o.0, o.1, omega (arith, o.2, to_copied o.0 o.1), omega (arith, o.3, to_copied o.0 o.1, size_copied o.0 o.1))

    cover_new : (a : ℕ) → low ≤ a → a < last → (p : ℕ) × (p < A.many) × (copied ≤ p) × (to p ≤ a) × (a < to p + size lay A p)
    cover_new a l k = let o = ly.cover a l k in at_new o.0 o.1 o.2 o.3
      where
        at_new : (q : ℕ) → q < length ys → nth ys q ≤ a → a < nth ys q + suc (slot_count L (mem (nth ys q))) → (p : ℕ) × (p < A.many) × (copied ≤ p) × (to p ≤ a) × (a < to p + size lay A p)
        at_new q b f t =
            let lm : copied + q < A.many = omega (arith, many_is, length_all) in
            let e : nth ys (copied + q - copied) ≡ nth ys q = ap (nth ys) (let z : copied + q - copied ≡ q = omega arith in z) in
            let et : to (copied + q) ≡ nth ys q = to_new (copied + q) (omega arith) ∙ e in
            let es : size lay A (copied + q) ≡ suc (slot_count L (mem (nth ys q))) = size_is (copied + q) lm ∙ ap (λ z. suc (slot_count L (mem z))) et in
            (copied + q, lm, omega arith, omega arith, omega arith)

    sum : start + sum_to copied (size lay A) ≡ top
    sum = let e = sum_same (size lay A) (λ p. suc (slot_count L (mem (nth xs p)))) copied (λ p l. size_copied p l) in omega (arith, lx.sum)

    size_at : (q : ℕ) → q < length ys → size lay A (copied + q) ≡ suc (slot_count L (mem (nth ys q)))
    size_at q l = size_new (copied + q) (omega (arith, many_is, length_all)) (omega arith) ∙ ap (λ z. suc (slot_count L (mem (nth ys z)))) (let z : copied + q - copied ≡ q = omega arith in z)

    sum_all : sum_to A.many (size lay A) + start + low ≡ top + last
    sum_all =
        let e₀ : sum_to A.many (size lay A) ≡ sum_to (copied + length ys) (size lay A) = ap (λ z. sum_to z (size lay A)) (many_is ∙ length_all) in
        let e₁ = sum_parts (length ys) copied (size lay A) in
        let e₂ = sum_same (λ q. size lay A (copied + q)) (λ q. suc (slot_count L (mem (nth ys q)))) (length ys) size_at in
        omega (arith, sum, ly.sum)

    -- Values

    header_place : (a : ℕ) → closed_is_header H c a ≡ true → (p : ℕ) × (p < A.many) × (to p ≡ a)
    header_place a e = elim (or_cases (closed_header_in lay mem (half H) start top a) (closed_header_in lay mem (half H) low last a) e) [
      | inl t ↦ (let o = header_listed L mem top (half H) start a t in (o.0, omega (arith, o.1, many_is, length_all), to_copied o.0 o.1 ∙ o.2))
      | inr t ↦ (
          let o = header_listed L mem last (half H) low a t in
          (copied + o.0, omega (arith, o.1, many_is, length_all), to_new (copied + o.0) (omega arith) ∙ ap (nth ys) (let z : copied + o.0 - copied ≡ o.0 = omega arith in z) ∙ o.2))
    ]

    near : (p : ℕ) → p < A.many → to p < 16384
    near p l = elim (cases_lt p copied) [
      | inl k ↦ omega (arith, within p k, bounds, half_within c.side (half H) which small)
      | inr k ↦ omega (arith, beyond p l k, bounds, half_within c.side (half H) which small)
    ]

    -- a value that refers well, with places for addresses
    pub back : (v : Value) → closed_refers_well H c v ≡ true → (map_v to (map_v place v) ≡ v) × Alive (λ q. ltb q A.many) (map_v place v) × (addressable v ≡ true)
    back Nil e = (refl, tt, refl)
    back (Number n) e = (refl, tt, refl)
    back (Reference a) e =
        let o = header_place a e in
        let f = found_at zs o.0 a (in_list o.0 o.1) o.2 in
        (ap Reference f.1, lt-ltb (place a) A.many (omega (arith, f.0, many_is)), lt-ltb a 16384 (omega (arith, near o.0 o.1, o.2)))

    abbrev value : ℕ → ℕ → Value
    value p i = L.unpacked (mem (to p)) i (mem (to p + suc i))

    value_refers : (p i : ℕ) → p < A.many → i < slot_count L (mem (to p)) → closed_refers_well H c (value p i) ≡ true
    value_refers p i l k = elim (cases_lt p copied) [
      | inl j ↦ subst (λ z. i < slot_count L (mem z) → closed_refers_well H c (L.unpacked (mem z) i (mem (z + suc i))) ≡ true) (sym (to_copied p j)) (slots_listed L mem top (closed_refers_well H c) (half H) start parts.0 parts.2 p i j) k
      | inr j ↦ subst (λ z. i < slot_count L (mem z) → closed_refers_well H c (L.unpacked (mem z) i (mem (z + suc i))) ≡ true) (sym (to_new p j)) (slots_listed L mem last (closed_refers_well H c) (half H) low parts.1 parts.3 (p - copied) i (new_index p l j)) k
    ]

    val_is : (p i : ℕ) → p < A.many → i < slot_count L (mem (to p)) → A.val p i ≡ map_v place (value p i)
    val_is p i l k = ap (λ z. get_or z.slots i Nil) (object_is p l) ∙ get_d_listed (slot_count L (mem (to p))) (λ j. map_v place (value p j)) i Nil k

    module _ (p i : ℕ) (l : p < A.many) (k₀ : i < lay.slots (A.hdr p)) where
      k : i < slot_count L (mem (to p))
      k = subst (λ z. i < slot_count L z) (hdr_is p l) k₀

      gives : (L.admits (mem (to p)) i (value p i) ≡ true) × (packed_word L (mem (to p)) i (value p i) ≡ mem (to p + suc i))
      gives = gives_back L lawful (mem (to p)) i (mem (to p + suc i)) (valid p l) k (words (to p + suc i)) (back (value p i) (value_refers p i l k)).2

      fits : lay.admits (A.hdr p) i (A.val p i) ≡ true
      fits = subst (λ z. L.admits (A.hdr p) i z ≡ true) (sym (val_is p i l k)) (subst (λ z. L.admits z i (map_v place (value p i)) ≡ true) (sym (hdr_is p l)) (admits_map_v lay (closed_laws L lawful) (mem (to p)) i place (value p i) gives.0))

      slot_word : lay.pack (A.hdr p) i (map_v to (A.val p i)) ≡ mem (to p + suc i)
      slot_word = ap (λ z. packed_word L z i (map_v to (A.val p i))) (hdr_is p l) ∙ ap (λ z. packed_word L (mem (to p)) i (map_v to z)) (val_is p i l k) ∙ ap (packed_word L (mem (to p)) i) (back (value p i) (value_refers p i l k)).0 ∙ gives.1

      slot_alive : Alive (λ q. ltb q A.many) (A.val p i)
      slot_alive = subst (Alive (λ q. ltb q A.many)) (sym (val_is p i l k)) (back (value p i) (value_refers p i l k)).1

    pub objects : Objects lay mem A copied to start top low last
    objects = record {
      many = omega (arith, many_is, length_all);
      bounds = bounds;
      head = λ p l. sym (hdr_is p l);
      valid = λ p l. ap (is_header L) (hdr_is p l) ∙ valid p l;
      within = within;
      beyond = beyond;
      apart = apart;
      cover = cover;
      cover_new = cover_new;
      sum = sum;
      sum_all = sum_all;
      fits = fits;
      slot = λ p i l k. (sym (slot_word p i l k), slot_alive p i l k);
    }

    pub registers : (k : ℕ) → k < 32 → (c.reg k ≡ map_v to (map_v place (c.reg k))) × Alive (λ q. ltb q A.many) (map_v place (c.reg k))
    registers k l = let o = back (c.reg k) (every_at 32 (λ j. closed_refers_well H c (c.reg j)) parts.4 k l) in (sym o.0, o.1)

    pub headed : Headed L (objects_of L h)
    headed p l =
        ap (λ z. L.slots z.header) (object_is p l) ∙ slots_known L lawful (mem (to p)) (valid p l)
        ∙ ap Some (sym (length_listed (slot_count L (mem (to p))) (λ j. map_v place (value p j)))) ∙ ap (λ z. Some (length z.slots)) (sym (object_is p l))
