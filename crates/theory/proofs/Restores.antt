-- A sealed image is accepted, and restores the heap at its MARK.
use Rattle.std.proofs.Common.{◌≡◌, ℕ, suc, ◌+◌, ◌-◌, ◌*◌, ◌/◌, ◌%◌, ◌<◌, ◌≤◌, true, cond, not, ◌&&◌, ◌||◌, eqb, ltb, leb, sym, refl, ap, ◌∙◌, subst, ap₂, inl, inr, le_refl, arith}
use Rattle.std.proofs.lemmas.Bool.{cases_lt, cases_Bool, eq-eqb, ne_eqb, lt-ltb, le-ltb, leb-true, ltb-true, le-leb, and_from, and_right, or_cases, or_left, or_right, not_from_true, not_from_false, cond-true, cond-false}
use Rattle.theory.specs.Model.{map_v}
use Rattle.layouts.specs.declared.values.Value.{Value}
use Rattle.layouts.specs.declared.values.Value.TheVariants.{Nil, Number, Reference}
use Rattle.theory.specs.Collect.{Laws, Heap, Flip, Alive}
use Rattle.theory.specs.Machine.{Shape, half, Machine}
use Rattle.model.specs.declared.states.Phase.TheVariants.{Idle}
use Rattle.theory.specs.Buffer.{closed_head_word, closed_kind_word, payload}
use Rattle.theory.specs.Image.{used_at, image_word}
use Rattle.theory.specs.Restore.{every, closed_header_in, restored, closed_is_header, closed_refers_well, closed_well_made, closed_well_written, reg_well, word_well, closed_restore_refusal, reg_from, SameHeap, ImageRestoresFrom}
use Rattle.theory.proofs.BodyNew.{in_range}
use Rattle.theory.proofs.Calls.{load_agrees}
use Rattle.theory.proofs.Copy.{start_top}
use Rattle.theory.proofs.World.{Body, Rest, Phased}
use Rattle.theory.proofs.Rights.{Good, good_after}
use Rattle.theory.proofs.Kept.{image_head}
use Rattle.theory.proofs.Sealed.{image_sealed, mark_idle}
use Rattle.theory.proofs.Again.{every_from}
use Rattle.theory.proofs.Rows.{Row, first_edge, row_holds, header_holds, slots_hold}

reg_back : (v : Value) → reg_from (closed_kind_word v) (payload v) ≡ v
reg_back Nil = refl
reg_back (Number n) = refl
reg_back (Reference a) = refl

kind_small : (v : Value) → closed_kind_word v ≤ 2
kind_small Nil = omega arith
kind_small (Number n) = omega arith
kind_small (Reference a) = omega arith

nil_bare : (v : Value) → (not (eqb (closed_kind_word v) 0) || eqb (payload v) 0) ≡ true
nil_bare Nil = refl
nil_bare (Number n) = refl
nil_bare (Reference a) = refl

module _ (H : Shape) (laws : Laws H.lay) (pos : 0 < H.page) (m : Machine) (g : Good H m) (pi : m.phase ≡ Idle) where
  abbrev F : Flip
  F = g.flip

  abbrev A : Heap
  A = g.never.heap

  abbrev b : Body H g.flip m.st m.scan m.side m.used m.reg m.phase g.never.heap g.never.reg g.never.l g.never.n g.never.u
  b = g.world.body

  abbrev to : ℕ → ℕ
  to = b.pair.to

  rest : Rest H F m.st A g.never.l b.pair
  rest = subst (λ ph. Phased H F m.st m.scan m.used A g.never.l g.never.u b.pair ph) pi b.phased

  bounds : (m.side ≤ 1) × (m.side * half H ≤ m.st.top) × (m.st.top ≤ m.st.low) × (m.st.low ≤ m.side * half H + half H)
  bounds = omega (arith, b.which, b.start, b.last, b.inv.limits, start_top H.lay F b.ok A m.st b.pair b.inv)

  -- a heap with the same used words passes the check
  module _ (r : Machine) (sh : SameHeap H m r) where
    side_is : r.side * half H ≡ m.side * half H
    side_is = ap (λ x. x * half H) sh.side

    copied_word : (x : ℕ) → m.side * half H ≤ x → x < m.st.top → r.st.mem x ≡ m.st.mem x
    copied_word x l k = sh.words x l (omega (arith, bounds)) (or_left (ltb x m.st.top) (leb m.st.low x) (lt-ltb x m.st.top k))

    new_word : (x : ℕ) → m.st.low ≤ x → x < m.side * half H + half H → r.st.mem x ≡ m.st.mem x
    new_word x l k = sh.words x (omega (arith, bounds)) k (or_right (ltb x m.st.top) (leb m.st.low x) (le-leb m.st.low x l))

    abbrev Copied : ℕ → Type 0
    Copied p = (b.pair.live p ≡ true) × (p < F.old.many)

    abbrev New : ℕ → Type 0
    New p = (b.pair.live p ≡ true) × (F.old.many ≤ p)

    copied_row : Row H.lay r.st.mem A.hdr to Copied (r.side * half H) r.st.top
    copied_row = record {
      valid = λ p i. b.inv.valid p i.0;
      head = λ p i. let w = b.inv.within p i.0 i.1 in copied_word (to p) (omega (arith, b.start)) (omega arith) ∙ b.inv.head p i.0;
      within = λ p i. omega (arith, b.inv.within p i.0 i.1, b.start, side_is, sh.copied);
      apart = λ p q i j ne. b.inv.apart p q i.0 j.0 ne;
      cover = λ a l k. let o = b.inv.cover a (omega (arith, b.start, side_is)) (omega (arith, sh.copied)) in (o.0, (o.1, o.2), o.3, o.4);
    }

    new_row : Row H.lay r.st.mem A.hdr to New r.st.low (r.side * half H + half H)
    new_row = record {
      valid = λ p i. b.inv.valid p i.0;
      head = λ p i. let w = b.inv.beyond p i.0 i.1 in new_word (to p) (omega arith) (omega (arith, b.start, b.last)) ∙ b.inv.head p i.0;
      within = λ p i. omega (arith, b.inv.beyond p i.0 i.1, b.start, b.last, side_is, sh.new);
      apart = λ p q i j ne. b.inv.apart p q i.0 j.0 ne;
      cover = λ a l k. let o = b.inv.cover_new a (omega (arith, sh.new)) (omega (arith, b.start, b.last, side_is)) in (o.0, (o.1, o.2), o.3, o.4);
    }

    -- references to paired places are headers
    live_header : (q : ℕ) → b.pair.live q ≡ true → closed_is_header H r (to q) ≡ true
    live_header q l = elim (cases_lt q F.old.many) [
      | inl k ↦ or_left _ _ (header_holds H.lay r.st.mem A.hdr to Copied (r.side * half H) r.st.top copied_row q (l, k) (half H) (r.side * half H) (le_refl _) (first_edge H.lay r.st.mem A.hdr to Copied (r.side * half H) r.st.top copied_row) (copied_row.within q (l, k)).0 (omega (arith, bounds, side_is, sh.copied)))
      | inr k ↦ or_right (closed_header_in H.lay r.st.mem (half H) (r.side * half H) r.st.top (to q)) (closed_header_in H.lay r.st.mem (half H) r.st.low (r.side * half H + half H) (to q)) (header_holds H.lay r.st.mem A.hdr to New r.st.low (r.side * half H + half H) new_row q (l, k) (half H) r.st.low (le_refl _) (first_edge H.lay r.st.mem A.hdr to New r.st.low (r.side * half H + half H) new_row) (new_row.within q (l, k)).0 (omega (arith, bounds, side_is, sh.new)))
    ]

    refers : (v : Value) → Alive b.pair.live v → closed_refers_well H r (map_v to v) ≡ true
    refers Nil al = refl
    refers (Number n) al = refl
    refers (Reference q) al = live_header q al

    slot_refers : (p i : ℕ) → b.pair.live p ≡ true → i < H.lay.slots (A.hdr p) → r.st.mem (to p + suc i) ≡ m.st.mem (to p + suc i) → closed_refers_well H r (H.lay.unpack (A.hdr p) i (r.st.mem (to p + suc i))) ≡ true
    slot_refers p i l k e =
        let o = load_agrees H.lay laws F b.ok A m.st b.pair b.inv p i l k (rest.all p i l k) in
        ap (λ w. closed_refers_well H r (H.lay.unpack (A.hdr p) i w)) e ∙ ap (closed_refers_well H r) o.0 ∙ refers (A.val p i) o.1

    copied_slots : (p i : ℕ) → Copied p → i < H.lay.slots (A.hdr p) → closed_refers_well H r (H.lay.unpack (A.hdr p) i (r.st.mem (to p + suc i))) ≡ true
    copied_slots p i c k = let w = b.inv.within p c.0 c.1 in slot_refers p i c.0 k (copied_word (to p + suc i) (omega (arith, b.start)) (omega arith))

    new_slots : (p i : ℕ) → New p → i < H.lay.slots (A.hdr p) → closed_refers_well H r (H.lay.unpack (A.hdr p) i (r.st.mem (to p + suc i))) ≡ true
    new_slots p i c k = let w = b.inv.beyond p c.0 c.1 in slot_refers p i c.0 k (new_word (to p + suc i) (omega arith) (omega (arith, b.start, b.last)))

    regs_refer : (k : ℕ) → k < 32 → closed_refers_well H r (r.reg k) ≡ true
    regs_refer k l = ap (closed_refers_well H r) (sh.registers k l ∙ (b.regs k l).0) ∙ refers (g.never.reg k) (b.regs k l).1

    pub well_made : closed_well_made H r ≡ true
    well_made = and_from _ _
        (and_from _ _
        (row_holds H.lay r.st.mem A.hdr to Copied (r.side * half H) r.st.top copied_row (half H) (r.side * half H) (le_refl _) (omega (arith, bounds, side_is, sh.copied)) (first_edge H.lay r.st.mem A.hdr to Copied (r.side * half H) r.st.top copied_row) (omega (arith, bounds, side_is, sh.copied)))
        (row_holds H.lay r.st.mem A.hdr to New r.st.low (r.side * half H + half H) new_row (half H) r.st.low (le_refl _) (omega (arith, bounds, side_is, sh.new)) (first_edge H.lay r.st.mem A.hdr to New r.st.low (r.side * half H + half H) new_row) (omega (arith, bounds, side_is, sh.new))))
        (and_from _ _
        (and_from _ _
        (slots_hold H.lay r.st.mem A.hdr to Copied (r.side * half H) r.st.top copied_row (closed_refers_well H r) copied_slots (half H) (r.side * half H) (le_refl _) (first_edge H.lay r.st.mem A.hdr to Copied (r.side * half H) r.st.top copied_row))
        (slots_hold H.lay r.st.mem A.hdr to New r.st.low (r.side * half H + half H) new_row (closed_refers_well H r) new_slots (half H) r.st.low (le_refl _) (first_edge H.lay r.st.mem A.hdr to New r.st.low (r.side * half H + half H) new_row)))
        (every_from 32 (λ k. closed_refers_well H r (r.reg k)) regs_refer))

  -- the words of the image
  module _ (w : ℕ → ℕ) (h : (j : ℕ) → j < 70 + half H → w j ≡ image_word H m j) where
    size_word : w 0 ≡ H.page
    size_word = h 0 (omega arith)

    pages_word : w 1 ≡ H.pages
    pages_word = h 1 (omega arith)

    layout_word : w 2 ≡ H.lay.number
    layout_word = h 2 (omega arith)

    side_word : w 3 ≡ m.side
    side_word = h 3 (omega arith)

    copied_count : w 4 ≡ m.st.top - m.side * half H
    copied_count = h 4 (omega arith)

    new_count : w 5 ≡ m.side * half H + half H - m.st.low
    new_count = h 5 (omega arith)

    reg_chain : (j : ℕ) → 6 ≤ j → j < 70 → closed_head_word H m j ≡ cond (eqb ((j - 6) % 2) 0) (closed_kind_word (m.reg ((j - 6) / 2))) (payload (m.reg ((j - 6) / 2)))
    reg_chain j l k =
        cond-false (eqb j 1) _ _ (ne_eqb j 1 (omega arith)) ∙ cond-false (eqb j 2) _ _ (ne_eqb j 2 (omega arith)) ∙ cond-false (eqb j 3) _ _ (ne_eqb j 3 (omega arith)) ∙
        cond-false (eqb j 4) _ _ (ne_eqb j 4 (omega arith)) ∙ cond-false (eqb j 5) _ _ (ne_eqb j 5 (omega arith)) ∙ cond-true (leb 6 j && ltb j 70) _ _ (in_range 6 70 j l k)

    kind_word : (k : ℕ) → k < 32 → w (6 + 2 * k) ≡ closed_kind_word (m.reg k)
    kind_word k l = h (6 + 2 * k) (omega arith) ∙ image_head H m (6 + 2 * k) (omega arith) (omega arith) ∙ reg_chain (6 + 2 * k) (omega arith) (omega arith) ∙ cond-true (eqb ((6 + 2 * k - 6) % 2) 0) _ _ (eq-eqb ((6 + 2 * k - 6) % 2) 0 (omega arith)) ∙ ap (λ z. closed_kind_word (m.reg z)) (omega arith)

    pay_word : (k : ℕ) → k < 32 → w (7 + 2 * k) ≡ payload (m.reg k)
    pay_word k l = h (7 + 2 * k) (omega arith) ∙ image_head H m (7 + 2 * k) (omega arith) (omega arith) ∙ reg_chain (7 + 2 * k) (omega arith) (omega arith) ∙ cond-false (eqb ((7 + 2 * k - 6) % 2) 0) _ _ (ne_eqb ((7 + 2 * k - 6) % 2) 0 (omega arith)) ∙ ap (λ z. payload (m.reg z)) (omega arith)

    -- word j of to-space
    word_is : (j : ℕ) → j < half H → w (70 + j) ≡ cond (used_at m (m.side * half H + j)) (m.st.mem (m.side * half H + j)) 0
    word_is j l =
        h (70 + j) (omega arith) ∙ cond-false (eqb (70 + j) 0) _ _ (ne_eqb (70 + j) 0 (omega arith)) ∙ cond-false (ltb (70 + j) 70) _ _ (le-ltb (70 + j) 70 (omega arith)) ∙
        ap (λ x. cond (used_at m x) (m.st.mem x) 0) (let z : m.side * half H + (70 + j - 70) ≡ m.side * half H + j = omega arith in z)

    side_at : w 3 * half H ≡ m.side * half H
    side_at = ap (λ x. x * half H) side_word

    pub same_heap : SameHeap H m (restored H w)
    same_heap = record {
      side = side_word;
      copied = omega (arith, side_at, copied_count, bounds);
      new = omega (arith, side_at, new_count, bounds);
      registers = λ k l. cond-true (ltb k 32) (reg_from (w (6 + 2 * k)) (w (7 + 2 * k))) Nil (lt-ltb k 32 l) ∙ ap₂ reg_from (kind_word k l) (pay_word k l) ∙ reg_back (m.reg k);
      words = λ x l k u.
          cond-true _ _ _ (in_range (w 3 * half H) (w 3 * half H + half H) x (omega (arith, side_at)) (omega (arith, side_at)))
          ∙ ap (λ z. w (70 + z)) (let z : x - w 3 * half H ≡ x - m.side * half H = omega (arith, side_at) in z)
          ∙ word_is (x - m.side * half H) (omega arith)
          ∙ ap (λ z. cond (used_at m z) (m.st.mem z) 0) (let z : m.side * half H + (x - m.side * half H) ≡ x = omega arith in z)
          ∙ cond-true (used_at m x) _ _ u;
    }

    regs_well : (k : ℕ) → k < 32 → reg_well w k ≡ true
    regs_well k l = and_from _ _ (le-leb (w (6 + 2 * k)) 2 (omega (arith, kind_word k l, kind_small (m.reg k)))) (ap₂ (λ x y. not (eqb x 0) || eqb y 0) (kind_word k l) (pay_word k l) ∙ nil_bare (m.reg k))

    words_well : (j : ℕ) → j < half H → word_well H w j ≡ true
    words_well j l = elim (cases_Bool (used_at m (m.side * half H + j))) [
      | inl u ↦ or_left (ltb j (w 4) || leb (half H - w 5) j) (eqb (w (70 + j)) 0) (elim (or_cases (ltb (m.side * half H + j) m.st.top) (leb m.st.low (m.side * half H + j)) u) [
        | inl t ↦ or_left (ltb j (w 4)) (leb (half H - w 5) j) (lt-ltb j (w 4) (omega (arith, ltb-true (m.side * half H + j) m.st.top t, copied_count)))
        | inr t ↦ or_right (ltb j (w 4)) (leb (half H - w 5) j) (le-leb (half H - w 5) j (omega (arith, leb-true m.st.low (m.side * half H + j) t, new_count, bounds)))
      ])
      | inr u ↦ or_right (ltb j (w 4) || leb (half H - w 5) j) (eqb (w (70 + j)) 0) (eq-eqb (w (70 + j)) 0 (word_is j l ∙ cond-false (used_at m (m.side * half H + j)) _ _ u))
    ]

    well_written : closed_well_written H w ≡ true
    well_written = and_from _ _
        (and_from (leb (w 3) 1) (leb (w 4 + w 5) (half H)) (le-leb (w 3) 1 (omega (arith, side_word, bounds))) (le-leb (w 4 + w 5) (half H) (omega (arith, copied_count, new_count, bounds))))
        (and_from (every 32 (reg_well w)) (every (half H) (word_well H w)) (every_from 32 (reg_well w) regs_well) (every_from (half H) (word_well H w) words_well))

    pub accepts : (k : ℕ) → 70 + half H ≤ k → closed_restore_refusal H k w ≡ 0
    accepts k l =
        cond-false (ltb k (70 + half H)) 5 _ (le-ltb k (70 + half H) l)
        ∙ cond-false (not (eqb (w 0) 0) && not (eqb (w 0) H.page && (eqb (w 1) H.pages && eqb (w 2) H.lay.number))) 6 _
        (and_right (not (eqb (w 0) 0)) _ (not_from_true _ (and_from (eqb (w 0) H.page) _ (eq-eqb (w 0) H.page size_word) (and_from (eqb (w 1) H.pages) _ (eq-eqb (w 1) H.pages pages_word) (eq-eqb (w 2) H.lay.number layout_word)))))
        ∙ cond-false (not (not (eqb (w 0) 0) && (closed_well_written H w && closed_well_made H (restored H w)))) 7 0
        (not_from_true _ (and_from (not (eqb (w 0) 0)) _ (not_from_false _ (ne_eqb (w 0) 0 (omega (arith, size_word)))) (and_from (closed_well_written H w) (closed_well_made H (restored H w)) well_written (well_made (restored H w) same_heap))))

module _ (H : Shape) (laws : Laws H.lay) (pos : 0 < H.page) where
  pub image_restores : (start : Machine) → Good H start → ImageRestoresFrom H start
  image_restores start good xs ys zs n n₂ m₀ e₀ re m₁ e₁ q₁ t m₂ e₂ q₂ k l =
      let g₀ = rw (sym e₀) at (good_after H laws pos start good xs) in
      let h = image_sealed H laws pos start good xs ys zs n n₂ m₀ e₀ re m₁ e₁ q₁ t m₂ e₂ q₂ in
      let pi = mark_idle H laws pos m₀ n re in
      (accepts H laws pos m₀ g₀ pi m₂.buf h k l, same_heap H laws pos m₀ g₀ pi m₂.buf h)
