-- MARK, SAVE and the pages that RESOLVE saves on the moving heap are those on its closed form.
use Rattle.std.proofs.Common.{◌≡◌, ℕ, zero, suc, ◌+◌, ◌-◌, ◌*◌, ◌/◌, ◌%◌, ◌<◌, ◌≤◌, min, Bool, true, false, cond, ◌&&◌, ◌||◌, eqb, ltb, leb, ◌≢◌, Option, sym, refl, ap, ◌∙◌, subst, inl, inr, mul_assoc, arith}
use Rattle.std.proofs.lemmas.Bool.{cases_eq, cases_lt, cond-true, eq-eqb, ne_eqb, lt-ltb, le-ltb}
use Rattle.std.proofs.lemmas.Bool.Decides.{nat_tests}
use Rattle.std.proofs.lemmas.Nat.{le-div}
use Rattle.memory.specs.Rights.{rank, lesser}
use Rattle.memory.specs.Memory.{Memory, legal_sizes, changed, with_right, after_prot1, after_unprot}
use Rattle.memory.specs.declared.rights.Right.{Right}
use Rattle.memory.proofs.Memories.{same_memory}
use Rattle.layouts.specs.Layouts.{Rules, Lawful}
use Rattle.layouts.specs.declared.values.Value.{Value}
use Rattle.model.specs.declared.states.Phase.TheVariants.{Idle, Imaging}
use Rattle.model.specs.declared.calls.Call.TheVariants.{Mark, Save}
use Rattle.model.specs.Heap.{Heap as MovingHeap, half_number, half_pages, half_words, to_page, to_start, with_memory, with_unsaved, with_mark_start, with_phase}
use Rattle.model.specs.Scanning.{lowest as lowest_of}
use Rattle.model.specs.Images.{kind_number, payload, register_word, imaged_address, is_used_page, used_lowered, marked_buffer, was_used, saves_word, saved_buffer, page_saved, lowest_unsaved, save_left, save_on}
use Rattle.model.specs.Outcomes.{Machine}
use Rattle.model.specs.Calls.{carried_out}
use Rattle.theory.specs.Machine.{Shape, half, Machine as Closed}
use Rattle.theory.specs.Buffer.{closed_mark_words, closed_page_words}
use Rattle.theory.specs.Steps.{act, mark_now, save_page, lowest_pend, saved, save as closed_save}
use Rattle.theory.specs.Closed.{both_halves, closed_shape, closed}
use Rattle.theory.proofs.Basics.{twice, lowest_least}
use Rattle.theory.proofs.Rights.{InTo}
use Rattle.theory.proofs.ClosedLaws.{size_positive}
use Rattle.theory.proofs.ClosedKept.{Kept, kept_refl, kept_trans, kept_prot1, kept_unprot}
use Rattle.theory.proofs.ClosedMutators.{Meets, found_of, lowest_as}
use Rattle.theory.proofs.ClosedRights.{greater_all, rank_all, rank_read}

-- Pages lowered to read

abbrev lowered_pages : Memory → (ℕ → Bool) → ℕ → ℕ → Memory
lowered_pages m f p n = record { page_size = m.page_size; page_count = m.page_count; word = m.word; right = λ q. cond (leb p q && ltb q (p + n) && f q) (lesser (m.right q) Right.Read) (m.right q) }

module _ (m : Memory) (f : ℕ → Bool) (p : ℕ) where
  lowered_none : m ≡ lowered_pages m f p 0
  lowered_none = same_memory _ _ refl refl (λ b. refl) (λ q. let e : (leb p q && ltb q (p + 0)) ≡ false = grind (arith, nat_tests) in rw e)

  -- the page that comes next
  next_right : (n : ℕ) → (lowered_pages m f p n).right (p + n) ≡ m.right (p + n)
  next_right n = let e : (leb p (p + n) && ltb (p + n) (p + n)) ≡ false = grind (arith, nat_tests) in rw e

  other_right : (n q : ℕ) → q ≢ p + n → (lowered_pages m f p n).right q ≡ (lowered_pages m f p (suc n)).right q
  other_right n q ne = let e : (leb p q && ltb q (p + n)) ≡ (leb p q && ltb q (p + suc n)) = grind (arith, nat_tests) in ap (λ t. cond (t && f q) (lesser (m.right q) Right.Read) (m.right q)) e

  this_right : (n : ℕ) (t : Bool) → f (p + n) ≡ t → cond t (lesser (m.right (p + n)) Right.Read) (m.right (p + n)) ≡ (lowered_pages m f p (suc n)).right (p + n)
  this_right n t e = let g : (leb p (p + n) && ltb (p + n) (p + suc n)) ≡ true = grind (arith, nat_tests) in rw (g, e)

  lowered_more : (n : ℕ) (t : Bool) → p + n < m.page_count → f (p + n) ≡ t → cond t (after_prot1 (lowered_pages m f p n) (p + n) Right.Read) (lowered_pages m f p n) ≡ lowered_pages m f p (suc n)
  lowered_more n true l e =
      cond-true _ _ (lowered_pages m f p n) (lt-ltb (p + n) m.page_count l) ∙ same_memory _ _ refl refl (λ b. refl) (λ q. elim (cases_eq q (p + n)) [
        | inl z ↦ rw (eq-eqb (p + n) q (sym z), z) (ap (λ r. lesser r Right.Read) (next_right n) ∙ this_right n true e)
        | inr ne ↦ rw (ne_eqb (p + n) q (λ z. ne (sym z))) (other_right n q ne)
      ])
  lowered_more n false l e = same_memory _ _ refl refl (λ b. refl) (λ q. elim (cases_eq q (p + n)) [
    | inl z ↦ rw z (next_right n ∙ this_right n false e)
    | inr ne ↦ other_right n q ne
  ])

lowered_as : (h : MovingHeap) (n : ℕ) (m : Memory) (p : ℕ) → p + n ≤ m.page_count → used_lowered h n m p ≡ lowered_pages m (is_used_page h) p n
lowered_as h zero m p l = lowered_none m (is_used_page h) p
lowered_as h (suc n) m p l =
    ap (λ k. cond (is_used_page h (p + n)) (after_prot1 k (p + n) Right.Read) k) (lowered_as h n m p (omega arith)) ∙ lowered_more m (is_used_page h) p n (is_used_page h (p + n)) (omega arith) refl

kept_lowered : (h : MovingHeap) (n : ℕ) (m : Memory) (p : ℕ) → Kept m (used_lowered h n m p)
kept_lowered h zero m p = kept_refl m
kept_lowered h (suc n) m p = go (is_used_page h (p + n)) (kept_lowered h n m p)
  where
    go : (t : Bool) → Kept m (used_lowered h n m p) → Kept m (cond t (after_prot1 (used_lowered h n m p) (p + n) Right.Read) (used_lowered h n m p))
    go true k = kept_trans m (used_lowered h n m p) _ k (kept_prot1 (used_lowered h n m p) (p + n) Right.Read)
    go false k = k

twice_tested : (a b : Bool) → (a && (a && b)) ≡ (a && b)
twice_tested true b = refl
twice_tested false b = refl

-- A register's words

register_as : (v : Value) (j : ℕ) → cond (leb 6 j && ltb j 70) (register_word v j) 0 ≡ cond (leb 6 j && ltb j 70) (cond (eqb ((j - 6) % 2) 0) (kind_number v) (payload v)) 0
register_as v j = elim (cases_lt j 6) [
  | inl l ↦ (let e : (leb 6 j && ltb j 70) ≡ false = grind (arith, nat_tests) in rw e)
  | inr l ↦ (let e : j % 2 ≡ (j - 6) % 2 = omega arith in rw e)
]

module _ (L : Rules) (lawful : Lawful L) (x : Machine) (small : both_halves x.heap.memory.page_count x.heap.memory.page_size ≤ 16384) (legal : legal_sizes x.heap.memory.page_count x.heap.memory.page_size ≡ true)
    (which : half_number x.heap.half ≤ 1) where
  abbrev h : MovingHeap
  h = x.heap

  abbrev m : Memory
  m = x.heap.memory

  abbrev P : ℕ
  P = m.page_size

  abbrev K : ℕ
  K = half_pages m

  abbrev H : Shape
  H = closed_shape L m.page_count m.page_size small

  abbrev c : Closed
  c = closed x

  to_space_inside : to_page h + K ≤ m.page_count
  to_space_inside = omega (arith, twice K (half_number h.half) which)

  -- MARK

  mark_right : (q : ℕ) → rank ((lowered_pages m (is_used_page h) (to_page h) K).right q) ≡ (mark_now H c).st.right q
  mark_right q =
      rank_read (leb (to_page h) q && ltb q (to_page h + K) && is_used_page h q) (m.right q)
      ∙ ap (λ t. cond t (min 1 (rank (m.right q))) (rank (m.right q))) (twice_tested (leb (to_page h) q && ltb q (to_page h + K)) (ltb (q * P) h.space.copy_end || ltb h.new_start (q * P + P)))

  mark_words : (j : ℕ) → marked_buffer L h x.buffer j ≡ closed_mark_words H c j
  mark_words j = ap (λ w. cond (ltb j (70 + half H)) (cond (eqb j 1) K (cond (eqb j 2) L.number (cond (eqb j 3) (half_number h.half) (cond (eqb j 4) (h.space.copy_end - to_start h) (cond (eqb j 5) (to_start h + half_words m - h.new_start) w))))) (x.buffer j)) (register_as (h.register ((j - 6) / 2)) j)

  abbrev marked_with : Memory → Machine
  marked_with k = record { heap = with_phase (with_mark_start (with_unsaved (with_memory h k) (is_used_page h)) h.new_start) Imaging; buffer = marked_buffer L h x.buffer }

  marked_as : closed (marked_with (used_lowered h K m (to_page h))) ≡ mark_now H c
  marked_as = ap (λ k. closed (marked_with k)) (lowered_as h K m (to_page h) to_space_inside) ∙ (λ i. record {
    st = record { mem = m.word; top = h.space.copy_end; low = h.new_start; right = λ q. mark_right q i; cross = h.space.crossing };
    scan = c.scan;
    pend = is_used_page h;
    side = half_number h.half;
    used = h.flip_used;
    reg = h.register;
    mut = h.state;
    phase = Imaging;
    count = h.traps;
    buf = λ j. mark_words j i;
    mark = h.new_start;
  })

  pub meets_mark : (n : ℕ) → Meets x (carried_out L x (Mark n)) (act H c (Mark n))
  meets_mark n = record { left = marked_as; answer = refl; told_same = refl; kept = kept_lowered h K m (to_page h); copied_same = refl; scanned_same = refl }

  -- SAVE

  -- a page of to-space saved
  module _ (imaging : h.phase ≡ Imaging) (p : ℕ) (inside : InTo H c.side p) where
    -- a word past to-space lies on no page of it
    past_words : (j : ℕ) → 70 + half H ≤ j → imaged_address h j / P ≢ p
    past_words j l e =
        let ma = mul_assoc c.side K P in
        let up = le-div (c.side * K + K) (imaged_address h j) P (size_positive m.page_count P legal) (omega arith) in
        omega (arith, inside.1)

    saves_as : (j : ℕ) → saves_word h p j ≡ (leb 70 j && (eqb (imaged_address h j / P) p && was_used h (imaged_address h j)))
    saves_as j = elim (cases_lt j (70 + half H)) [
      | inl l ↦ rw (lt-ltb j (70 + half H) l) (regrouped (leb 70 j) (eqb (imaged_address h j / P) p) (was_used h (imaged_address h j)))
      | inr l ↦ rw (le-ltb j (70 + half H) l, ne_eqb (imaged_address h j / P) p (past_words j l)) (none_saved (leb 70 j) (was_used h (imaged_address h j)))
    ]
      where
        regrouped : (a b d : Bool) → (a && true && b && d) ≡ (a && (b && d))
        regrouped true b d = refl
        regrouped false b d = refl

        none_saved : (a d : Bool) → (a && false && false && d) ≡ (a && (false && d))
        none_saved true d = refl
        none_saved false d = refl

    page_words : (j : ℕ) → saved_buffer h p x.buffer j ≡ closed_page_words H c p j
    page_words j = ap (λ t. cond t (m.word (imaged_address h j)) (x.buffer j)) (saves_as j)

    abbrev saved_with : Memory → Machine
    saved_with k = record { heap = with_unsaved (with_memory h k) (changed h.unsaved p false); buffer = saved_buffer h p x.buffer }

    raised : after_unprot m p Right.All ≡ with_right m p Right.All
    raised = cond-true _ _ m (lt-ltb p m.page_count (omega (arith, inside.1, to_space_inside))) ∙ ap (with_right m p) (greater_all (m.right p))

    pub page_saved_as : closed (page_saved x p) ≡ save_page H c p
    page_saved_as = ap (λ k. closed (saved_with k)) raised ∙ (λ i. record {
      st = record { mem = m.word; top = h.space.copy_end; low = h.new_start; right = λ q. rank_all (eqb p q) (m.right q) i; cross = h.space.crossing };
      scan = c.scan;
      pend = changed h.unsaved p false;
      side = half_number h.half;
      used = h.flip_used;
      reg = h.register;
      mut = h.state;
      phase = imaging i;
      count = h.traps;
      buf = λ j. page_words j i;
      mark = h.mark_start;
    })

    pub kept_saved : Kept m (page_saved x p).heap.memory
    kept_saved = kept_unprot m p Right.All

  -- whether a page is left decides
  saved_as : (y : Machine) → y.heap.memory.page_size ≡ P → Kept m y.heap.memory → (f : Option ℕ) → Meets x (save_left y f) (saved H (closed y) (found_of f))
  saved_as y es k Option.None = record { left = ap (λ z. closed (record { heap = with_phase y.heap Idle; buffer = changed y.buffer 0 z })) es; answer = refl; told_same = refl; kept = k; copied_same = refl; scanned_same = refl }
  saved_as y es k (Option.Some p) = record { left = refl; answer = refl; told_same = refl; kept = k; copied_same = refl; scanned_same = refl }

  lowest_same : lowest_pend H c ≡ found_of (lowest_unsaved h)
  lowest_same = lowest_as K (to_page h) h.unsaved h.unsaved (λ q l u. refl)

  -- the lowest that is left once page p is saved
  lowest_left : (imaging : h.phase ≡ Imaging) (p : ℕ) (inside : InTo H c.side p) → lowest_pend H (save_page H c p) ≡ found_of (lowest_unsaved (page_saved x p).heap)
  lowest_left imaging p inside =
      lowest_as K (to_page h) (changed h.unsaved p false) (changed h.unsaved p false) (λ q l u. refl)
      ∙ ap (λ n. found_of (lowest_of (n / 2) (half_number h.half * (n / 2)) (changed h.unsaved p false))) (sym (kept_saved imaging p inside).page_count)

  save_by : h.phase ≡ Imaging → (f : Option ℕ) → lowest_unsaved h ≡ f → Meets x (save_on x f) (closed_save H c (found_of f))
  save_by imaging Option.None e = saved_as x refl (kept_refl m) Option.None
  save_by imaging (Option.Some p) e =
      let l = lowest_least K (to_page h) h.unsaved p (lowest_same ∙ ap found_of e) in
      let inside : InTo H c.side p = (l.0, l.1) in
      let k = kept_saved imaging p inside in
      subst (λ r. Meets x (save_left (page_saved x p) (lowest_unsaved (page_saved x p).heap)) r)
      (λ i. saved H (page_saved_as imaging p inside i) (sym (lowest_left imaging p inside) i))
      (saved_as (page_saved x p) k.page_size k (lowest_unsaved (page_saved x p).heap))

  pub meets_save : h.phase ≡ Imaging → (n : ℕ) → Meets x (carried_out L x (Save n)) (act H c (Save n))
  meets_save imaging n = rw lowest_same (save_by imaging (lowest_unsaved h) refl)
