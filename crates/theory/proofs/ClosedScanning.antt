-- Scanning words is scanning them in closed form.
use Rattle.std.proofs.Common.{◌≡◌, ℕ, zero, suc, ◌+◌, ◌-◌, ◌*◌, ◌<◌, ◌≤◌, min, Bool, true, false, cond, ◌&&◌, eqb, ltb, ◌≢◌, sym, refl, ap, ◌∙◌, subst, inl, inr, le_refl, arith}
use Rattle.std.proofs.lemmas.Bool.{cases_eq, cases_lt, eq-eqb, ne_eqb, lt-ltb, le-ltb}
use Rattle.std.proofs.lemmas.Bool.Decides.{nat_tests}
use Rattle.memory.specs.Memory.{legal_sizes, extent, after_set}
use Rattle.memory.proofs.Memories.{after_set_inside}
use Rattle.layouts.specs.Layouts.{Rules, Lawful}
use Rattle.layouts.specs.declared.values.Value.{Value}
use Rattle.layouts.specs.declared.values.Value.TheVariants.{Nil, Number, Reference}
use Rattle.model.specs.Heap.{Moving}
use Rattle.model.specs.Objects.{slot_count, object_words, packed_word}
use Rattle.model.specs.Forwarding.{forwarded, new_address}
use Rattle.model.specs.Scanning.{slot_scanned, word_scanned, head_at, run_scanned}
use Rattle.theory.specs.Model.{map_v, Layout, upd}
use Rattle.theory.specs.Collect.{Heap, Flip, FlipOk, St, Pair, Alive, LooseInv, size as size_of, rescan, scan_slot, scan_at, closed_head_at, scan_run}
use Rattle.theory.specs.Closed.{closed_layout, both_halves, closed_moving}
use Rattle.theory.proofs.Scan.{Scanned, read, here_ref}
use Rattle.theory.proofs.Pages.{Points, found, scan_one, points_on, unscanned_on}
use Rattle.theory.proofs.ClosedLaws.{closed_laws}
use Rattle.theory.proofs.ClosedKept.{kept_forwarded, kept_word}
use Rattle.theory.proofs.ClosedRoots.{forward_here}

-- more words allowed than there are up to the end change nothing
pub enough : (L : Layout) (P e k j : ℕ) (s : St) (hd a : ℕ) → e ≤ a + k → e ≤ a + j → scan_run L P e k s hd a ≡ scan_run L P e j s hd a
enough L P e zero zero s hd a x y = refl
enough L P e zero (suc j) s hd a x y = rw (le-ltb a (min e s.top) (omega arith))
enough L P e (suc k) zero s hd a x y = rw (le-ltb a (min e s.top) (omega arith))
enough L P e (suc k) (suc j) s hd a x y = ap (λ r. cond (ltb a (min e s.top)) r (s, a)) (enough L P e k j (scan_at L P s (closed_head_at L s hd a) a) (closed_head_at L s hd a) (suc a) (omega arith) (omega arith))

-- a state with a word written
abbrev wrote : St → ℕ → ℕ → St
wrote t a w = record { mem = upd t.mem a w; top = t.top; low = t.low; right = t.right; cross = t.cross }

stored : (s : Moving) (low a w : ℕ) → a < extent s.memory → closed_moving (record { memory = after_set s.memory a w; space = s.space }) low ≡ wrote (closed_moving s low) a w
stored s low a w h = ap (λ m. closed_moving (record { memory = m; space = s.space }) low) (after_set_inside s.memory a w h)

same_head : (a hd n : ℕ) → hd ≤ a → eqb (a - hd) n ≡ eqb a (hd + n)
same_head a hd n l = elim (cases_eq a (hd + n)) [
  | inl e ↦ eq-eqb (a - hd) n (omega arith) ∙ sym (eq-eqb a (hd + n) e)
  | inr ne ↦ ne_eqb (a - hd) n (omega arith) ∙ sym (ne_eqb a (hd + n) ne)
]

module _ (L : Rules) (lawful : Lawful L) (count size : ℕ) (legal : legal_sizes count size ≡ true) (F : Flip) (ok : FlipOk (closed_layout L) F)
    (found_inside : (p : ℕ) → F.here p ≡ true → F.addr p < both_halves count size) (last_inside : F.last ≤ count * size) (A : Heap) (low : ℕ) where
  abbrev lay : Layout
  lay = closed_layout L

  module _ (s : Moving) (g : Pair) (inv : LooseInv lay F A (closed_moving s low) g) (room : F.start + F.used ≤ g.limit) (es : s.memory.page_size ≡ size) (ec : s.memory.page_count ≡ count) where
    -- a slot that holds what FLIP found there
    slot_as : (x i a : ℕ) (v : Value) → Alive F.here v → a < extent s.memory → closed_moving (slot_scanned L s x i a (map_v F.addr v)) low ≡ rescan lay size (closed_moving s low) x i a (map_v F.addr v)
    slot_as x i a Nil h l = refl
    slot_as x i a (Number n) h l = refl
    slot_as x i a (Reference q) h l =
        let k = kept_forwarded L s (F.addr q) in
        stored (forwarded L s (F.addr q)) low a (packed_word L x i (Reference (new_address s (F.addr q)))) (rw (k.page_size, k.page_count) l)
        ∙ ap (λ t. wrote t.0 a (packed_word L x i (Reference t.1))) (forward_here L lawful count size legal F ok found_inside last_inside A s low g inv room es ec q h)

    slot_by : (x i a : ℕ) (v u : Value) → u ≡ map_v F.addr v → Alive F.here v → a < extent s.memory → closed_moving (slot_scanned L s x i a u) low ≡ rescan lay size (closed_moving s low) x i a u
    slot_by x i a v u e h l = subst (λ z. closed_moving (slot_scanned L s x i a z) low ≡ rescan lay size (closed_moving s low) x i a z) (sym e) (slot_as x i a v h l)

    either : (t : Bool) (y : Moving) (z : St) → (t ≡ false → closed_moving y low ≡ z) → closed_moving (cond t s y) low ≡ cond t (closed_moving s low) z
    either true y z f = refl
    either false y z f = f refl

    -- the word at a, of the object of q
    module _ (hd a q : ℕ) (l : g.live q ≡ true) (o : q < F.old.many) (e : hd ≡ g.to q) (f : g.to q ≤ a) (t : a < g.to q + size_of lay A q) (u : g.done a ≡ false) where
      head_is : s.memory.word hd ≡ A.hdr q
      head_is = ap s.memory.word e ∙ inv.head q l

      word_inside : a < extent s.memory
      word_inside = let z = inv.within q l o in let li = inv.limits in rw (es, ec) (omega arith)

      slot_word : a ≢ hd → closed_moving (slot_scanned L s (s.memory.word hd) (a - hd - 1) a (L.unpacked (s.memory.word hd) (a - hd - 1) (s.memory.word a))) low ≡ scan_slot lay size (closed_moving s low) (s.memory.word hd) (a - suc hd) a
      slot_word ne =
          let i : a - hd - 1 ≡ a - suc hd = omega arith in
          let ea : g.to q + suc (a - suc hd) ≡ a = omega arith in
          let few : a - suc hd < slot_count L (A.hdr q) = omega arith in
          let u₂ : g.done (g.to q + suc (a - suc hd)) ≡ false = rw ea u in
          let rd : L.unpacked (A.hdr q) (a - suc hd) (s.memory.word (g.to q + suc (a - suc hd))) ≡ map_v F.addr (F.old.val q (a - suc hd)) = read lay (closed_laws L lawful) size F ok A (closed_moving s low) g inv room q (a - suc hd) l o few u₂ (F.old.val q (a - suc hd)) refl in
          let al = here_ref lay (closed_laws L lawful) size F ok A (closed_moving s low) g inv room q (a - suc hd) l o few u₂ (F.old.val q (a - suc hd)) refl in
          ap (λ j. closed_moving (slot_scanned L s (s.memory.word hd) j a (L.unpacked (s.memory.word hd) j (s.memory.word a))) low) i
          ∙ slot_by (s.memory.word hd) (a - suc hd) a (F.old.val q (a - suc hd)) (L.unpacked (s.memory.word hd) (a - suc hd) (s.memory.word a)) (ap (λ x. L.unpacked x (a - suc hd) (s.memory.word a)) head_is ∙ (rw ea at rd)) al word_inside

      pub word_as : closed_moving (word_scanned L s hd a) low ≡ scan_at lay size (closed_moving s low) hd a
      word_as = elim (cases_eq a hd) [
        | inl k ↦ rw (eq-eqb a hd k)
        | inr ne ↦ rw (ne_eqb a hd ne) (slot_word ne)
      ]

    head_as : (hd a : ℕ) → hd ≤ a → head_at L s.memory hd a ≡ closed_head_at lay (closed_moving s low) hd a
    head_as hd a l = ap (λ t. cond t a hd) (same_head a hd (object_words L (s.memory.word hd)) l)

  -- Runs of words

  abbrev closed_run : Moving × ℕ → St × ℕ
  closed_run r = (closed_moving r.0 low, r.1)

  abbrev Runs : ℕ → ℕ → Type 0
  Runs k e = (s : Moving) (g : Pair) (hd a : ℕ) → LooseInv lay F A (closed_moving s low) g → F.start + F.used ≤ g.limit → s.memory.page_size ≡ size → s.memory.page_count ≡ count →
      F.start ≤ a → (a < s.space.copy_end → Points lay F A g hd a) → ((x : ℕ) → a ≤ x → x < e → x < g.limit → g.done x ≡ false) →
      closed_run (run_scanned L k e s hd a) ≡ scan_run lay size e k (closed_moving s low) hd a

  -- the words after the one at a, of the object of q
  run_on : (k e : ℕ) → Runs k e → (s : Moving) (g : Pair) (hd a q : ℕ) (s₁ : Moving) (sc : Scanned lay size F A (closed_moving s low) g a (closed_moving s₁ low)) → F.start + F.used ≤ g.limit → s₁.memory.page_size ≡ size → s₁.memory.page_count ≡ count →
      F.start ≤ a → g.live q ≡ true → q < F.old.many → hd ≡ g.to q → g.to q ≤ a → a < g.to q + size_of lay A q → ((x : ℕ) → a ≤ x → x < e → x < g.limit → g.done x ≡ false) →
      closed_run (run_scanned L k e s₁ hd (suc a)) ≡ scan_run lay size e k (closed_moving s₁ low) hd (suc a)
  run_on k e ih s g hd a q s₁ sc room es ec l lq o eh f t un =
      ih s₁ sc.pair hd (suc a) sc.inv (rw sc.grows.limit room) es ec (omega arith) (λ z. points_on lay (closed_laws L lawful) size F ok A (closed_moving s low) g hd a q (closed_moving s₁ low) sc lq o eh f t) (unscanned_on lay (closed_laws L lawful) size F ok A (closed_moving s low) g a e (closed_moving s₁ low) sc un)

  run_yes : (k e : ℕ) → Runs k e → (s : Moving) (g : Pair) (hd a : ℕ) (inv : LooseInv lay F A (closed_moving s low) g) → F.start + F.used ≤ g.limit → s.memory.page_size ≡ size → s.memory.page_count ≡ count →
      F.start ≤ a → Points lay F A g hd a → ((x : ℕ) → a ≤ x → x < e → x < g.limit → g.done x ≡ false) → a < e → a < s.space.copy_end →
      closed_run (run_scanned L k e (word_scanned L s (head_at L s.memory hd a) a) (head_at L s.memory hd a) (suc a)) ≡ scan_run lay size e k (scan_at lay size (closed_moving s low) (closed_head_at lay (closed_moving s low) hd a) a) (closed_head_at lay (closed_moving s low) hd a) (suc a)
  run_yes k e ih s g hd a inv room es ec l pt un ae at =
      let f = found lay (closed_laws L lawful) size F ok A (closed_moving s low) g inv hd a l at pt in
      let not_yet : g.done a ≡ false = un a (le_refl _) ae (omega (arith, inv.limits)) in
      let hd₁ = closed_head_at lay (closed_moving s low) hd a in
      let wa = word_as s g inv room es ec hd₁ a f.0 f.1 f.2 f.3 f.4 f.5 not_yet in
      let sc = scan_one lay (closed_laws L lawful) size F ok A (closed_moving s low) g inv room hd₁ a f.0 f.1 f.2 f.3 f.4 f.5 not_yet in
      let k₁ = kept_word L s hd₁ a in
      ap (λ z. closed_run (run_scanned L k e (word_scanned L s z a) z (suc a))) (head_as s g inv room es ec hd a (omega (arith, pt.head, pt.from)))
      ∙ run_on k e ih s g hd₁ a f.0 (word_scanned L s hd₁ a) (subst (Scanned lay size F A (closed_moving s low) g a) (sym wa) sc) room (k₁.page_size ∙ es) (k₁.page_count ∙ ec) l f.1 f.2 f.3 f.4 f.5 un
      ∙ ap (λ t. scan_run lay size e k t hd₁ (suc a)) wa

  run_next : (k e : ℕ) → Runs k e → Runs (suc k) e
  unfolding run_scanned
  run_next k e ih s g hd a inv room es ec l pt un = elim (cases_lt a (min e s.space.copy_end)) [
    | inl b ↦ (
        let t : (ltb a e && ltb a s.space.copy_end) ≡ true = grind (arith, nat_tests) in
        rw (lt-ltb a (min e s.space.copy_end) b, t) (run_yes k e ih s g hd a inv room es ec l (pt (omega arith)) un (omega arith) (omega arith)))
    | inr b ↦ (
        let t : (ltb a e && ltb a s.space.copy_end) ≡ false = grind (arith, nat_tests) in
        rw (le-ltb a (min e s.space.copy_end) b, t))
  ]

  pub run_as : (k e : ℕ) → Runs k e
  unfolding run_scanned
  run_as zero e = λ s g hd a inv room es ec l pt un. refl
  run_as (suc k) e = run_next k e (run_as k e)
