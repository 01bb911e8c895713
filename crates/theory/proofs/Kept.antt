-- While an image is made: an unsaved page can only be read and has its words of MARK; of a saved one the buffer has them.
use Rattle.std.proofs.Common.{◌≡◌, ℕ, suc, ◌+◌, ◌-◌, ◌*◌, ◌/◌, ◌<◌, ◌≤◌, Bool, true, false, cond, not, ◌&&◌, eqb, ltb, leb, ◌≢◌, ◌⊎◌, List, [], ◌∷◌, sym, refl, ap, ◌∙◌, inl, inr, arith}
use Rattle.std.proofs.lemmas.Bool.{cases_eq, cases_lt, cases_Bool, both_ways, eq-eqb, ne_eqb, eqb-true, lt-ltb, le-ltb, le-leb, lt-leb, leb-true, ltb-true, and_from, and_parts, and_left, and_right, or_cases, or_left, or_right, not-false, cond-true, cond-false}
use Rattle.theory.specs.Model.{upd}
use Rattle.theory.specs.Collect.{Laws}
use Rattle.theory.specs.Machine.{Shape, half, Machine, view_m, refusal, is_busy, closed_is_imaging, lowest, Found, Found.none, Found.found}
use Rattle.model.specs.declared.states.Phase.TheVariants.{Idle, Collecting, Imaging}
use Rattle.model.specs.declared.calls.Call.{Call}
use Rattle.model.specs.declared.calls.Call.TheVariants.{New, Load, Store, Copy, SetNumber, SetNil, Same, Tell, Count, Flip as Turn, Step, Take, Resolve, Mark, Save}
use Rattle.theory.specs.Buffer.{closed_head_word, closed_page_words, word_for}
use Rattle.theory.specs.Steps.{call, act, denied, traps, slot_at, loaded, stored, save, saved, seal, mark_now, closed_used_page, resolved, resolved_save, closed_new_at, behind, scan_page, save_page, lowest_pend, step, stepped, lowest_behind}
use Rattle.theory.specs.Image.{used_at, image_word}
use Rattle.theory.specs.Runs.{after, Quiet, marks}
use Rattle.theory.proofs.Basics.{upd_other, upd_at, page_lo, page_hi, div_mono, lowest_passes, lowest_fails}
use Rattle.theory.proofs.BodyNew.{in_range, out_range}
use Rattle.theory.proofs.Cases.{load_ways, store_ways}
use Rattle.theory.proofs.Refusals.{cond_zero}
use Rattle.theory.proofs.Rights.{InTo, Rights}
use Rattle.theory.proofs.Repeats.{page_in}
use Rattle.theory.proofs.Sim.{busy_phase, image_phase}
use Rattle.theory.proofs.Drains.{idle≢imaging, imaging≢}

-- m₀ being the state at MARK
pub record Kept (H : Shape) (m₀ m : Machine) : Type 0 where
  pub side : m.side ≡ m₀.side
  pub top : m.st.top ≡ m₀.st.top
  pub mark : m.mark ≡ m₀.st.low
  pub head : (i : ℕ) → i < 70 → m.buf i ≡ closed_head_word H m₀ i
  pub closed : (n : ℕ) → InTo H m₀.side n → m.pend n ≡ true → m.st.right n ≡ 1
  pub waits : (i : ℕ) → 70 ≤ i → i < 70 + half H → used_at m₀ (word_for H m₀.side i) ≡ true → m.pend (word_for H m₀.side i / H.page) ≡ true → m.st.mem (word_for H m₀.side i) ≡ m₀.st.mem (word_for H m₀.side i)
  pub saved : (i : ℕ) → 70 ≤ i → i < 70 + half H → used_at m₀ (word_for H m₀.side i) ≡ true → m.pend (word_for H m₀.side i / H.page) ≡ false → m.buf i ≡ m₀.st.mem (word_for H m₀.side i)
  pub unused : (i : ℕ) → 70 ≤ i → i < 70 + half H → used_at m₀ (word_for H m₀.side i) ≡ false → m.buf i ≡ 0

-- the buffer holds the image of m₀
abbrev pub Holds : Shape → Machine → Machine → Type 0
Holds H m₀ m = (i : ℕ) → i < 70 + half H → m.buf i ≡ image_word H m₀ i

pub image_head : (H : Shape) (m : Machine) (i : ℕ) → i ≢ 0 → i < 70 → image_word H m i ≡ closed_head_word H m i
image_head H m i n l = cond-false (eqb i 0) H.page _ (ne_eqb i 0 n) ∙ cond-true (ltb i 70) (closed_head_word H m i) _ (lt-ltb i 70 l)

-- an image of m₀ under way or sealed
abbrev pub Imaged : Shape → Machine → Machine → Type 0
Imaged H m₀ m = ((m.phase ≡ Imaging) × Kept H m₀ m) ⊎ ((m.phase ≢ Imaging) × Holds H m₀ m)

module _ (H : Shape) (laws : Laws H.lay) (pos : 0 < H.page) where
  abbrev P : ℕ
  P = H.page

  -- the word that buffer word i is for lies in to-space
  word_in : (sd i : ℕ) → 70 ≤ i → i < 70 + half H → InTo H sd (word_for H sd i / P)
  word_in sd i l b = page_in H laws pos sd (word_for H sd i) (omega arith) (omega arith)

  -- MARK
  pub kept_mark : (m₀ : Machine) → Rights H m₀.st m₀.pend m₀.scan m₀.side m₀.used m₀.mark Idle → Kept H m₀ (mark_now H m₀)
  kept_mark m₀ r = record {
    side = refl;
    top = refl;
    mark = refl;
    head = λ i l. rw (lt-ltb i (70 + half H) (omega arith));
    closed = λ n i e. rw (e, r n i);
    waits = λ i l b u p. refl;
    saved = λ i l b u p. absurd (both_ways (closed_used_page H m₀ (word_for H m₀.side i / P)) p (used_page i l b u));
    unused = λ i l b u. rw (lt-ltb i (70 + half H) b) (zero_word i l);
  }
    where
      zero_word : (i : ℕ) → 70 ≤ i → closed_head_word H m₀ i ≡ 0
      zero_word i l = rw (ne_eqb i 1 (omega arith), ne_eqb i 2 (omega arith), ne_eqb i 3 (omega arith), ne_eqb i 4 (omega arith), ne_eqb i 5 (omega arith), out_range 6 70 i (inr l))

      used_page : (i : ℕ) → 70 ≤ i → i < 70 + half H → used_at m₀ (word_for H m₀.side i) ≡ true → closed_used_page H m₀ (word_for H m₀.side i / P) ≡ true
      used_page i l b u =
          let x : ℕ = word_for H m₀.side i in
          let n : ℕ = word_for H m₀.side i / P in
          let w = word_in m₀.side i l b in
          let lo = page_lo P (word_for H m₀.side i) in
          let hi = page_hi P (word_for H m₀.side i) pos in
          and_from _ _ (in_range (m₀.side * H.pages) (m₀.side * H.pages + H.pages) n w.0 w.1)
          (elim (or_cases (ltb x m₀.st.top) (leb m₀.st.low x) u) [
            | inl t ↦ or_left (ltb (n * P) m₀.st.top) (ltb m₀.st.low (n * P + P)) (lt-ltb (n * P) m₀.st.top (omega (arith, ltb-true (word_for H m₀.side i) m₀.st.top t)))
            | inr t ↦ or_right (ltb (n * P) m₀.st.top) (ltb m₀.st.low (n * P + P)) (lt-ltb m₀.st.low (n * P + P) (omega (arith, leb-true m₀.st.low (word_for H m₀.side i) t)))
          ])

  module _ (m₀ m : Machine) (k : Kept H m₀ m) where
    -- words written on pages at all, and nothing else of the image changed
    kept_words : (m' : Machine) → m'.side ≡ m.side → m'.st.top ≡ m.st.top → m'.mark ≡ m.mark → m'.buf ≡ m.buf → m'.pend ≡ m.pend → m'.st.right ≡ m.st.right → ((x : ℕ) → m.st.right (x / P) ≢ 2 → m'.st.mem x ≡ m.st.mem x) → Kept H m₀ m'
    kept_words m' es et em eb ep er ew = record {
      side = es ∙ k.side;
      top = et ∙ k.top;
      mark = em ∙ k.mark;
      head = λ i l. ap (λ f. f i) eb ∙ k.head i l;
      closed = rw (ep, er) k.closed;
      waits = λ i l b u p.
          let p₂ = ap (λ f. f (word_for H m₀.side i / P)) (sym ep) ∙ p in
          let c = k.closed (word_for H m₀.side i / P) (word_in m₀.side i l b) p₂ in
          ew (word_for H m₀.side i) (omega arith) ∙ k.waits i l b u p₂;
      saved = rw (ep, eb) k.saved;
      unused = rw eb k.unused;
    }

    kept_same : (m' : Machine) → m'.side ≡ m.side → m'.mark ≡ m.mark → m'.buf ≡ m.buf → m'.pend ≡ m.pend → m'.st ≡ m.st → Kept H m₀ m'
    kept_same m' es em eb ep et = kept_words m' es (ap (λ s. s.top) et) em eb ep (ap (λ s. s.right) et) (λ x n. ap (λ s. s.mem x) et)

    kept_store : (j s i x : ℕ) → eqb (m.st.right (slot_at m j s i / P)) 2 ≡ true → Kept H m₀ (stored H m j s i x)
    kept_store j s i x t = kept_words (stored H m j s i x) refl refl refl refl refl refl
        (λ y n. upd_other m.st.mem (slot_at m j s i) y _ (λ e. n (ap (λ z. m.st.right (z / P)) e ∙ eqb-true _ _ t)))

    kept_new : (j d r w : ℕ) (f : Found) → lowest (suc ((m.st.low - 1) / P - (m.st.low - suc (r + w)) / P)) ((m.st.low - suc (r + w)) / P) (λ n. not (eqb (m.st.right n) 2)) ≡ f → Kept H m₀ (closed_new_at H m j d r w f).next
    kept_new j d r w (found q) e = kept_same (closed_new_at H m j d r w (found q)).next refl refl refl refl refl
    kept_new j d r w none e = kept_words (closed_new_at H m j d r w none).next refl refl refl refl refl refl
        (λ x n. rw (out_range (m.st.low - suc (r + w)) m.st.low x (elim (cases_lt x (m.st.low - suc (r + w))) [
          | inl a ↦ inl a
          | inr a ↦ elim (cases_lt x m.st.low) [ inr b ↦ inr b | inl b ↦ absurd (n (writable x a b)) ]
        ])))
      where
        writable : (x : ℕ) → m.st.low - suc (r + w) ≤ x → x < m.st.low → m.st.right (x / P) ≡ 2
        writable x a b =
            let d₁ = div_mono P (m.st.low - suc (r + w)) x a in
            let d₂ = div_mono P x (m.st.low - 1) (omega arith) in
            eqb-true (m.st.right (x / P)) 2 (not-false (eqb (m.st.right (x / P)) 2) (lowest_fails (suc ((m.st.low - 1) / P - (m.st.low - suc (r + w)) / P)) ((m.st.low - suc (r + w)) / P) (λ n. not (eqb (m.st.right n) 2)) e (x / P) d₁ (omega arith)))

    -- a page saved
    page_word : (n i : ℕ) → 70 ≤ i → closed_page_words H m n i ≡ cond (eqb (word_for H m₀.side i / P) n && used_at m₀ (word_for H m₀.side i)) (m.st.mem (word_for H m₀.side i)) (m.buf i)
    page_word n i l = rw (le-leb 70 i l, k.side, k.top, k.mark)

    kept_save : (n : ℕ) → m.pend n ≡ true → Kept H m₀ (save_page H m n)
    kept_save n pn = record {
      side = k.side;
      top = k.top;
      mark = k.mark;
      head = λ i l. rw (lt-leb 70 i l) (k.head i l);
      closed = λ q i e. elim (cases_eq q n) [
        | inl z ↦ absurd (both_ways (upd m.pend n false q) (upd_at m.pend n q false z) e)
        | inr ne ↦ upd_other m.st.right n q 2 ne ∙ k.closed q i (sym (upd_other m.pend n q false ne) ∙ e)
      ];
      waits = λ i l b u p. elim (cases_eq (word_for H m₀.side i / P) n) [
        | inl z ↦ absurd (both_ways (upd m.pend n false (word_for H m₀.side i / P)) (upd_at m.pend n (word_for H m₀.side i / P) false z) p)
        | inr ne ↦ k.waits i l b u (sym (upd_other m.pend n (word_for H m₀.side i / P) false ne) ∙ p)
      ];
      saved = λ i l b u p. page_word n i l ∙ elim (cases_eq (word_for H m₀.side i / P) n) [
        | inl z ↦ rw (and_from (eqb (word_for H m₀.side i / P) n) (used_at m₀ (word_for H m₀.side i)) (eq-eqb (word_for H m₀.side i / P) n z) u) (k.waits i l b u (ap m.pend z ∙ pn))
        | inr ne ↦ rw (and_left (eqb (word_for H m₀.side i / P) n) (used_at m₀ (word_for H m₀.side i)) (ne_eqb (word_for H m₀.side i / P) n ne)) (k.saved i l b u (sym (upd_other m.pend n (word_for H m₀.side i / P) false ne) ∙ p))
      ];
      unused = λ i l b u. page_word n i l ∙ rw (and_right (eqb (word_for H m₀.side i / P) n) (used_at m₀ (word_for H m₀.side i)) u) (k.unused i l b u);
    }

    -- no page is unsaved: the buffer holds the image once word 0 is set
    holds_seal : lowest_pend H m ≡ none → Holds H m₀ (seal H m)
    holds_seal e i l = elim (cases_eq i 0) [
      | inl z ↦ rw (upd_at m.buf 0 i P z, eq-eqb i 0 z)
      | inr nz ↦ upd_other m.buf 0 i P nz ∙ elim (cases_lt i 70) [
        | inl b ↦ k.head i b ∙ sym (image_head H m₀ i nz b)
        | inr b ↦ rw (ne_eqb i 0 nz, le-ltb i 70 b) (elim (cases_Bool (used_at m₀ (word_for H m₀.side i))) [
          | inl u ↦ rw u (k.saved i b l u (let w = word_in m₀.side i b l in lowest_fails H.pages (m.side * H.pages) m.pend e (word_for H m₀.side i / P) (rw k.side w.0) (rw k.side w.1)))
          | inr u ↦ rw u (k.unused i b l u)
        ])
      ]
    ]

    -- every call while the image is under way
    module _ (pi : m.phase ≡ Imaging) where
      kept_on : (m' : Machine) → m'.phase ≡ m.phase → Kept H m₀ m' → Imaged H m₀ m'
      kept_on m' e x = inl (e ∙ pi, x)

      imaged_same : (m' : Machine) → m'.phase ≡ m.phase → m'.side ≡ m.side → m'.mark ≡ m.mark → m'.buf ≡ m.buf → m'.pend ≡ m.pend → m'.st ≡ m.st → Imaged H m₀ m'
      imaged_same m' e es em eb ep et = kept_on m' e (kept_same m' es em eb ep et)

      imaged_new : (j d r w : ℕ) (f : Found) → lowest (suc ((m.st.low - 1) / P - (m.st.low - suc (r + w)) / P)) ((m.st.low - suc (r + w)) / P) (λ n. not (eqb (m.st.right n) 2)) ≡ f → Imaged H m₀ (closed_new_at H m j d r w f).next
      imaged_new j d r w (found q) e = kept_on (closed_new_at H m j d r w (found q)).next refl (kept_new j d r w (found q) e)
      imaged_new j d r w none e = kept_on (closed_new_at H m j d r w none).next refl (kept_new j d r w none e)

      imaged_resolve_save : (j p : ℕ) (t : Bool) → (closed_is_imaging m.phase && m.pend p) ≡ t → Imaged H m₀ (resolved_save H m j p t).next
      imaged_resolve_save j p true e = let x = kept_save p (and_parts (closed_is_imaging m.phase) (m.pend p) e).1 in inl (refl, record { side = x.side; top = x.top; mark = x.mark; head = x.head; closed = x.closed; waits = x.waits; saved = x.saved; unused = x.unused })
      imaged_resolve_save j p false e = imaged_same (resolved_save H m j p false).next refl refl refl refl refl refl

      not_busy : m.phase ≢ Collecting
      not_busy e = imaging≢ (sym pi ∙ e)

      imaged_resolve : (j p : ℕ) (t : Bool) → (is_busy m.phase && behind H m p) ≡ t → Imaged H m₀ (resolved H m j p t).next
      imaged_resolve j p true e = absurd (not_busy (busy_phase H laws pos m.phase (and_parts (is_busy m.phase) (behind H m p) e).0))
      imaged_resolve j p false e = imaged_resolve_save j p (closed_is_imaging m.phase && m.pend p) refl

  imaged_saved : (m₀ m : Machine) → m.phase ≡ Imaging → Kept H m₀ m → (f : Found) → lowest_pend H m ≡ f → Imaged H m₀ (saved H m f).next
  imaged_saved m₀ m pi k none e = inr (idle≢imaging, holds_seal m₀ m k e)
  imaged_saved m₀ m pi k (found n) e = inl (pi, k)

  imaged_save : (m₀ m : Machine) → m.phase ≡ Imaging → Kept H m₀ m → (f : Found) → lowest_pend H m ≡ f → Imaged H m₀ (save H m f).next
  imaged_save m₀ m pi k none e = imaged_saved m₀ m pi k none e
  imaged_save m₀ m pi k (found n) e = imaged_saved m₀ (save_page H m n) refl (kept_save m₀ m k n (lowest_passes H.pages (m.side * H.pages) m.pend n e)) (lowest_pend H (save_page H m n)) refl

  imaged_act : (m₀ m : Machine) (k : Kept H m₀ m) (pi : m.phase ≡ Imaging) (c : Call) → refusal (view_m H m) c ≡ 0 → Imaged H m₀ (act H m c).next
  imaged_act m₀ m k pi (New j d r w) e = imaged_new m₀ m k pi j d r w _ refl
  imaged_act m₀ m k pi (Load j d s i) e = load_ways H m (λ o. Imaged H m₀ o.next) j d s i (λ t. imaged_same m₀ m k pi (traps m j (slot_at m j s i / P)).next refl refl refl refl refl refl) (λ t. imaged_same m₀ m k pi (loaded H m j d s i) refl refl refl refl refl refl)
  imaged_act m₀ m k pi (Store j s i x) e = store_ways H m (λ o. Imaged H m₀ o.next) j s i x (λ t. inl (pi, kept_store m₀ m k j s i x t)) (λ t. imaged_same m₀ m k pi (traps m j (slot_at m j s i / P)).next refl refl refl refl refl refl)
  imaged_act m₀ m k pi (Copy j d f s) e = imaged_same m₀ m k pi (act H m (Copy j d f s)).next refl refl refl refl refl refl
  imaged_act m₀ m k pi (SetNumber j d n) e = imaged_same m₀ m k pi (act H m (SetNumber j d n)).next refl refl refl refl refl refl
  imaged_act m₀ m k pi (SetNil j d) e = imaged_same m₀ m k pi (act H m (SetNil j d)).next refl refl refl refl refl refl
  imaged_act m₀ m k pi (Same j x y) e = inl (pi, k)
  imaged_act m₀ m k pi (Tell j x) e = inl (pi, k)
  imaged_act m₀ m k pi Count e = inl (pi, k)
  imaged_act m₀ m k pi Turn e = absurd (let z : ◌≡◌ {A = ℕ} 16 0 = rw pi at e in omega arith)
  imaged_act m₀ m k pi Step e = absurd (let z : ◌≡◌ {A = ℕ} 18 0 = rw pi at e in omega arith)
  imaged_act m₀ m k pi (Take j) e = imaged_same m₀ m k pi (act H m (Take j)).next refl refl refl refl refl refl
  imaged_act m₀ m k pi (Resolve j p n) e = imaged_resolve m₀ m k pi j p (is_busy m.phase && behind H m p) refl
  imaged_act m₀ m k pi (Mark n) e = absurd (let y = (cond_zero (ltb n (70 + half H)) 5 _ (omega arith) e).1 in let z : ◌≡◌ {A = ℕ} 16 0 = rw pi at y in omega arith)
  imaged_act m₀ m k pi (Save n) e = imaged_save m₀ m pi k (lowest_pend H m) refl

  -- a refused call leaves all but the mutators
  abbrev Still : Machine → Machine → Type 0
  Still m m' = (m'.phase ≡ m.phase) × (m'.side ≡ m.side) × (m'.mark ≡ m.mark) × (m'.buf ≡ m.buf) × (m'.pend ≡ m.pend) × (m'.st ≡ m.st)

  denied_still : (m : Machine) (c : Call) (e : ℕ) → Still m (denied m c e)
  denied_still m (New j d x y) e = (refl, refl, refl, refl, refl, refl)
  denied_still m (Load j d x i) e = (refl, refl, refl, refl, refl, refl)
  denied_still m (Store j x i y) e = (refl, refl, refl, refl, refl, refl)
  denied_still m (Copy j d f x) e = (refl, refl, refl, refl, refl, refl)
  denied_still m (SetNumber j d n) e = (refl, refl, refl, refl, refl, refl)
  denied_still m (SetNil j d) e = (refl, refl, refl, refl, refl, refl)
  denied_still m (Same j x y) e = (refl, refl, refl, refl, refl, refl)
  denied_still m (Tell j x) e = (refl, refl, refl, refl, refl, refl)
  denied_still m Count e = (refl, refl, refl, refl, refl, refl)
  denied_still m Turn e = (refl, refl, refl, refl, refl, refl)
  denied_still m Step e = (refl, refl, refl, refl, refl, refl)
  denied_still m (Take j) e = (refl, refl, refl, refl, refl, refl)
  denied_still m (Resolve j q n) e = (refl, refl, refl, refl, refl, refl)
  denied_still m (Mark n) e = (refl, refl, refl, refl, refl, refl)
  denied_still m (Save n) e = (refl, refl, refl, refl, refl, refl)

  -- no image is under way, and none begins
  abbrev pub Rests : Machine → Machine → Type 0
  Rests m m' = (m'.phase ≢ Imaging) × (m'.buf ≡ m.buf)

  rests_stepped : (m m₂ : Machine) → m₂.phase ≢ Imaging → m₂.buf ≡ m.buf → (sc co : ℕ) (f : Found) → Rests m (stepped H m₂ sc co f).next
  rests_stepped m m₂ np eb sc co none = (idle≢imaging, eb)
  rests_stepped m m₂ np eb sc co (found n) = (np, eb)

  rests_step : (m : Machine) → m.phase ≢ Imaging → (f : Found) → Rests m (step H m f).next
  rests_step m np none = (idle≢imaging, refl)
  rests_step m np (found n) = rests_stepped m (scan_page H m n) np refl _ _ (lowest_behind H (scan_page H m n))

  rests_resolve : (m : Machine) → m.phase ≢ Imaging → (j p : ℕ) (t : Bool) → Rests m (resolved H m j p t).next
  rests_resolve m np j p true = (np, refl)
  rests_resolve m np j p false = go (closed_is_imaging m.phase && m.pend p) refl
    where
      go : (t : Bool) → (closed_is_imaging m.phase && m.pend p) ≡ t → Rests m (resolved_save H m j p t).next
      go true e = absurd (np (image_phase H laws pos m.phase (and_parts (closed_is_imaging m.phase) (m.pend p) e).0))
      go false e = (np, refl)

  rests_new : (m : Machine) → m.phase ≢ Imaging → (j d r w : ℕ) (f : Found) → Rests m (closed_new_at H m j d r w f).next
  rests_new m np j d r w (found q) = (np, refl)
  rests_new m np j d r w none = (np, refl)

  busy≢imaging : Collecting ≢ Imaging
  busy≢imaging e = imaging≢ (sym e)

  rests_act : (m : Machine) → m.phase ≢ Imaging → (c : Call) → (marks c ≡ true → ⊥) → refusal (view_m H m) c ≡ 0 → Rests m (act H m c).next
  rests_act m np (New j d r w) nm e = rests_new m np j d r w _
  rests_act m np (Load j d s i) nm e = load_ways H m (λ o. Rests m o.next) j d s i (λ t. (np, refl)) (λ t. (np, refl))
  rests_act m np (Store j s i x) nm e = store_ways H m (λ o. Rests m o.next) j s i x (λ t. (np, refl)) (λ t. (np, refl))
  rests_act m np (Copy j d f s) nm e = (np, refl)
  rests_act m np (SetNumber j d n) nm e = (np, refl)
  rests_act m np (SetNil j d) nm e = (np, refl)
  rests_act m np (Same j x y) nm e = (np, refl)
  rests_act m np (Tell j x) nm e = (np, refl)
  rests_act m np Count nm e = (np, refl)
  rests_act m np Turn nm e = (busy≢imaging, refl)
  rests_act m np Step nm e = rests_step m np (lowest_behind H m)
  rests_act m np (Take j) nm e = (np, refl)
  rests_act m np (Resolve j p n) nm e = rests_resolve m np j p (is_busy m.phase && behind H m p)
  rests_act m np (Mark n) nm e = absurd (nm refl)
  rests_act m np (Save n) nm e = absurd (np (image_phase H laws pos m.phase (not-false (closed_is_imaging m.phase) (cond_zero (not (closed_is_imaging m.phase)) 18 0 (omega arith) (cond_zero (ltb n (70 + half H)) 5 _ (omega arith) e).1).0)))

  pub rests_call : (m : Machine) → m.phase ≢ Imaging → (c : Call) → (marks c ≡ true → refusal (view_m H m) c ≢ 0) → Rests m (call H m c).next
  rests_call m np c nm = elim (cases_eq (refusal (view_m H m) c) 0) [
    | inl e ↦ rw (eq-eqb (refusal (view_m H m) c) 0 e) (rests_act m np c (λ t. nm t e) e)
    | inr ne ↦ rw (ne_eqb (refusal (view_m H m) c) 0 ne) (let s = denied_still m c (refusal (view_m H m) c) in ((λ z. np (sym s.0 ∙ z)), s.3))
  ]

  -- a sealed image stays
  pub held_after : (m₀ m : Machine) → m.phase ≢ Imaging → Holds H m₀ m → (cs : List Call) → Quiet H marks m cs → Holds H m₀ (after H m cs)
  held_after m₀ m np h [] q = h
  held_after m₀ m np h (c ∷ cs) q = let o = rests_call m np c q.0 in held_after m₀ (call H m c).next o.0 (rw o.1 h) cs q.1

  pub imaged_call : (m₀ m : Machine) → Imaged H m₀ m → (c : Call) → (marks c ≡ true → refusal (view_m H m) c ≢ 0) → Imaged H m₀ (call H m c).next
  imaged_call m₀ m (inl (pi, k)) c nm = elim (cases_eq (refusal (view_m H m) c) 0) [
    | inl e ↦ rw (eq-eqb (refusal (view_m H m) c) 0 e) (imaged_act m₀ m k pi c e)
    | inr ne ↦ rw (ne_eqb (refusal (view_m H m) c) 0 ne) (let s = denied_still m c (refusal (view_m H m) c) in imaged_same m₀ m k pi (denied m c (refusal (view_m H m) c)) s.0 s.1 s.2 s.3 s.4 s.5)
  ]
  imaged_call m₀ m (inr (np, h)) c nm = let o = rests_call m np c nm in inr (o.0, rw o.1 h)

  pub imaged_after : (m₀ m : Machine) → Imaged H m₀ m → (cs : List Call) → Quiet H marks m cs → Imaged H m₀ (after H m cs)
  imaged_after m₀ m o [] q = o
  imaged_after m₀ m o (c ∷ cs) q = imaged_after m₀ (call H m c).next (imaged_call m₀ m o c q.0) cs q.1
