-- The image of a restored heap is the words that it was restored from.
use Rattle.std.proofs.Common.{◌≡◌, ℕ, zero, suc, ◌+◌, ◌-◌, ◌*◌, ◌/◌, ◌%◌, ◌<◌, ◌≤◌, Bool, true, false, cond, not, ◌&&◌, ◌||◌, eqb, ltb, leb, ◌≢◌, ◌⊎◌, [], sym, refl, ap, ◌∙◌, subst, inl, inr, add-zero, arith}
use Rattle.std.proofs.lemmas.Bool.{cases_eq, cases_lt, cases_Bool, both_ways, eq-eqb, ne_eqb, eqb-true, lt-ltb, le-ltb, leb-true, lt-leb, ltb-false, leb-false, and_parts, and_from, or_parts, or_from, not-false, cond-true, cond-false}
use Rattle.theory.specs.Collect.{Laws}
use Rattle.theory.specs.Machine.{Shape, half, Machine, view_m, refusal}
use Rattle.model.specs.declared.states.Phase.{Phase}
use Rattle.model.specs.declared.states.Phase.TheVariants.{Idle, Collecting, Imaging}
use Rattle.model.specs.declared.calls.Call.TheVariants.{Mark, Save}
use Rattle.theory.specs.Buffer.{closed_head_word, closed_kind_word, payload, word_for}
use Rattle.theory.specs.Steps.{call}
use Rattle.theory.specs.Image.{used_at, image_word, saves, Saving, Saving.begun, Saving.goes}
use Rattle.theory.specs.Restore.{every, restored, closed_well_made, closed_well_written, reg_well, word_well, closed_restore_refusal, reg_from, closed_with_buffer, save_times, ImageAgain, ImageAgainWhole}
use Rattle.theory.specs.Runs.{after, Quiet, marks}
use Rattle.theory.proofs.BodyNew.{in_range}
use Rattle.theory.proofs.Refusals.{cond_zero}
use Rattle.theory.proofs.Kept.{image_head, imaged_after, rests_call}
use Rattle.theory.proofs.Drains.{idle≢imaging, imaging≢}
use Rattle.theory.proofs.Sealed.{marked, sealed_from, held, seal_bound}

pub every_at : (n : ℕ) (f : ℕ → Bool) → every n f ≡ true → (k : ℕ) → k < n → f k ≡ true
unfolding every
every_at zero f e k l = absurd (omega arith)
every_at (suc n) f e k l =
    let t = and_parts (every n f) (f n) e in
    elim (cases_eq k n) [ inl q ↦ ap f q ∙ t.1 | inr ne ↦ every_at n f t.0 k (omega arith) ]

pub every_from : (n : ℕ) (f : ℕ → Bool) → ((k : ℕ) → k < n → f k ≡ true) → every n f ≡ true
unfolding every
every_from zero f h = refl
every_from (suc n) f h = and_from (every n f) (f n) (every_from n f (λ k l. h k (omega arith))) (h n (omega arith))

-- a register's words, back from its value
kind_back : (kind pay : ℕ) → leb kind 2 ≡ true → closed_kind_word (reg_from kind pay) ≡ kind
kind_back kind pay e = let l = leb-true kind 2 e in elim (cases_eq kind 0) [
  | inl z ↦ rw (eq-eqb kind 0 z) (sym z)
  | inr n₀ ↦ elim (cases_eq kind 1) [
    | inl z ↦ rw (ne_eqb kind 0 n₀, eq-eqb kind 1 z) (sym z)
    | inr n₁ ↦ rw (ne_eqb kind 0 n₀, ne_eqb kind 1 n₁) (omega arith)
  ]
]

pay_back : (kind pay : ℕ) → (not (eqb kind 0) || eqb pay 0) ≡ true → payload (reg_from kind pay) ≡ pay
pay_back kind pay e = elim (cases_eq kind 0) [
  | inl z ↦ rw (eq-eqb kind 0 z) (sym (eqb-true pay 0 (rw (eq-eqb kind 0 z) at e)))
  | inr n₀ ↦ elim (cases_eq kind 1) [
    | inl z ↦ rw (ne_eqb kind 0 n₀, eq-eqb kind 1 z)
    | inr n₁ ↦ rw (ne_eqb kind 0 n₀, ne_eqb kind 1 n₁)
  ]
]

module _ (H : Shape) (b : ℕ → ℕ) (ww : closed_well_written H b ≡ true) where
  parts : (b 3 ≤ 1) × (b 4 + b 5 ≤ half H) × ((k : ℕ) → k < 32 → (leb (b (6 + 2 * k)) 2 ≡ true) × ((not (eqb (b (6 + 2 * k)) 0) || eqb (b (7 + 2 * k)) 0) ≡ true)) × ((j : ℕ) → j < half H → ((ltb j (b 4) || leb (half H - b 5) j) || eqb (b (70 + j)) 0) ≡ true)
  parts =
      let t = and_parts (leb (b 3) 1 && leb (b 4 + b 5) (half H)) (every 32 (reg_well b) && every (half H) (word_well H b)) ww in
      let u = and_parts (leb (b 3) 1) (leb (b 4 + b 5) (half H)) t.0 in
      let v = and_parts (every 32 (reg_well b)) (every (half H) (word_well H b)) t.1 in
      (leb-true (b 3) 1 u.0, leb-true (b 4 + b 5) (half H) u.1, (λ k l. and_parts _ _ (every_at 32 (reg_well b) v.0 k l)), λ j l. every_at (half H) (word_well H b) v.1 j l)

  reg_word : (j : ℕ) → 6 ≤ j → j < 70 → cond (eqb ((j - 6) % 2) 0) (closed_kind_word ((restored H b).reg ((j - 6) / 2))) (payload ((restored H b).reg ((j - 6) / 2))) ≡ b j
  reg_word j l m =
      let k : ℕ = (j - 6) / 2 in
      let p = parts.2 ((j - 6) / 2) (omega arith) in
      let f : (j - 6) / 2 < 32 = omega arith in
      elim (cases_eq ((j - 6) % 2) 0) [
        | inl z ↦ rw (eq-eqb ((j - 6) % 2) 0 z, lt-ltb ((j - 6) / 2) 32 f) (kind_back (b (6 + 2 * ((j - 6) / 2))) (b (7 + 2 * ((j - 6) / 2))) p.0 ∙ ap b (omega arith))
        | inr n ↦ rw (ne_eqb ((j - 6) % 2) 0 n, lt-ltb ((j - 6) / 2) 32 f) (pay_back (b (6 + 2 * ((j - 6) / 2))) (b (7 + 2 * ((j - 6) / 2))) p.1 ∙ ap b (omega arith))
      ]

  head_word : b 1 ≡ H.pages → b 2 ≡ H.lay.number → (j : ℕ) → j ≢ 0 → j < 70 → closed_head_word H (restored H b) j ≡ b j
  head_word e₁ e₂ j nz l = elim (cases_eq j 1) [
    | inl z ↦ rw (eq-eqb j 1 z) (sym e₁ ∙ ap b (sym z))
    | inr n₁ ↦ cond-false (eqb j 1) _ _ (ne_eqb j 1 n₁) ∙ elim (cases_eq j 2) [
      | inl z ↦ rw (eq-eqb j 2 z) (sym e₂ ∙ ap b (sym z))
      | inr n₂ ↦ cond-false (eqb j 2) _ _ (ne_eqb j 2 n₂) ∙ elim (cases_eq j 3) [
        | inl z ↦ rw (eq-eqb j 3 z) (ap b (sym z))
        | inr n₃ ↦ cond-false (eqb j 3) _ _ (ne_eqb j 3 n₃) ∙ elim (cases_eq j 4) [
          | inl z ↦ cond-true (eqb j 4) _ _ (eq-eqb j 4 z) ∙ (let q : b 4 ≡ b j = ap b (sym z) in omega arith)
          | inr n₄ ↦ cond-false (eqb j 4) _ _ (ne_eqb j 4 n₄) ∙ elim (cases_eq j 5) [
            | inl z ↦ cond-true (eqb j 5) _ _ (eq-eqb j 5 z) ∙ (let q : b 5 ≡ b j = ap b (sym z) in omega (arith, parts.1))
            | inr n₅ ↦ cond-false (eqb j 5) _ _ (ne_eqb j 5 n₅) ∙ cond-true (leb 6 j && ltb j 70) _ _ (in_range 6 70 j (omega arith) l) ∙ reg_word j (omega arith) l
          ]
        ]
      ]
    ]
  ]

  -- the word of to-space that buffer word j is
  mem_word : (j : ℕ) → 70 ≤ j → j < 70 + half H → (restored H b).st.mem (word_for H (b 3) j) ≡ b j
  mem_word j l m = cond-true _ _ _ (in_range (b 3 * half H) (b 3 * half H + half H) (word_for H (b 3) j) (omega arith) (omega arith)) ∙ ap b (omega arith)

  image_back : b 0 ≡ H.page → b 1 ≡ H.pages → b 2 ≡ H.lay.number → (j : ℕ) → j < 70 + half H → image_word H (restored H b) j ≡ b j
  image_back e₀ e₁ e₂ j l = elim (cases_eq j 0) [
    | inl z ↦ cond-true (eqb j 0) _ _ (eq-eqb j 0 z) ∙ sym e₀ ∙ ap b (sym z)
    | inr nz ↦ elim (cases_lt j 70) [
      | inl m ↦ image_head H (restored H b) j nz m ∙ head_word e₁ e₂ j nz m
      | inr m ↦ cond-false (eqb j 0) _ _ (ne_eqb j 0 nz) ∙ cond-false (ltb j 70) _ _ (le-ltb j 70 m) ∙ elim (cases_Bool (used_at (restored H b) (word_for H (b 3) j))) [
        | inl u ↦ cond-true (used_at (restored H b) (word_for H (b 3) j)) _ _ u ∙ mem_word j m l
        | inr u ↦ cond-false (used_at (restored H b) (word_for H (b 3) j)) _ _ u ∙ zeros u m
      ]
    ]
  ]
    where
      zeros : used_at (restored H b) (word_for H (b 3) j) ≡ false → 70 ≤ j → 0 ≡ b j
      zeros u m =
          let t = or_parts (ltb (word_for H (b 3) j) (restored H b).st.top) (leb (restored H b).st.low (word_for H (b 3) j)) u in
          let x = ltb-false (word_for H (b 3) j) (restored H b).st.top t.0 in
          let y = leb-false (restored H b).st.low (word_for H (b 3) j) t.1 in
          let q = parts.3 (j - 70) (omega arith) in
          let n : (ltb (j - 70) (b 4) || leb (half H - b 5) (j - 70)) ≡ false = or_from _ _ (le-ltb (j - 70) (b 4) (omega arith)) (lt-leb (half H - b 5) (j - 70) (omega (arith, parts.1))) in
          let e : eqb (b (70 + (j - 70))) 0 ≡ true = rw n at q in
          sym (eqb-true _ _ e) ∙ ap b (omega arith)

module _ (H : Shape) (laws : Laws H.lay) (pos : 0 < H.page) where
  -- what an accepted buffer says
  pub accepted : (k : ℕ) (b : ℕ → ℕ) → closed_restore_refusal H k b ≡ 0 → (b 0 ≡ H.page) × (b 1 ≡ H.pages) × (b 2 ≡ H.lay.number) × (closed_well_written H b ≡ true) × (closed_well_made H (restored H b) ≡ true)
  accepted k b e =
      let e₁ = cond_zero (ltb k (70 + half H)) 5 _ (omega arith) e in
      let e₂ = cond_zero (not (eqb (b 0) 0) && not (eqb (b 0) H.page && (eqb (b 1) H.pages && eqb (b 2) H.lay.number))) 6 _ (omega arith) e₁.1 in
      let e₃ = cond_zero (not (not (eqb (b 0) 0) && (closed_well_written H b && closed_well_made H (restored H b)))) 7 0 (omega arith) e₂.1 in
      let t = and_parts (not (eqb (b 0) 0)) (closed_well_written H b && closed_well_made H (restored H b)) (not-false _ e₃.0) in
      let u = and_parts (closed_well_written H b) (closed_well_made H (restored H b)) t.1 in
      let v : not (eqb (b 0) H.page && (eqb (b 1) H.pages && eqb (b 2) H.lay.number)) ≡ false = rw t.0 at e₂.0 in
      let x = and_parts (eqb (b 0) H.page) (eqb (b 1) H.pages && eqb (b 2) H.lay.number) (not-false _ v) in
      let y = and_parts (eqb (b 1) H.pages) (eqb (b 2) H.lay.number) x.1 in
      (eqb-true _ _ x.0, eqb-true _ _ y.0, eqb-true _ _ y.1, u.0, u.1)

  pub image_again : ImageAgain H
  image_again b k n n₂ ys re rm m₁ e₁ q t j l =
      let a = accepted k b re in
      let o₁ = rw (sym e₁) at (imaged_after H laws pos (restored H b) (call H (restored H b) (Mark n)).next (marked H laws pos (restored H b) n (λ i p. cond-true _ 2 0 (in_range (b 3 * H.pages) (b 3 * H.pages + H.pages) i p.0 p.1)) rm) ys q) in
      sealed_from H laws pos (restored H b) m₁ (call H m₁ (Save n₂)).next n₂ [] o₁ t refl tt j l ∙ image_back H b a.3 a.0 a.1 a.2 j l

  quiet_saves : (i n : ℕ) (m : Machine) → Quiet H marks m (save_times i n)
  quiet_saves zero n m = tt
  quiet_saves (suc i) n m = ((λ t. absurd (both_ways false refl t)), quiet_saves i n (call H m (Save n)).next)

  imaging_or : (p : Phase) → (p ≡ Imaging) ⊎ (p ≢ Imaging)
  imaging_or Idle = inr idle≢imaging
  imaging_or Collecting = inr (λ e. imaging≢ (sym e))
  imaging_or Imaging = inl refl

  save_accepted : (n : ℕ) (m : Machine) → 70 + half H ≤ n → m.phase ≡ Imaging → saves H m (Save n) ≡ 1
  save_accepted n m l pi = rw (le-ltb n (70 + half H) l, pi)

  -- after i SAVEs an image that is still under way has had i of them
  saving_on : (i c n : ℕ) (m : Machine) → 70 + half H ≤ n → (m.phase ≢ Imaging) ⊎ Saving H c m → ((after H m (save_times i n)).phase ≢ Imaging) ⊎ Saving H (c + i) (after H m (save_times i n))
  saving_on zero c n m l o = rw add-zero o
  saving_on (suc i) c n m l o = subst (λ z. ((after H m (save_times (suc i) n)).phase ≢ Imaging) ⊎ Saving H z (after H m (save_times (suc i) n))) (omega arith) (saving_on i (c + 1) n (call H m (Save n)).next l (one (imaging_or m.phase) o))
    where
      rests : m.phase ≢ Imaging → (call H m (Save n)).next.phase ≢ Imaging
      rests np = (rests_call H laws pos m np (Save n) (λ t. absurd (both_ways false refl t))).0

      one : (m.phase ≡ Imaging) ⊎ (m.phase ≢ Imaging) → (m.phase ≢ Imaging) ⊎ Saving H c m → ((call H m (Save n)).next.phase ≢ Imaging) ⊎ Saving H (c + 1) (call H m (Save n)).next
      one (inl pi) (inl np) = absurd (np pi)
      one (inl pi) (inr s) = inr (subst (λ z. Saving H (c + z) (call H m (Save n)).next) (save_accepted n m l pi) (goes s pi (Save n)))
      one (inr np) o = inl (rests np)

  pub image_again_whole : 0 < H.pages → ImageAgainWhole H
  image_again_whole some b other k n re l j lj =
      let a = accepted k b re in
      let r : Machine = closed_with_buffer (restored H b) other in
      let rm : refusal (view_m H (closed_with_buffer (restored H b) other)) (Mark n) ≡ 0 = rw (le-ltb n (70 + half H) l) in
      let o = marked H laws pos (closed_with_buffer (restored H b) other) n (λ i p. cond-true _ 2 0 (in_range (b 3 * H.pages) (b 3 * H.pages + H.pages) i p.0 p.1)) rm in
      let m₁ : Machine = (call H (closed_with_buffer (restored H b) other) (Mark n)).next in
      let o₂ = imaged_after H laws pos (closed_with_buffer (restored H b) other) (call H (closed_with_buffer (restored H b) other) (Mark n)).next o (save_times H.pages n) (quiet_saves H.pages n (call H (closed_with_buffer (restored H b) other) (Mark n)).next) in
      let s = saving_on H.pages 0 n (call H (closed_with_buffer (restored H b) other) (Mark n)).next l (inr (begun (closed_with_buffer (restored H b) other) n rm)) in
      held H laws pos (closed_with_buffer (restored H b) other) (after H (call H (closed_with_buffer (restored H b) other) (Mark n)).next (save_times H.pages n)) o₂ (over some (after H (call H (closed_with_buffer (restored H b) other) (Mark n)).next (save_times H.pages n)) s) j lj ∙ image_back H b a.3 a.0 a.1 a.2 j lj
    where
      over : 0 < H.pages → (m : Machine) → (m.phase ≢ Imaging) ⊎ Saving H (0 + H.pages) m → m.phase ≢ Imaging
      over some m (inl np) = np
      over some m (inr s) = λ pi. absurd (omega (arith, seal_bound H laws pos some (0 + H.pages) m s pi))
