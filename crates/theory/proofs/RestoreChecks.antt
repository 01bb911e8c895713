-- RESTORE accepts an image if and only if it fails none of the checks; and the length's alone is of no matter to the promises.
use Rattle.std.proofs.Common.{◌≡◌, ℕ, zero, suc, ◌+◌, ◌*◌, ◌%◌, Bool, true, false, cond, not, ◌&&◌, ◌||◌, eqb, ltb, leb, List, [], ◌∷◌, Option, sym, refl, ap, ◌∙◌, ap₂, inl, inr, arith}
use Rattle.std.proofs.lemmas.Bool.{and_parts, and_from, or_parts, cases_Bool, both_ways, not-true, not-false, le-ltb}
use Rattle.memory.specs.Memory.{Memory}
use Rattle.memory.specs.declared.refusals.Refusal.{Refusal}
use Rattle.memory.specs.declared.refusals.Refusal.TheVariants.{Size, Short, OtherImage, BadImage}
use Rattle.layouts.specs.Layouts.{Rules}
use Rattle.model.specs.Images.{image_words}
use Rattle.model.specs.Refusing.{refuse_if}
use Rattle.model.specs.Restoring.{every_below, register_fits, restored, restore_refusal, is_of_this, is_written_well, is_made_of_objects}
use Rattle.model.specs.Starts.{both_restored, Start.at_restore}
use Rattle.theory.specs.RestoreChecks.{Check, Check.pages_even, Check.length_enough, Check.is_sealed, Check.page_size_same, Check.half_pages_same, Check.layout_same, Check.half_0_or_1, Check.words_fit, Check.kinds_to_2, Check.nils_bare, Check.unused_0, Check.copied_whole, Check.new_whole, Check.copied_refer, Check.new_refer, Check.registers_refer, passes, all_checks, not_passed, failed, AcceptedIfNoneFails, LengthIsOfNoMatter}
use Rattle.theory.proofs.ClosedRefusals.{passes as goes_on}
use Rattle.theory.proofs.Promises.{heaps_keep_their_promises}

exchanged : (a b c d : Bool) → ((a && b) && (c && d)) ≡ ((a && c) && (b && d))
exchanged true true c d = refl
exchanged true false true d = refl
exchanged true false false d = refl
exchanged false b c d = refl

-- two tests of every number below n
both_every : (n : ℕ) (f g : ℕ → Bool) → every_below n (λ k. f k && g k) ≡ (every_below n f && every_below n g)
unfolding every_below
both_every zero f g = refl
both_every (suc n) f g = ap (λ t. t && (f n && g n)) (both_every n f g) ∙ exchanged (every_below n f) (every_below n g) (f n) (g n)

-- Lists of checks

abbrev Passed : (Check → Bool) → List Check → Type 0
Passed f [] = Unit {0}
Passed f (c ∷ cs) = (f c ≡ true) × Passed f cs

first_passes : (t : Bool) (c : Check) (cs : List Check) → cond t cs (c ∷ cs) ≡ [] → (t ≡ true) × (cs ≡ [])
first_passes true c cs e = (refl, e)
first_passes false c cs e = absurd (let z : ◌≡◌ {A = ℕ} 0 1 = cc in omega arith)

passed : (f : Check → Bool) (cs : List Check) → not_passed f cs ≡ [] → Passed f cs
passed f [] e = tt
passed f (c ∷ cs) e = let t = first_passes (f c) c (not_passed f cs) e in (t.0, passed f cs t.1)

none_fails : (f : Check → Bool) → ((c : Check) → f c ≡ true) → (cs : List Check) → not_passed f cs ≡ []
none_fails f h [] = refl
none_fails f h (c ∷ cs) = rw (h c) (none_fails f h cs)

each : (f : Check → Bool) → Passed f all_checks → (c : Check) → f c ≡ true
each f p pages_even = p.0
each f p length_enough = p.1.0
each f p is_sealed = p.1.1.0
each f p page_size_same = p.1.1.1.0
each f p half_pages_same = p.1.1.1.1.0
each f p layout_same = p.1.1.1.1.1.0
each f p half_0_or_1 = p.1.1.1.1.1.1.0
each f p words_fit = p.1.1.1.1.1.1.1.0
each f p kinds_to_2 = p.1.1.1.1.1.1.1.1.0
each f p nils_bare = p.1.1.1.1.1.1.1.1.1.0
each f p unused_0 = p.1.1.1.1.1.1.1.1.1.1.0
each f p copied_whole = p.1.1.1.1.1.1.1.1.1.1.1.0
each f p new_whole = p.1.1.1.1.1.1.1.1.1.1.1.1.0
each f p copied_refer = p.1.1.1.1.1.1.1.1.1.1.1.1.1.0
each f p new_refer = p.1.1.1.1.1.1.1.1.1.1.1.1.1.1.0
each f p registers_refer = p.1.1.1.1.1.1.1.1.1.1.1.1.1.1.1.0

-- RESTORE's tests in a row

abbrev by_tests : Bool → Bool → Bool → Bool → Bool → Bool → Option Refusal
by_tests odd short zeroed this well objects = refuse_if odd Size (refuse_if short Short (refuse_if (not zeroed && not this) OtherImage (refuse_if (zeroed || not (well && objects)) BadImage Option.None)))

tests_clear : (odd short zeroed this well objects : Bool) → odd ≡ false → short ≡ false → zeroed ≡ false → this ≡ true → well ≡ true → objects ≡ true → by_tests odd short zeroed this well objects ≡ Option.None
tests_clear odd short zeroed this well objects e₁ e₂ e₃ e₄ e₅ e₆ = rw (e₁, e₂, e₃, e₄, e₅, e₆) refl

tests_say : (odd short zeroed this well objects : Bool) → by_tests odd short zeroed this well objects ≡ Option.None → (odd ≡ false) × (short ≡ false) × (zeroed ≡ false) × (this ≡ true) × (well ≡ true) × (objects ≡ true)
tests_say odd short zeroed this well objects e =
    let e₁ = goes_on odd Size _ e in
    let e₂ = goes_on short Short _ e₁.1 in
    let e₃ = goes_on (not zeroed && not this) OtherImage _ e₂.1 in
    let e₄ = goes_on (zeroed || not (well && objects)) BadImage Option.None e₃.1 in
    let z = or_parts zeroed (not (well && objects)) e₄.0 in
    let t = and_parts well objects (not-false (well && objects) z.1) in
    let o : (not this) ≡ false = rw z.0 at e₃.0 in
    (e₁.0, e₂.0, z.0, not-false this o, t.0, t.1)

module _ (L : Rules) (m : Memory) (n : ℕ) (b : ℕ → ℕ) where
  abbrev pass : Check → Bool
  pass = passes L m n b

  registers_as : every_below 32 (register_fits b) ≡ (pass kinds_to_2 && pass nils_bare)
  registers_as = both_every 32 (λ k. leb (b (6 + 2 * k)) 2) (λ k. not (eqb (b (6 + 2 * k)) 0) || eqb (b (7 + 2 * k)) 0)

  abbrev odd : Bool
  odd = eqb (m.page_count % 2) 1

  abbrev short : Bool
  short = ltb n (image_words m)

  abbrev zeroed : Bool
  zeroed = eqb (b 0) 0

  accepted_passes : restore_refusal L m n b ≡ Option.None → (c : Check) → pass c ≡ true
  accepted_passes e =
      let t = tests_say odd short zeroed (is_of_this L m b) (is_written_well m b) (is_made_of_objects L (restored m b)) e in
      let this = and_parts (eqb (b 0) m.page_size && pass half_pages_same) (pass layout_same) t.3 in
      let same = and_parts (eqb (b 0) m.page_size) (pass half_pages_same) this.0 in
      let w = and_parts (pass half_0_or_1 && pass words_fit && every_below 32 (register_fits b)) (pass unused_0) t.4 in
      let w₁ = and_parts (pass half_0_or_1 && pass words_fit) (every_below 32 (register_fits b)) w.0 in
      let w₂ = and_parts (pass half_0_or_1) (pass words_fit) w₁.0 in
      let r = and_parts (pass kinds_to_2) (pass nils_bare) (sym registers_as ∙ w₁.1) in
      let o = and_parts (pass copied_whole && pass new_whole && pass copied_refer && pass new_refer) (pass registers_refer) t.5 in
      let o₁ = and_parts (pass copied_whole && pass new_whole && pass copied_refer) (pass new_refer) o.0 in
      let o₂ = and_parts (pass copied_whole && pass new_whole) (pass copied_refer) o₁.0 in
      let o₃ = and_parts (pass copied_whole) (pass new_whole) o₂.0 in
      each pass (ap not t.0, (ap not t.1, (ap not t.2, (ap₂ ◌||◌ t.2 same.0, (same.1, (this.1, (w₂.0, (w₂.1, (r.0, (r.1, (w.1, (o₃.0, (o₃.1, (o₂.1, (o₁.1, (o.1, tt))))))))))))))))

  passes_accepted : ((c : Check) → pass c ≡ true) → restore_refusal L m n b ≡ Option.None
  passes_accepted p =
      let zero_not = not-true zeroed (p is_sealed) in
      let size : eqb (b 0) m.page_size ≡ true = rw zero_not at (p page_size_same) in
      let r = registers_as ∙ and_from (pass kinds_to_2) (pass nils_bare) (p kinds_to_2) (p nils_bare) in
      tests_clear odd short zeroed (is_of_this L m b) (is_written_well m b) (is_made_of_objects L (restored m b))
      (not-true odd (p pages_even)) (not-true short (p length_enough)) zero_not
      (and_from (eqb (b 0) m.page_size && pass half_pages_same) (pass layout_same) (and_from (eqb (b 0) m.page_size) (pass half_pages_same) size (p half_pages_same)) (p layout_same))
      (and_from (pass half_0_or_1 && pass words_fit && every_below 32 (register_fits b)) (pass unused_0) (and_from (pass half_0_or_1 && pass words_fit) (every_below 32 (register_fits b)) (and_from (pass half_0_or_1) (pass words_fit) (p half_0_or_1) (p words_fit)) r) (p unused_0))
      (and_from (pass copied_whole && pass new_whole && pass copied_refer && pass new_refer) (pass registers_refer)
      (and_from (pass copied_whole && pass new_whole && pass copied_refer) (pass new_refer)
      (and_from (pass copied_whole && pass new_whole) (pass copied_refer) (and_from (pass copied_whole) (pass new_whole) (p copied_whole) (p new_whole)) (p copied_refer)) (p new_refer)) (p registers_refer))

pub accepted_if_none_fails : AcceptedIfNoneFails
accepted_if_none_fails L m n b = ((λ e. none_fails (passes L m n b) (accepted_passes L m n b e) all_checks), λ e. passes_accepted L m n b (each (passes L m n b) (passed (passes L m n b) all_checks e)))

-- The length

abbrev first_or : Check → List Check → Check
first_or c [] = c
first_or c (d ∷ ds) = d

abbrev rest_of : List Check → List Check
rest_of [] = []
rest_of (c ∷ cs) = cs

first_fails : (f : Check → Bool) (cs : List Check) (c : Check) (ds : List Check) → not_passed f cs ≡ c ∷ ds → f c ≡ false
first_fails f [] c ds e = absurd (let z : ◌≡◌ {A = ℕ} 0 1 = cc in omega arith)
first_fails f (d ∷ cs) c ds e = elim (cases_Bool (f d)) [
  | inl t ↦ first_fails f cs c ds (rw t at e)
  | inr t ↦ let s : d ∷ not_passed f cs ≡ c ∷ ds = rw t at e in sym (ap (λ x. f (first_or c x)) s) ∙ t
]

-- the checks behind the length's
abbrev others : List Check
others = is_sealed ∷ page_size_same ∷ half_pages_same ∷ layout_same ∷ half_0_or_1 ∷ words_fit ∷ kinds_to_2 ∷ nils_bare ∷ unused_0 ∷ copied_whole ∷ new_whole ∷ copied_refer ∷ new_refer ∷ registers_refer ∷ []

-- a list of checks that begins with the pages' and the length's, of which the length's alone fails
length_alone : (f : Check → Bool) (cs : List Check) → not_passed f (pages_even ∷ length_enough ∷ cs) ≡ length_enough ∷ [] → (f pages_even ≡ true) × (not_passed f cs ≡ [])
length_alone f cs e = elim (cases_Bool (f pages_even)) [
  | inr t ↦ absurd (let s : pages_even ∷ not_passed f (length_enough ∷ cs) ≡ length_enough ∷ [] = rw t at e in let z : ◌≡◌ {A = ℕ} 0 1 = cc in omega arith)
  | inl t ↦ let s : not_passed f (length_enough ∷ cs) ≡ length_enough ∷ [] = rw t at e in elim (cases_Bool (f length_enough)) [
    | inl u ↦ let v : not_passed f cs ≡ length_enough ∷ [] = rw u at s in absurd (both_ways (f length_enough) (first_fails f cs length_enough [] v) u)
    | inr u ↦ let v : length_enough ∷ not_passed f cs ≡ length_enough ∷ [] = rw u at s in (t, ap rest_of v)
  ]
]

-- the same words, if there were enough of them
passes_whole : (L : Rules) (m : Memory) (n : ℕ) (b : ℕ → ℕ) → failed L m n b ≡ length_enough ∷ [] → failed L m (image_words m) b ≡ []
passes_whole L m n b e =
    let t = length_alone (passes L m n b) others e in
    let long : passes L m (image_words m) b length_enough ≡ true = ap not (le-ltb (image_words m) (image_words m) (omega arith)) in
    let p = passed (passes L m n b) others t.1 in
    none_fails (passes L m (image_words m) b) (each (passes L m (image_words m) b) (t.0, (long, p))) all_checks

pub length_is_of_no_matter : LengthIsOfNoMatter
length_is_of_no_matter L lawful m legal b other n words e =
    heaps_keep_their_promises L lawful (both_restored L m b other) (at_restore m legal b other (image_words m) words ((accepted_if_none_fails L m (image_words m) b).1 (passes_whole L m n b e)))
