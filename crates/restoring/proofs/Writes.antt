-- What RESTORE makes is the restored heap.
use Rattle.std.proofs.Common.{◌≡◌, ℕ, zero, suc, ◌+◌, ◌-◌, ◌*◌, ◌%◌, ◌≤◌, false, cond, ◌&&◌, ltb, leb, sym, refl, ap, ◌∙◌, inl, inr, add-mul, arith}
use Rattle.std.proofs.lemmas.Bool.{cases_lt, cond-true, lt-ltb}
use Rattle.std.proofs.lemmas.Bool.Decides.{nat_tests}
use Rattle.memory.proofs.Memories.{same_memory, after_set_inside}
use Rattle.memory.specs.Memory.{Memory, extent, with_right, lowered_run, after_set, after_protn, after_unprot}
use Rattle.memory.specs.Rights.{lesser, greater}
use Rattle.memory.specs.declared.rights.Right.{Right}
use Rattle.memory.specs.declared.rights.Right.TheVariants.{None, Read, All}
use Rattle.model.specs.Heap.{Heap as Model, half_pages, half_words, first_page, first_word, other_half}
use Rattle.model.specs.Collecting.{opened}
use Rattle.model.specs.Restoring.{half_of, restored}
use Rattle.model.specs.declared.states.Half.{Half}
use Rattle.model.specs.declared.states.Half.TheVariants.{Lower, Upper}
use Rattle.model.specs.declared.states.Phase.TheVariants.{Idle}
use Rattle.model.specs.declared.states.State.TheVariants.{Running}
use Rattle.restoring.specs.Restored.{image_view}
use Rattle.restoring.specs.Outlines.{IsOutline, word_in, register_in}
use Rattle.restoring.specs.Writing.{written, turned, plain_in}
use Rattle.restoring.specs.declared.objects.Objects.{Objects}
use Rattle.restoring.proofs.Outlining.{word_same}

-- the first n words as f has them
abbrev words_are : ℕ → Memory → (ℕ → ℕ) → Memory
words_are n m f = record { page_size = m.page_size; page_count = m.page_count; word = λ a. cond (ltb a n) (f a) (m.word a); right = m.right }

written_is : (n : ℕ) (m : Memory) (f : ℕ → ℕ) → n ≤ extent m → written n m f ≡ words_are n m f
written_is zero m f h = same_memory _ _ refl refl (λ a. grind (arith, nat_tests)) (λ p. refl)
written_is (suc n) m f h =
    ap (λ x. after_set x n (f n)) (written_is n m f (omega arith))
    ∙ after_set_inside (words_are n m f) n (f n) (omega arith)
    ∙ same_memory _ _ refl refl (λ a. grind (arith, nat_tests)) (λ p. refl)

-- n pages from first on at all
abbrev pages_open : ℕ → Memory → ℕ → Memory
pages_open n m first = record { page_size = m.page_size; page_count = m.page_count; word = m.word; right = λ p. cond (leb first p && ltb p (first + n)) All (m.right p) }

greater_all : (r : Right) → greater r All ≡ All
greater_all None = refl
greater_all Read = refl
greater_all All = refl

opened_is : (n : ℕ) (m : Memory) (first : ℕ) → first + n ≤ m.page_count → opened n m first ≡ pages_open n m first
opened_is zero m first h = same_memory _ _ refl refl (λ a. refl) (λ p. grind (arith, nat_tests))
opened_is (suc n) m first h =
    let inside : after_unprot (pages_open n m first) (first + n) All ≡ with_right (pages_open n m first) (first + n) (greater ((pages_open n m first).right (first + n)) All) = cond-true _ _ (pages_open n m first) (lt-ltb (first + n) m.page_count (omega arith)) in
    ap (λ x. after_unprot x (first + n) All) (opened_is n m first (omega arith))
    ∙ inside
    ∙ ap (with_right (pages_open n m first) (first + n)) (greater_all ((pages_open n m first).right (first + n)))
    ∙ same_memory _ _ refl refl (λ a. refl) (λ p. grind (arith, nat_tests))

lesser_none : (r : Right) → lesser r None ≡ None
lesser_none None = refl
lesser_none Read = refl
lesser_none All = refl

-- the words of the half s as b has them from word 70 on, every other word 0
abbrev half_word : Memory → Half → (ℕ → ℕ) → ℕ → ℕ
half_word m s b a = cond (leb (first_word m s) a && ltb a (first_word m s + half_words m)) (b (70 + (a - first_word m s))) 0

abbrev half_right : Memory → Half → ℕ → Right
half_right m s p = cond (leb (first_page m s) p && ltb p (first_page m s + half_pages m)) All None

module _ (m : Memory) (even : m.page_count % 2 ≡ 0) (blank : (a : ℕ) → extent m ≤ a → m.word a ≡ 0) (shut : (p : ℕ) → m.page_count ≤ p → m.right p ≡ None) where
  both : half_pages m + half_pages m ≡ m.page_count
  both = omega arith

  both_words : half_words m + half_words m ≡ extent m
  both_words = sym (add-mul (half_pages m) (half_pages m) m.page_size) ∙ ap (λ n. n * m.page_size) both

  half_inside : (s : Half) → first_word m s + half_words m ≤ extent m
  half_inside Lower = let e = both_words in omega arith
  half_inside Upper = let e = both_words in omega arith

  pages_inside : (s : Half) → first_page m s + half_pages m ≤ m.page_count
  pages_inside Lower = let e = both in omega arith
  pages_inside Upper = let e = both in omega arith

  word_is : (s : Half) (b : ℕ → ℕ) (a : ℕ) → cond (ltb a (extent m)) (half_word m s b a) (m.word a) ≡ half_word m s b a
  word_is s b a =
      elim (cases_lt a (extent m)) [
        | inl h ↦ cond-true _ _ _ (lt-ltb a (extent m) h)
        | inr h ↦ let z = blank a h in let fit = half_inside s in grind (arith, nat_tests)
      ]

  -- every word as f has it
  abbrev filled : (ℕ → ℕ) → Memory
  filled f = words_are (extent m) m f

  lowered : (f : ℕ → ℕ) (s : Half) → after_protn (pages_open (half_pages m) (filled f) (first_page m s)) (first_page m (other_half s)) (half_pages m) None ≡ lowered_run (pages_open (half_pages m) (filled f) (first_page m s)) (first_page m (other_half s)) (half_pages m) None
  lowered f s = let fit = pages_inside (other_half s) in cond-true _ _ (pages_open (half_pages m) (filled f) (first_page m s)) (grind (arith, nat_tests))

  right_is : (f : ℕ → ℕ) (s : Half) (p : ℕ) → (lowered_run (pages_open (half_pages m) (filled f) (first_page m s)) (first_page m (other_half s)) (half_pages m) None).right p ≡ half_right m s p
  right_is f Lower p =
      let fit = both in
      elim (cases_lt p m.page_count) [
        | inl h ↦ let n = lesser_none ((pages_open (half_pages m) (filled f) (first_page m Lower)).right p) in grind (arith, nat_tests)
        | inr h ↦ let n = shut p h in grind (arith, nat_tests)
      ]
  right_is f Upper p =
      let fit = both in
      elim (cases_lt p m.page_count) [
        | inl h ↦ let n = lesser_none ((pages_open (half_pages m) (filled f) (first_page m Upper)).right p) in grind (arith, nat_tests)
        | inr h ↦ let n = shut p h in grind (arith, nat_tests)
      ]

  turned_is : (b : ℕ → ℕ) (s : Half) → turned (written (extent m) m (half_word m s b)) s ≡ record { page_size = m.page_size; page_count = m.page_count; word = half_word m s b; right = half_right m s }
  turned_is b s =
      ap (λ x. turned x s) (written_is (extent m) m (half_word m s b) (omega arith))
      ∙ ap (λ x. after_protn x (first_page m (other_half s)) (half_pages m) None) (opened_is (half_pages m) (filled (half_word m s b)) (first_page m s) (pages_inside s))
      ∙ lowered (half_word m s b) s
      ∙ same_memory _ _ refl refl (word_is s b) (right_is (half_word m s b) s)

  -- x has the words, y also the rights, and h is the heap on it
  pub restored_is : {A : Type 0} (o : Objects A) (x y : Memory) (h : Model)
      → IsOutline m (image_view o.image.words.now) o.outline
      → x ≡ written (extent m) m (word_in o)
      → y ≡ turned x (half_of (image_view o.image.words.now 3))
      → h ≡ plain_in y (half_of (image_view o.image.words.now 3)) o.outline (image_view o.image.words.now)
      → h ≡ restored m (image_view o.image.words.now)
  restored_is o x y h is_o is_x is_y is_h =
      let b = image_view o.image.words.now in
      let s = half_of (b 3) in
      let words = is_x ∙ ap (written (extent m) m) (word_same m o is_o) in
      let memory = is_y ∙ ap (λ z. turned z s) words ∙ turned_is b s in
      is_h ∙ (λ i. record { memory = memory i; space = record { copy_end = is_o.copy_end i; crossing = λ p. 0 }; half = s; new_start = is_o.new_start i; unscanned = λ p. 0; flip_used = 0; unsaved = λ p. false; mark_start = 0; register = register_in b; state = λ q. Running; phase = Idle; traps = 0 })
