-- The words of a page that go to an image, one by one and all at once.
use Rattle.std.proofs.Common.{◌≡◌, ℕ, zero, suc, ◌+◌, ◌-◌, ◌*◌, ◌/◌, ◌≤◌, Bool, true, false, cond, ◌&&◌, ◌||◌, eqb, ltb, leb, sym, refl, ap, ◌∙◌, inl, inr, suc-mul, add-one, arith}
use Rattle.std.proofs.lemmas.Nat.{div_below, le-div}
use Rattle.std.proofs.lemmas.Bool.{cases_eq, cases_lt, cond-true}
use Rattle.std.proofs.lemmas.Bool.Decides.{nat_tests}
use Rattle.memory.specs.Memory.{Memory, changed}
use Rattle.model.specs.Heap.{Heap as Model, half_words}
use Rattle.model.specs.Images.{saves_word, saved_buffer}
use Rattle.images.specs.declared.saving.Imaged.{Imaged}
use Rattle.images.specs.Saving.{imaged_of, has_word, word_saved, words_saved}

-- A word, and one more

pub word_written : (m : Memory) (i : Imaged) (a w : ℕ) (x y : ℕ → ℕ) → has_word i a ≡ true → w ≡ m.word a → y ≡ changed x (70 + (a - i.start)) w → y ≡ word_saved m i a x
word_written m i a w x y has is_w is_y =
    is_y ∙ ap (λ v. changed x (70 + (a - i.start)) v) is_w ∙ sym (cond-true (has_word i a) (changed x (70 + (a - i.start)) (m.word a)) x has)

pub saved_more : (n : ℕ) (m s : Memory) (i : Imaged) (a : ℕ) (b x y : ℕ → ℕ) → s ≡ m → x ≡ words_saved n m i a b → y ≡ word_saved s i (a + n) x → y ≡ words_saved (n + 1) m i a b
saved_more n m s i a b x y is_s is_x is_y = rw add-one (is_y ∙ (λ k. word_saved (is_s k) i (a + n) (is_x k)))

pub saved_all : (n size k p : ℕ) (m : Memory) (i : Imaged) (b x : ℕ → ℕ) → n ≡ size → size ≡ k → x ≡ words_saved n m i (p * size) b → x ≡ words_saved k m i (p * k) b
saved_all n size k p m i b x all is_k is_x = is_x ∙ ap (λ t. words_saved t m i (p * size) b) all ∙ ap (λ t. words_saved t m i (p * t) b) is_k

-- All at once

-- the address that word j of an image is for, and whether it was used
abbrev address : Imaged → ℕ → ℕ
address i j = i.start + (j - 70)

abbrev used : Imaged → ℕ → Bool
used i a = ltb a i.copy_end || leb i.mark_start a

-- word j of an image is for one of n words from a on, a used one
abbrev among : Imaged → ℕ → ℕ → ℕ → Bool
among i a n j = leb 70 j && ltb j (70 + i.words) && (leb a (address i j) && ltb (address i j) (a + n)) && used i (address i j)

at_place : (b : Bool) (f g : ℕ → ℕ) (j : ℕ) → cond b f g j ≡ cond b (f j) (g j)
at_place true f g j = refl
at_place false f g j = refl

one_saved : (m : Memory) (i : Imaged) (a n : ℕ) (p b : ℕ → ℕ) (j : ℕ) → p j ≡ cond (among i a n j) (m.word (address i j)) (b j) → word_saved m i (a + n) p j ≡ cond (among i a (suc n) j) (m.word (address i j)) (b j)
one_saved m i a n p b j before =
    at_place (has_word i (a + n)) (changed p (70 + ((a + n) - i.start)) (m.word (a + n))) p j
    ∙ elim (cases_lt j 70) [
      | inl h ↦ grind (arith, nat_tests)
      | inr h ↦
          elim (cases_eq (address i j) (a + n)) [
            | inl e ↦ grind (arith, nat_tests)
            | inr ne ↦ grind (arith, nat_tests)
          ]
    ]

all_saved : (n : ℕ) (m : Memory) (i : Imaged) (a : ℕ) (b : ℕ → ℕ) (j : ℕ) → words_saved n m i a b j ≡ cond (among i a n j) (m.word (address i j)) (b j)
all_saved zero m i a b j = grind (arith, nat_tests)
all_saved (suc n) m i a b j = one_saved m i a n (words_saved n m i a b) b j (all_saved n m i a b j)

on_page : (size a p : ℕ) → 1 ≤ size → eqb (a / size) p ≡ (leb (p * size) a && ltb a (p * size + size))
on_page size a p some =
    elim (cases_lt a (p * size)) [
      | inl h ↦ let f = div_below a size p some h in grind (arith, nat_tests)
      | inr h ↦
          elim (cases_lt a (p * size + size)) [
            | inl k ↦
                let f = le-div p a size some h in
                let g = div_below a size (suc p) some (rw suc-mul (omega arith)) in
                grind (arith, nat_tests)
            | inr k ↦ let f = le-div (suc p) a size some (rw suc-mul (omega arith)) in grind (arith, nat_tests)
          ]
    ]

same_words : (h : Model) (p j : ℕ) → 1 ≤ h.memory.page_size → among (imaged_of h) (p * h.memory.page_size) h.memory.page_size j ≡ saves_word h p j
same_words h p j some = ap (λ (x : Bool). leb 70 j && ltb j (70 + half_words h.memory) && x && used (imaged_of h) (address (imaged_of h) j)) (sym (on_page h.memory.page_size (address (imaged_of h) j) p some))

pub page_words_saved : (h : Model) (p : ℕ) (of : Imaged) (b x : ℕ → ℕ) → 1 ≤ h.memory.page_size → of ≡ imaged_of h → x ≡ words_saved h.memory.page_size h.memory of (p * h.memory.page_size) b → x ≡ saved_buffer h p b
page_words_saved h p of b x some is_of is_x = is_x ∙ ap (λ t. words_saved h.memory.page_size h.memory t (p * h.memory.page_size) b) is_of ∙ (λ i j. at j i)
  where
    at : (j : ℕ) → words_saved h.memory.page_size h.memory (imaged_of h) (p * h.memory.page_size) b j ≡ saved_buffer h p b j
    at j = all_saved h.memory.page_size h.memory (imaged_of h) (p * h.memory.page_size) b j ∙ ap (λ (x : Bool). cond x (h.memory.word (address (imaged_of h) j)) (b j)) (same_words h p j some)
