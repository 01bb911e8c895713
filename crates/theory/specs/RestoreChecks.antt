-- RESTORE's checks, one by one: which of them an image fails.
use Rattle.std.specs.Prelude.{◌≡◌, ℕ, ◌+◌, ◌*◌, ◌%◌, ◌^◌, ◌<◌, Bool, true, cond, not, ◌||◌, leb, List, [], ◌∷◌, ◌==◌, nat_le, nat_lt}
use Rattle.memory.specs.Memory.{Memory, legal_sizes}
use Rattle.layouts.specs.Layouts.{Rules, Lawful}
use Rattle.std.specs.declared.option.Option.TheVariants as Option
use Rattle.model.specs.Heap.{Heap, half_pages, half_words, to_start, to_stop}
use Rattle.model.specs.Images.{image_words}
use Rattle.model.specs.Restoring.{every_below, is_row, slots_pass, refers_well, unused_is_0, restored, restore_refusal}
use Rattle.model.specs.Promises.{KeepsItsPromises}
use Rattle.model.specs.Starts.{both_restored}

pub data Check : Type 0 where
  -- the host has an even number of pages, and the image is long enough for it
  pages_even : Check
  length_enough : Check
  -- word 0 is not 0, and then it is the page size; words 1 and 2 are the pages of a half and the layout's number
  is_sealed : Check
  page_size_same : Check
  half_pages_same : Check
  layout_same : Check
  -- word 3 is at most 1, and words 4 and 5, the words of the copied and of the new objects, fit a half together
  half_0_or_1 : Check
  words_fit : Check
  -- a register's kind is at most 2, and nil has the payload 0
  kinds_to_2 : Check
  nils_bare : Check
  -- a word that is not used is 0
  unused_0 : Check
  -- the copied and the new words are whole objects in a row
  copied_whole : Check
  new_whole : Check
  -- every reference in a slot of a copied object, of a new one, and in a register is the address of a header
  copied_refer : Check
  new_refer : Check
  registers_refer : Check

-- words of a row of objects, from start up to stop, in a heap
abbrev pub is_whole_row : Rules → Heap → ℕ → ℕ → Bool
is_whole_row L h start stop = is_row L h.memory.word (half_words h.memory) start stop

abbrev pub slots_refer : Rules → Heap → ℕ → ℕ → Bool
slots_refer L h start stop = slots_pass L h.memory.word (refers_well L h) (half_words h.memory) start stop

-- the first n words of b pass the check on a host
abbrev pub passes : Rules → Memory → ℕ → (ℕ → ℕ) → Check → Bool
passes L m n b pages_even = not (m.page_count % 2 == 1)
passes L m n b length_enough = not (nat_lt n (image_words m))
passes L m n b is_sealed = not (b 0 == 0)
passes L m n b page_size_same = b 0 == 0 || b 0 == m.page_size
passes L m n b half_pages_same = b 1 == half_pages m
passes L m n b layout_same = b 2 == L.number
passes L m n b half_0_or_1 = nat_le (b 3) 1
passes L m n b words_fit = nat_le (b 4 + b 5) (half_words m)
passes L m n b kinds_to_2 = every_below 32 (λ k. leb (b (6 + 2 * k)) 2)
passes L m n b nils_bare = every_below 32 (λ k. not (b (6 + 2 * k) == 0) || b (7 + 2 * k) == 0)
passes L m n b unused_0 = every_below (half_words m) (unused_is_0 m b)
passes L m n b copied_whole = is_whole_row L (restored m b) (to_start (restored m b)) (restored m b).space.copy_end
passes L m n b new_whole = is_whole_row L (restored m b) (restored m b).new_start (to_stop (restored m b))
passes L m n b copied_refer = slots_refer L (restored m b) (to_start (restored m b)) (restored m b).space.copy_end
passes L m n b new_refer = slots_refer L (restored m b) (restored m b).new_start (to_stop (restored m b))
passes L m n b registers_refer = every_below 32 (λ k. refers_well L (restored m b) ((restored m b).register k))

abbrev pub all_checks : List Check
all_checks = pages_even ∷ length_enough ∷ is_sealed ∷ page_size_same ∷ half_pages_same ∷ layout_same ∷ half_0_or_1 ∷ words_fit ∷ kinds_to_2 ∷ nils_bare ∷ unused_0 ∷ copied_whole ∷ new_whole ∷ copied_refer ∷ new_refer ∷ registers_refer ∷ []

-- those of the checks that do not pass
abbrev pub not_passed : (Check → Bool) → List Check → List Check
not_passed pass [] = []
not_passed pass (c ∷ cs) = cond (pass c) (not_passed pass cs) (c ∷ not_passed pass cs)

-- the checks that the first n words of b fail on a host
abbrev pub failed : Rules → Memory → ℕ → (ℕ → ℕ) → List Check
failed L m n b = not_passed (passes L m n b) all_checks

-- These are RESTORE's checks: an image is accepted if and only if it fails none of them
abbrev pub AcceptedIfNoneFails : Type 0
AcceptedIfNoneFails = (L : Rules) (m : Memory) (n : ℕ) (b : ℕ → ℕ) → (restore_refusal L m n b ≡ Option.None → failed L m n b ≡ []) × (failed L m n b ≡ [] → restore_refusal L m n b ≡ Option.None)

-- The length alone is of no matter to the promises. In the definitions an image has a word at every number, and the heap made
-- of it goes by the words alone; the check says that RESTORE was lent them.
abbrev pub LengthIsOfNoMatter : Type 0
LengthIsOfNoMatter =
    (L : Rules) → Lawful L → (m : Memory) → legal_sizes m.page_count m.page_size ≡ true → (b other : ℕ → ℕ) (n : ℕ) → ((j : ℕ) → j < image_words m → b j < 2 ^ 32) →
    failed L m n b ≡ length_enough ∷ [] → KeepsItsPromises L (both_restored L m b other)
