-- What each of RESTORE's checks is for, computed on the definitions: images that fail one check alone, and a promise that the heap
-- made of such an image breaks. The heaps have the tagged layout and, where nothing else is said, 4 pages of 16 words, so
-- that an image has 102 words.
use Rattle.std.specs.Prelude.{◌≡◌, ℕ, ◌<◌, true, List, [], ◌∷◌, ◌++◌, replicate, slice_index}
use Rattle.memory.specs.Memory.{Memory}
use Rattle.memory.specs.declared.refusals.Refusal.TheVariants.{Outside, Slot}
use Rattle.layouts.specs.Tagged.{tagged}
use Rattle.model.specs.declared.calls.Answer.{Answer}
use Rattle.model.specs.declared.calls.Call.{Call}
use Rattle.model.specs.declared.calls.Kind.TheVariants as Kind
use Rattle.model.specs.Calls.{fresh_memory, after, answers}
use Rattle.model.specs.Restoring.{restored}
use Rattle.model.specs.Runs.{Both, sizes_of, both_after_all, tellings, without_all_counts, AnswersAsIfNothingMoved}
use Rattle.model.specs.Never.{never_answers}
use Rattle.model.specs.Collections.{CollectionCopiesTheReached}
use Rattle.model.specs.Checkpoints.{saves, ImagesAreSealed, SameContents}
use Rattle.model.specs.Starts.{both_restored}
use Rattle.theory.specs.RestoreChecks.{Check, Check.pages_even, Check.is_sealed, Check.page_size_same, Check.half_pages_same, Check.layout_same, Check.half_0_or_1, Check.words_fit, Check.kinds_to_2, Check.nils_bare, Check.unused_0, Check.copied_whole, Check.new_whole, Check.copied_refer, Check.new_refer, Check.registers_refer, failed}

-- Images as lists of words

-- 16 words to a page, 2 pages to a half, layout 1
abbrev pub image_of : List ℕ → ℕ → ℕ
image_of words j = slice_index (16 ∷ 2 ∷ 1 ∷ words) j

-- an image of the upper half: the copied and the new words, registers 0 and 1 by their kinds and payloads, every other one nil;
-- and then to-space
abbrev pub upper_image : ℕ → ℕ → ℕ → ℕ → ℕ → ℕ → List ℕ → ℕ → ℕ
upper_image copied new kind₀ payload₀ kind₁ payload₁ words = image_of (1 ∷ copied ∷ new ∷ kind₀ ∷ payload₀ ∷ kind₁ ∷ payload₁ ∷ replicate 60 0 ++ words)

-- The heap made of an image, accepted or not

abbrev pub host : Memory
host = fresh_memory 4 16

-- the heap that RESTORE makes of an image, and the never-moving heap of that image
abbrev pub heaps_of : (ℕ → ℕ) → Both
heaps_of b = both_restored tagged host b b

-- the image fails this check, and passes every other one
abbrev pub FailsOnly : Check → (ℕ → ℕ) → Type 0
FailsOnly c b = failed tagged host 102 b ≡ c ∷ []

-- the words that MARK and SAVEs right after RESTORE leave; they are to be the image's, as in RestoredHeapsWriteTheirImage
abbrev pub written_again : (ℕ → ℕ) → ℕ → ℕ
written_again b = (after tagged (heaps_of b).moving (Call.Mark 102 ∷ saves 2 102)).buffer

abbrev pub WritesItsImage : (ℕ → ℕ) → Type 0
WritesItsImage b = (j : ℕ) → j < 102 → written_again b j ≡ b j

-- word j is written as v and was w, so the image is not written again
abbrev pub WritesOther : (ℕ → ℕ) → ℕ → ℕ → ℕ → Type 0
WritesOther b j v w = (written_again b j ≡ v) × (b j ≡ w) × (WritesItsImage b → ⊥)

-- what the heap answers, counts apart, and what the never-moving one does
abbrev pub moving_says : (ℕ → ℕ) → List Call → List Answer
moving_says b cs = without_all_counts (answers tagged (heaps_of b).moving cs)

abbrev pub never_says : (ℕ → ℕ) → List Call → List Answer
never_says b cs = never_answers tagged (sizes_of (heaps_of b).moving) (heaps_of b).never cs (tellings (answers tagged (heaps_of b).moving cs))

-- one answers these calls so, the other so; so the answers are not as if nothing moved
abbrev pub AnswersDiffer : (ℕ → ℕ) → List Call → List Answer → List Answer → Type 0
AnswersDiffer b cs xs ys = (moving_says b cs ≡ xs) × (never_says b cs ≡ ys) × (AnswersAsIfNothingMoved tagged (heaps_of b) → ⊥)

-- FLIP and one STEP copy no word in all and end, while the registers reached L words; so a collection does not copy what they reached
abbrev pub CopiesTooLittle : (ℕ → ℕ) → ℕ → Type 0
CopiesTooLittle b reached =
    (answers tagged (heaps_of b).moving (Call.Flip ∷ Call.Step ∷ []) ≡ Answer.Copied 0 ∷ Answer.Stepped true 0 0 ∷ [])
    × ((both_after_all tagged (sizes_of (heaps_of b).moving) (heaps_of b) (Call.Flip ∷ Call.Step ∷ [])).never.reached ≡ reached)
    × (CollectionCopiesTheReached tagged (heaps_of b) → ⊥)

-- The host

-- one page of 16 words: a half has none, and an image 70 words
abbrev pub one_page : Memory
one_page = fresh_memory 1 16

abbrev pub empty_image : ℕ → ℕ
empty_image j = slice_index (16 ∷ 0 ∷ 1 ∷ []) j

-- an image is to be sealed no later than at SAVE 0, and MARK seals none
abbrev pub OnePageWouldNotBeSealedInTime : Type 0
OnePageWouldNotBeSealedInTime =
    (failed tagged one_page 70 empty_image ≡ pages_even ∷ [])
    × (ImagesAreSealed tagged (both_restored tagged one_page empty_image empty_image).moving → ⊥)

-- Words 0 to 2

-- an object that fills the upper half, 7 in its last slot
abbrev pub full_image : ℕ → ℕ
full_image = upper_image 32 0 2 32 0 0 (63 ∷ replicate 30 1 ++ 15 ∷ [])

-- MARK and one SAVE of two: the second page is yet to be saved
abbrev pub unsealed_image : ℕ → ℕ
unsealed_image = (after tagged (record { heap = restored host full_image; buffer = λ j. 0 }) (Call.Mark 102 ∷ Call.Save 102 ∷ [])).buffer

-- the last slot, 7 at MARK, is nil in the heap made of it; and word 0 is written
abbrev pub UnsealedWouldNotRestoreItsMoment : Type 0
UnsealedWouldNotRestoreItsMoment =
    (failed tagged host 102 full_image ≡ [])
    × FailsOnly is_sealed unsealed_image
    × ((restored host full_image).memory.word 63 ≡ 15)
    × ((restored host unsealed_image).memory.word 63 ≡ 0)
    × (SameContents (restored host full_image) (restored host unsealed_image) → ⊥)
    × WritesOther unsealed_image 0 16 0

abbrev pub other_words_0_to_2 : ℕ → ℕ → ℕ → ℕ → ℕ
other_words_0_to_2 size pages layout j = slice_index (size ∷ pages ∷ layout ∷ []) j

abbrev pub OtherPageSizeWouldNotBeWrittenAgain : Type 0
OtherPageSizeWouldNotBeWrittenAgain = FailsOnly page_size_same (other_words_0_to_2 32 2 1) × WritesOther (other_words_0_to_2 32 2 1) 0 16 32

abbrev pub OtherPagesOfAHalfWouldNotBeWrittenAgain : Type 0
OtherPagesOfAHalfWouldNotBeWrittenAgain = FailsOnly half_pages_same (other_words_0_to_2 16 3 1) × WritesOther (other_words_0_to_2 16 3 1) 1 2 3

abbrev pub OtherLayoutWouldNotBeWrittenAgain : Type 0
OtherLayoutWouldNotBeWrittenAgain = FailsOnly layout_same (other_words_0_to_2 16 2 2) × WritesOther (other_words_0_to_2 16 2 2) 2 1 2

-- Half, copied and new words

abbrev pub half_2_image : ℕ → ℕ
half_2_image = image_of (2 ∷ [])

abbrev pub Half2WouldNotBeWrittenAgain : Type 0
Half2WouldNotBeWrittenAgain = FailsOnly half_0_or_1 half_2_image × WritesOther half_2_image 3 1 2

-- 32 copied words and 2 new ones in a half of 32: the last two slots of the object at 32 are the header and the slot of that at 62
abbrev pub too_full_image : ℕ → ℕ
too_full_image = upper_image 32 2 2 32 2 62 (63 ∷ replicate 29 1 ++ 3 ∷ 1 ∷ [])

-- 7 stored in the first, then the slot of the second
abbrev pub store_and_look : List Call
store_and_look = Call.SetNumber 0 2 7 ∷ Call.Store 0 0 30 2 ∷ Call.Load 0 3 1 0 ∷ Call.Tell 0 3 ∷ []

-- what is stored in one shows in the other
abbrev pub TooManyWordsWouldAnswerOtherwise : Type 0
TooManyWordsWouldAnswerOtherwise =
    FailsOnly words_fit too_full_image
    × AnswersDiffer too_full_image store_and_look
    (Answer.Done ∷ Answer.Done ∷ Answer.Done ∷ Answer.Kind (Kind.Number 7) ∷ [])
    (Answer.Done ∷ Answer.Done ∷ Answer.Done ∷ Answer.Kind (Kind.Number 0) ∷ [])

-- Registers and unused words

-- an object without slots at 32, in register 0, of kind 3
abbrev pub kind_3_image : ℕ → ℕ
kind_3_image = upper_image 1 0 3 32 0 0 (1 ∷ [])

abbrev pub Kind3WouldNotBeWrittenAgain : Type 0
Kind3WouldNotBeWrittenAgain = FailsOnly kinds_to_2 kind_3_image × WritesOther kind_3_image 6 2 3

abbrev pub nil_5_image : ℕ → ℕ
nil_5_image = upper_image 0 0 0 5 0 0 []

abbrev pub NilWithPayloadWouldNotBeWrittenAgain : Type 0
NilWithPayloadWouldNotBeWrittenAgain = FailsOnly nils_bare nil_5_image × WritesOther nil_5_image 7 0 5

abbrev pub unused_7_image : ℕ → ℕ
unused_7_image = upper_image 0 0 0 0 0 0 (7 ∷ [])

abbrev pub UnusedWordWouldNotBeWrittenAgain : Type 0
UnusedWordWouldNotBeWrittenAgain = FailsOnly unused_0 unused_7_image × WritesOther unused_7_image 70 0 7

-- Rows of objects

-- one copied word, and it is even
abbrev pub even_copied_image : ℕ → ℕ
even_copied_image = upper_image 1 0 2 32 0 0 (2 ∷ [])

abbrev pub EvenWordAmongTheCopiedWouldNotBeCopied : Type 0
EvenWordAmongTheCopiedWouldNotBeCopied = FailsOnly copied_whole even_copied_image × CopiesTooLittle even_copied_image 1

-- one copied word: the header of an object with one slot
abbrev pub cut_copied_image : ℕ → ℕ
cut_copied_image = upper_image 1 0 2 32 0 0 (3 ∷ [])

-- a new object of 31 words, and then that slot
abbrev pub fill_and_look : List Call
fill_and_look = Call.New 0 1 0 30 ∷ Call.Load 0 2 0 0 ∷ Call.Tell 0 2 ∷ []

-- the slot, nil, becomes the header of the new object
abbrev pub CutCopiedObjectWouldAnswerOtherwise : Type 0
CutCopiedObjectWouldAnswerOtherwise =
    FailsOnly copied_whole cut_copied_image
    × AnswersDiffer cut_copied_image fill_and_look
    (Answer.Done ∷ Answer.Done ∷ Answer.Kind (Kind.Number 30) ∷ [])
    (Answer.Done ∷ Answer.Done ∷ Answer.Kind Kind.Nil ∷ [])

-- one new word, and it is even
abbrev pub even_new_image : ℕ → ℕ
even_new_image = upper_image 0 1 2 63 0 0 (replicate 31 0 ++ 2 ∷ [])

abbrev pub EvenWordAmongTheNewWouldNotBeCopied : Type 0
EvenWordAmongTheNewWouldNotBeCopied = FailsOnly new_whole even_new_image × CopiesTooLittle even_new_image 1

-- one new word: the header of an object with one slot, past the last word of the host
abbrev pub cut_new_image : ℕ → ℕ
cut_new_image = upper_image 0 1 2 63 0 0 (replicate 31 0 ++ 3 ∷ [])

-- the first slot of what register 0 refers to
abbrev pub look : List Call
look = Call.Load 0 1 0 0 ∷ []

abbrev pub CutNewObjectWouldAnswerOtherwise : Type 0
CutNewObjectWouldAnswerOtherwise =
    FailsOnly new_whole cut_new_image
    × AnswersDiffer cut_new_image look (Answer.Refused Outside ∷ []) (Answer.Done ∷ [])

-- References into the middle of an object: to its first slot, whose word is 3, the number 1, and would be a header with one slot

-- the second slot of the object in register 0, and the first slot of what it refers to
abbrev pub follow : List Call
follow = Call.Load 0 1 0 1 ∷ Call.Load 0 2 1 0 ∷ []

-- from its second slot, the object being copied
abbrev pub astray_copied_image : ℕ → ℕ
astray_copied_image = upper_image 3 0 2 32 0 0 (5 ∷ 3 ∷ 68 ∷ [])

abbrev pub CopiedSlotAstrayWouldAnswerOtherwise : Type 0
CopiedSlotAstrayWouldAnswerOtherwise =
    FailsOnly copied_refer astray_copied_image
    × AnswersDiffer astray_copied_image follow (Answer.Done ∷ Answer.Done ∷ []) (Answer.Done ∷ Answer.Refused Slot ∷ [])

-- from its second slot, the object being new
abbrev pub astray_new_image : ℕ → ℕ
astray_new_image = upper_image 0 3 2 61 0 0 (replicate 29 0 ++ 5 ∷ 3 ∷ 126 ∷ [])

abbrev pub NewSlotAstrayWouldAnswerOtherwise : Type 0
NewSlotAstrayWouldAnswerOtherwise =
    FailsOnly new_refer astray_new_image
    × AnswersDiffer astray_new_image follow (Answer.Done ∷ Answer.Done ∷ []) (Answer.Done ∷ Answer.Refused Slot ∷ [])

-- from register 0
abbrev pub astray_register_image : ℕ → ℕ
astray_register_image = upper_image 3 0 2 33 0 0 (5 ∷ 3 ∷ 1 ∷ [])

abbrev pub RegisterAstrayWouldAnswerOtherwise : Type 0
RegisterAstrayWouldAnswerOtherwise =
    FailsOnly registers_refer astray_register_image
    × AnswersDiffer astray_register_image look (Answer.Done ∷ []) (Answer.Refused Slot ∷ [])
