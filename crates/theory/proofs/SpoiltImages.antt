-- The spoilt images compute.
use Rattle.std.proofs.Common.{◌≡◌, ℕ, ◌<◌, List, [], ◌∷◌, sym, refl, ◌∙◌, arith}
use Rattle.memory.specs.declared.refusals.Refusal.TheVariants.{Outside, Slot}
use Rattle.model.specs.declared.calls.Answer.{Answer}
use Rattle.model.specs.declared.calls.Call.{Call}
use Rattle.model.specs.declared.calls.Kind.TheVariants as Kind
use Rattle.model.specs.Forwarding.{roots_forwarded}
use Rattle.model.specs.Scanning.{lowest}
use Rattle.model.specs.Reaching.{reached_within}
use Rattle.model.specs.Restoring.{every_below}
use Rattle.model.specs.Collections.{SinceFlip.flips}
use Rattle.model.specs.Checkpoints.{SinceMark.marks}
use Rattle.theory.specs.SpoiltImages.{written_again, WritesOther, moving_says, never_says, AnswersDiffer}
use Rattle.theory.specs.SpoiltImages.{unsealed_image, other_words_0_to_2, half_2_image, too_full_image, store_and_look, kind_3_image, nil_5_image, unused_7_image, cut_copied_image, fill_and_look, cut_new_image, look, astray_copied_image, follow, astray_new_image, astray_register_image}
use Rattle.theory.specs.SpoiltImages.{OnePageWouldNotBeSealedInTime, UnsealedWouldNotRestoreItsMoment, OtherPageSizeWouldNotBeWrittenAgain, OtherPagesOfAHalfWouldNotBeWrittenAgain, OtherLayoutWouldNotBeWrittenAgain, Half2WouldNotBeWrittenAgain, TooManyWordsWouldAnswerOtherwise, Kind3WouldNotBeWrittenAgain, NilWithPayloadWouldNotBeWrittenAgain, UnusedWordWouldNotBeWrittenAgain, EvenWordAmongTheCopiedWouldNotBeCopied, CutCopiedObjectWouldAnswerOtherwise, EvenWordAmongTheNewWouldNotBeCopied, CutNewObjectWouldAnswerOtherwise, CopiedSlotAstrayWouldAnswerOtherwise, NewSlotAstrayWouldAnswerOtherwise, RegisterAstrayWouldAnswerOtherwise}

writes_other : (b : ℕ → ℕ) (j v w : ℕ) → j < 102 → written_again b j ≡ v → b j ≡ w → (v ≡ w → ⊥) → WritesOther b j v w
writes_other b j v w l e f ne = (e, f, λ again. ne (sym e ∙ again j l ∙ f))

answers_differ : (b : ℕ → ℕ) (cs : List Call) (xs ys : List Answer) → moving_says b cs ≡ xs → never_says b cs ≡ ys → (ys ≡ xs → ⊥) → AnswersDiffer b cs xs ys
answers_differ b cs xs ys e f ne = (e, f, λ alike. ne (sym f ∙ alike cs ∙ e))

-- The host and words 0 to 2

pub one_page_sealed_late : OnePageWouldNotBeSealedInTime
unfolding every_below
one_page_sealed_late = (refl, λ sealed. omega (arith, sealed [] 0 _ _ refl (marks 70 refl) refl))

pub unsealed : UnsealedWouldNotRestoreItsMoment
unfolding every_below lowest
unsealed = (refl, refl, refl, refl, (λ same. let e : ◌≡◌ {A = ℕ} 0 15 = same.words 63 (omega arith) (omega arith) refl in omega arith), writes_other unsealed_image 0 16 0 (omega arith) refl refl (λ e. omega arith))

pub other_page_size : OtherPageSizeWouldNotBeWrittenAgain
unfolding every_below lowest
other_page_size = (refl, writes_other (other_words_0_to_2 32 2 1) 0 16 32 (omega arith) refl refl (λ e. omega arith))

pub other_half_pages : OtherPagesOfAHalfWouldNotBeWrittenAgain
unfolding every_below lowest
other_half_pages = (refl, writes_other (other_words_0_to_2 16 3 1) 1 2 3 (omega arith) refl refl (λ e. omega arith))

pub other_layout : OtherLayoutWouldNotBeWrittenAgain
unfolding every_below lowest
other_layout = (refl, writes_other (other_words_0_to_2 16 2 2) 2 1 2 (omega arith) refl refl (λ e. omega arith))

-- Half, copied and new words

pub half_2 : Half2WouldNotBeWrittenAgain
unfolding every_below lowest
half_2 = (refl, writes_other half_2_image 3 1 2 (omega arith) refl refl (λ e. omega arith))

pub too_many_words : TooManyWordsWouldAnswerOtherwise
unfolding every_below
too_many_words = (refl, answers_differ too_full_image store_and_look (Answer.Done ∷ Answer.Done ∷ Answer.Done ∷ Answer.Kind (Kind.Number 7) ∷ []) (Answer.Done ∷ Answer.Done ∷ Answer.Done ∷ Answer.Kind (Kind.Number 0) ∷ []) refl refl (λ e. let z : ◌≡◌ {A = ℕ} 0 7 = cc in omega arith))

-- Registers and unused words

pub kind_3 : Kind3WouldNotBeWrittenAgain
unfolding every_below lowest
kind_3 = (refl, writes_other kind_3_image 6 2 3 (omega arith) refl refl (λ e. omega arith))

pub nil_with_payload : NilWithPayloadWouldNotBeWrittenAgain
unfolding every_below lowest
nil_with_payload = (refl, writes_other nil_5_image 7 0 5 (omega arith) refl refl (λ e. omega arith))

pub unused_word : UnusedWordWouldNotBeWrittenAgain
unfolding every_below lowest
unused_word = (refl, writes_other unused_7_image 70 0 7 (omega arith) refl refl (λ e. omega arith))

-- Rows of objects

pub even_copied : EvenWordAmongTheCopiedWouldNotBeCopied
unfolding every_below roots_forwarded lowest reached_within
even_copied = (refl, (refl, refl, λ copies. let e : ◌≡◌ {A = ℕ} 0 1 = ((copies [] _ _ _ refl (flips refl) refl).2 Call.Step refl).copied in omega arith))

pub cut_copied : CutCopiedObjectWouldAnswerOtherwise
unfolding every_below
cut_copied = (refl, answers_differ cut_copied_image fill_and_look (Answer.Done ∷ Answer.Done ∷ Answer.Kind (Kind.Number 30) ∷ []) (Answer.Done ∷ Answer.Done ∷ Answer.Kind Kind.Nil ∷ []) refl refl (λ e. let z : ◌≡◌ {A = ℕ} 0 1 = cc in omega arith))

pub even_new : EvenWordAmongTheNewWouldNotBeCopied
unfolding every_below roots_forwarded lowest reached_within
even_new = (refl, (refl, refl, λ copies. let e : ◌≡◌ {A = ℕ} 0 1 = ((copies [] _ _ _ refl (flips refl) refl).2 Call.Step refl).copied in omega arith))

pub cut_new : CutNewObjectWouldAnswerOtherwise
unfolding every_below
cut_new = (refl, answers_differ cut_new_image look (Answer.Refused Outside ∷ []) (Answer.Done ∷ []) refl refl (λ e. let z : ◌≡◌ {A = ℕ} 0 1 = cc in omega arith))

-- References

pub copied_astray : CopiedSlotAstrayWouldAnswerOtherwise
unfolding every_below
copied_astray = (refl, answers_differ astray_copied_image follow (Answer.Done ∷ Answer.Done ∷ []) (Answer.Done ∷ Answer.Refused Slot ∷ []) refl refl (λ e. let z : ◌≡◌ {A = ℕ} 0 1 = cc in omega arith))

pub new_astray : NewSlotAstrayWouldAnswerOtherwise
unfolding every_below
new_astray = (refl, answers_differ astray_new_image follow (Answer.Done ∷ Answer.Done ∷ []) (Answer.Done ∷ Answer.Refused Slot ∷ []) refl refl (λ e. let z : ◌≡◌ {A = ℕ} 0 1 = cc in omega arith))

pub register_astray : RegisterAstrayWouldAnswerOtherwise
unfolding every_below
register_astray = (refl, answers_differ astray_register_image look (Answer.Done ∷ []) (Answer.Refused Slot ∷ []) refl refl (λ e. let z : ◌≡◌ {A = ℕ} 0 1 = cc in omega arith))
