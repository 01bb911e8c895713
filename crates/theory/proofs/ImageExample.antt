-- The image's example computes.
use Rattle.std.proofs.Common.{◌≡◌, ℕ, ◌^◌, ◌<◌, true, ltb, refl}
use Rattle.std.proofs.lemmas.Bool.{ltb-true}
use Rattle.model.specs.Calls.{fresh_memory}
use Rattle.model.specs.Restoring.{every_below}
use Rattle.model.specs.Starts.{Start.at_restore}
use Rattle.theory.specs.Restore.{every}
use Rattle.theory.specs.ImageExample.{its_image, ImageIsAccepted, ImageIsAStart, ObjectsOfTheImage, RoundTripAnswers}
use Rattle.theory.proofs.Again.{every_at}

pub image_is_accepted : ImageIsAccepted
unfolding every_below
image_is_accepted = refl

words_fit : every 102 (λ j. ltb (its_image j) (2 ^ 32)) ≡ true
unfolding every
words_fit = refl

word_fits : (j : ℕ) → j < 102 → its_image j < 2 ^ 32
word_fits j l = ltb-true (its_image j) (2 ^ 32) (every_at 102 (λ i. ltb (its_image i) (2 ^ 32)) words_fit j l)

pub image_is_a_start : ImageIsAStart
image_is_a_start = at_restore (fresh_memory 4 16) refl its_image its_image 102 word_fits image_is_accepted

pub objects_of_the_image : ObjectsOfTheImage
objects_of_the_image = (refl, refl, refl, refl)

pub round_trip_answers : RoundTripAnswers
round_trip_answers = (refl, refl)
