-- What is proved of the definitions, of every lawful layout.
use Rattle.std.specs.Prelude.{◌≡◌, ℕ, ◌%◌, true}
use Rattle.memory.specs.Memory.{Memory, legal_sizes}
use Rattle.layouts.specs.Layouts.{Rules, Lawful}
use Rattle.model.specs.Outcomes.{Machine}
use Rattle.model.specs.Never.{never_made}
use Rattle.model.specs.Runs.{Both, AnswersAsIfNothingMoved}
use Rattle.model.specs.Collections.{CollectionCopiesTheReached}
use Rattle.model.specs.Repeats.{ResolvedCallsGoOn}
use Rattle.model.specs.Checkpoints.{ImagesAreSealed, ImagesRestoreTheirMoment, RestoredHeapsWriteTheirImage}
use Rattle.model.specs.Promises.{KeepsItsPromises}
use Rattle.model.specs.Starts.{Start}
use Rattle.theory.specs.Mutating.{made_with}

-- every heap keeps its promises, over all lists of calls that begin at MAKE or at RESTORE of an image
abbrev pub HeapsKeepTheirPromises : Type 0
HeapsKeepTheirPromises = (L : Rules) → Lawful L → (y : Both) → Start L y → KeepsItsPromises L y

-- The promises one by one, on a heap of legal sizes with an even number of pages, as MAKE leaves it.

abbrev pub OfEveryHeap : (Rules → Machine → Type 0) → Type 0
OfEveryHeap holds = (L : Rules) → Lawful L → (count size : ℕ) → legal_sizes count size ≡ true → count % 2 ≡ 0 → (b : ℕ → ℕ) → holds L (made_with count size b)

-- both heaps at the start
abbrev pub both_from : Machine → Both
both_from x = record { moving = x; never = never_made }

-- every list of calls is answered as if nothing moved
abbrev pub HeapsAnswerAsIfNothingMoved : Type 0
HeapsAnswerAsIfNothingMoved = OfEveryHeap (λ L x. AnswersAsIfNothingMoved L (both_from x))

-- every collection copies exactly what FLIP's registers reached
abbrev pub CollectionsCopyTheReached : Type 0
CollectionsCopyTheReached = OfEveryHeap (λ L x. CollectionCopiesTheReached L (both_from x))

-- every call whose fault was resolved goes on
abbrev pub CallsGoOn : Type 0
CallsGoOn = OfEveryHeap ResolvedCallsGoOn

-- every image is sealed in time, and restores its moment
abbrev pub AllImagesAreSealed : Type 0
AllImagesAreSealed = OfEveryHeap ImagesAreSealed

abbrev pub AllImagesRestoreTheirMoment : Type 0
AllImagesRestoreTheirMoment = OfEveryHeap ImagesRestoreTheirMoment

-- on a host of legal sizes every restored heap writes its image again
abbrev pub AllRestoredHeapsWriteTheirImage : Type 0
AllRestoredHeapsWriteTheirImage = (L : Rules) → Lawful L → (m : Memory) → legal_sizes m.page_count m.page_size ≡ true → RestoredHeapsWriteTheirImage L m
