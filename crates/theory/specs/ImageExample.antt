-- Computed on the definitions: an image of two copied objects and a new one, its never-moving heap, and calls that both heaps
-- answer alike. The heap has the tagged layout and 4 pages of 16 words.
use Rattle.std.specs.Prelude.{◌≡◌, ℕ, true, List, [], ◌∷◌, ◌++◌, replicate, slice_index}
use Rattle.std.specs.declared.option.Option.TheVariants as Option
use Rattle.layouts.specs.Tagged.{tagged}
use Rattle.layouts.specs.declared.values.Value.TheVariants.{Nil, Number, Reference}
use Rattle.model.specs.declared.calls.Answer.{Answer}
use Rattle.model.specs.declared.calls.Call.{Call}
use Rattle.model.specs.declared.calls.Kind.TheVariants as Kind
use Rattle.model.specs.Calls.{fresh_memory, answers}
use Rattle.model.specs.Restoring.{restore_refusal}
use Rattle.model.specs.Runs.{Both, sizes_of, tellings}
use Rattle.model.specs.Never.{never_answers}
use Rattle.model.specs.Starts.{both_restored, Start}

-- an object at 32, one at 35 that holds it, both copied; a new one at 61 that holds the second, and is held by the first.
-- Registers 0 and 2 of mutator 0 hold the first and the new one.
abbrev pub image_list : List ℕ
image_list = 16 ∷ 2 ∷ 1 ∷ 1 ∷ 5 ∷ 3 ∷ 2 ∷ 32 ∷ 0 ∷ 0 ∷ 2 ∷ 61 ∷ replicate 58 0 ++ 5 ∷ 124 ∷ 1 ∷ 3 ∷ 66 ∷ replicate 24 0 ++ 5 ∷ 72 ∷ 1 ∷ []

abbrev pub its_image : ℕ → ℕ
its_image j = slice_index image_list j

abbrev pub both_of_it : Both
both_of_it = both_restored tagged (fresh_memory 4 16) its_image its_image

abbrev pub ImageIsAccepted : Type 0
ImageIsAccepted = restore_refusal tagged (fresh_memory 4 16) 102 its_image ≡ Option.None

-- so calls may begin there
abbrev pub ImageIsAStart : Type 0
ImageIsAStart = Start tagged both_of_it

-- the registers hold places 0, none and 2; each object holds the one before, the first the last
abbrev pub ObjectsOfTheImage : Type 0
ObjectsOfTheImage =
    (both_of_it.never.objects ≡
    record { header = 5; slots = Reference 2 ∷ Number 0 ∷ [] } ∷ record { header = 3; slots = Reference 0 ∷ [] } ∷ record { header = 5; slots = Reference 1 ∷ Number 0 ∷ [] } ∷ [])
    × (both_of_it.never.register 0 ≡ Reference 0)
    × (both_of_it.never.register 1 ≡ Nil)
    × (both_of_it.never.register 2 ≡ Reference 2)

-- from the new object round to it
abbrev pub round_trip : List Call
round_trip = Call.Load 0 3 2 0 ∷ Call.Load 0 4 3 0 ∷ Call.Same 0 4 0 ∷ Call.Load 0 5 4 0 ∷ Call.Same 0 5 2 ∷ Call.Tell 0 1 ∷ []

abbrev pub RoundTripAnswers : Type 0
RoundTripAnswers =
    (answers tagged both_of_it.moving round_trip ≡ Answer.Done ∷ Answer.Done ∷ Answer.Same true ∷ Answer.Done ∷ Answer.Same true ∷ Answer.Kind Kind.Nil ∷ [])
    × (never_answers tagged (sizes_of both_of_it.moving) both_of_it.never round_trip (tellings (answers tagged both_of_it.moving round_trip))
    ≡ Answer.Done ∷ Answer.Done ∷ Answer.Same true ∷ Answer.Done ∷ Answer.Same true ∷ Answer.Kind Kind.Nil ∷ [])
