-- Computed on the definitions: a short run, and the edges. The heaps have the tagged layout and, where nothing else is said,
-- 4 pages of 16 words.
use Rattle.std.specs.Prelude.{◌≡◌, ℕ, true, List, [], ◌∷◌}
use Rattle.memory.specs.Refusals.{number}
use Rattle.memory.specs.declared.refusals.Refusal.TheVariants.{Shape, Waits, Misfit, NoSpace}
use Rattle.layouts.specs.Split.{split}
use Rattle.layouts.specs.Tagged.{tagged}
use Rattle.layouts.specs.declared.values.Value.TheVariants.{Number, Reference}
use Rattle.model.specs.declared.calls.Answer.{Answer}
use Rattle.model.specs.declared.calls.Call.{Call}
use Rattle.model.specs.Outcomes.{Machine}
use Rattle.model.specs.Calls.{made, after, answers}

abbrev pub small_machine : Machine
small_machine = record { heap = made 4 16; buffer = λ j. 0 }

-- two objects, the second holding the first
abbrev pub two_objects : List Call
two_objects = Call.New 0 0 1 1 ∷ Call.New 0 2 1 0 ∷ []

abbrev pub short_run : List Call
short_run = Call.New 0 0 1 1 ∷ Call.New 0 2 1 0 ∷ Call.Store 0 2 0 0 ∷ Call.SetNil 0 0 ∷ Call.Flip ∷ Call.Load 0 3 2 0 ∷ Call.Same 0 2 3 ∷ Call.Take 0 ∷ Call.Resolve 0 2 102 ∷ Call.Load 0 3 2 0 ∷ Call.Step ∷ []

abbrev pub ObjectsAt29And27 : Type 0
ObjectsAt29And27 = ((after tagged small_machine two_objects).heap.register 0 ≡ Reference 29) × ((after tagged small_machine two_objects).heap.register 2 ≡ Reference 27)

abbrev pub ShortRunAnswers : Type 0
ShortRunAnswers = answers tagged small_machine short_run ≡
    Answer.Done ∷ Answer.Done ∷ Answer.Done ∷ Answer.Done ∷ Answer.Copied 2 ∷ Answer.Trapped 2 ∷ Answer.Refused Waits ∷ Answer.Fault 2 ∷ Answer.Scanned 5 3 ∷ Answer.Done ∷ Answer.Stepped true 0 0 ∷ []

-- Edges

-- the answers to a list of calls on a fresh heap, each refusal with its number
abbrev pub said : ℕ → ℕ → List Call → List Answer
said count size cs = answers tagged (record { heap = made count size; buffer = λ j. 0 }) cs

-- numbers in a slot
abbrev pub NumberEdges : Type 0
NumberEdges =
    (tagged.packed 3 0 (Number 5) ≡ 11)
    × (tagged.packed 3 0 (Number 2147483647) ≡ 4294967295)
    × (said 4 16 (Call.New 0 0 0 1 ∷ Call.SetNumber 0 1 2147483647 ∷ Call.Store 0 0 0 1 ∷ Call.SetNumber 0 1 2147483648 ∷ Call.Store 0 0 0 1 ∷ []) ≡ Answer.Done ∷ Answer.Done ∷ Answer.Done ∷ Answer.Done ∷ Answer.Refused Misfit ∷ [])
    × (number Misfit ≡ 14)

-- headers and shapes
abbrev pub ShapeEdges : Type 0
ShapeEdges =
    (tagged.header 1 1 ≡ 5)
    × (split.header 1 1 ≡ 515)
    × (said 64 16 (Call.New 0 0 200 56 ∷ Call.New 0 0 200 55 ∷ []) ≡ Answer.Refused Shape ∷ Answer.Done ∷ [])
    × (number Shape ≡ 4)

-- the object at 27 is forwarded to 32
abbrev pub ForwardingEdge : Type 0
ForwardingEdge = (after tagged small_machine (Call.New 0 0 1 1 ∷ Call.New 0 2 1 0 ∷ Call.SetNil 0 0 ∷ Call.Flip ∷ [])).heap.memory.word 27 ≡ 64

-- 16 words in use at FLIP: while collecting 16 words fit and 17 do not. 17 in use: no object fits.
abbrev pub SpaceEdges : Type 0
SpaceEdges =
    (said 4 16 (Call.New 0 0 0 15 ∷ Call.Flip ∷ Call.New 0 1 0 16 ∷ Call.New 0 1 0 15 ∷ []) ≡ Answer.Done ∷ Answer.Copied 16 ∷ Answer.Refused NoSpace ∷ Answer.Done ∷ [])
    × (said 4 16 (Call.New 0 0 0 16 ∷ Call.Flip ∷ Call.New 0 1 0 0 ∷ []) ≡ Answer.Done ∷ Answer.Copied 17 ∷ Answer.Refused NoSpace ∷ [])
    × (number NoSpace ≡ 15)
