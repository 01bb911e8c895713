-- The calls of a list as they are carried out with one buffer.
use Rattle.std.specs.Prelude.{ℕ, min, List, map}
use Rattle.model.specs.declared.calls.Call.{Call}
use Rattle.model.specs.declared.calls.Call.TheVariants.{New, Load, Store, Copy, SetNumber, SetNil, Same, Tell, Count, Flip, Step, Take, Resolve, Mark, Save}
use Rattle.runs.specs.Lists.{as_call}
use Rattle.whole_runs.specs.declared.turns.Turn.{Turn}

-- the call as the definitions of both heaps have it
abbrev pub turn_call : Turn → Call
turn_call (Turn.Mutator c) = as_call c
turn_call Turn.Flip = Flip
turn_call Turn.Step = Step
turn_call (Turn.Take m) = Take m
turn_call (Turn.Resolve m p n) = Resolve m p n
turn_call (Turn.Mark n) = Mark n
turn_call (Turn.Save n) = Save n

-- the call with a buffer of n words: it is lent no more than there are
abbrev pub within : ℕ → Call → Call
within n (New m d r w) = New m d r w
within n (Load m d s i) = Load m d s i
within n (Store m s i x) = Store m s i x
within n (Copy m d f s) = Copy m d f s
within n (SetNumber m d k) = SetNumber m d k
within n (SetNil m d) = SetNil m d
within n (Same m l r) = Same m l r
within n (Tell m s) = Tell m s
within n Count = Count
within n Flip = Flip
within n Step = Step
within n (Take m) = Take m
within n (Resolve m p k) = Resolve m p (min k n)
within n (Mark k) = Mark (min k n)
within n (Save k) = Save (min k n)

abbrev pub all_within : ℕ → List Call → List Call
all_within n cs = map (within n) cs
