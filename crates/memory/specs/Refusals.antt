-- The number of each refusal.
use Rattle.std.specs.Prelude.{ℕ}
use Rattle.memory.specs.declared.refusals.Refusal.{Refusal}
use Rattle.memory.specs.declared.refusals.Refusal.TheVariants.{Size, Outside, Name, Shape, Short, OtherImage, BadImage, Frames, Waits, NoReference, Slot, Misfit, NoSpace, Busy, FaultStands, Nothing, NoFault}

abbrev pub number : Refusal → ℕ
number Size = 1
number Outside = 2
number Name = 3
number Shape = 4
number Short = 5
number OtherImage = 6
number BadImage = 7
number Frames = 9
number Waits = 11
number NoReference = 12
number Slot = 13
number Misfit = 14
number NoSpace = 15
number Busy = 16
number FaultStands = 17
number Nothing = 18
number NoFault = 19
