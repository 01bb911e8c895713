use Rattle.std.proofs.Common.{◌≡◌}
use Rattle.model.specs.Mutators.{slots_put}
use Rattle.heap.proofs.allocation.put_object.Given as goal

abbrev pub invariant-loop-i : goal.invariant-loop-i
invariant-loop-i g l = g.H.Host.meaning l.host ≡ slots_put g.L.Layout.rules l.i (g.H.Host.meaning l.initial.host) l.header l.at l.references
