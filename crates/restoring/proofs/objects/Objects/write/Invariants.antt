use Rattle.std.proofs.Common.{◌≡◌}
use Rattle.restoring.specs.Outlines.{word_in}
use Rattle.restoring.specs.Writing.{written}
use Rattle.restoring.proofs.objects.Objects.write.Given as goal

abbrev pub invariant-loop-a : goal.invariant-loop-a
invariant-loop-a g l = g.H.Host.meaning l.host ≡ written l.a (g.H.Host.meaning l.initial.host) (word_in l.self)
