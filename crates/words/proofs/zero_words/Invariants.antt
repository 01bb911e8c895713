use Rattle.std.proofs.Common.{◌≡◌}
use Rattle.words.specs.Words.{zeroed}
use Rattle.words.proofs.zero_words.Given as goal

abbrev pub invariant-loop-a : goal.invariant-loop-a
invariant-loop-a g l = g.H.Host.meaning l.host ≡ zeroed l.a (g.H.Host.meaning l.initial.host)
