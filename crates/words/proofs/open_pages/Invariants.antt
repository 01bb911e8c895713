use Rattle.std.proofs.Common.{◌≡◌}
use Rattle.model.specs.Collecting.{opened}
use Rattle.words.proofs.open_pages.Given as goal

abbrev pub invariant-loop-i : goal.invariant-loop-i
invariant-loop-i g l = g.H.Host.meaning l.host ≡ opened l.i (g.H.Host.meaning l.initial.host) l.first
