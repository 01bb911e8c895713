use Rattle.std.proofs.Common.{◌≡◌}
use Rattle.state.specs.View.{unsaved_view}
use Rattle.images.specs.Marking.{lowered}
use Rattle.images.proofs.marking.lower_pages.Given as goal

abbrev pub invariant-loop-i : goal.invariant-loop-i
invariant-loop-i g l = g.H.Host.meaning l.host ≡ lowered (unsaved_view l.unsaved) l.i (g.H.Host.meaning l.initial.host) l.first
