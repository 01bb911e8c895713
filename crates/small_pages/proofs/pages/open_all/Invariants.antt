use Rattle.std.proofs.Common.{◌≡◌}
use Rattle.small_pages.proofs.Leasts.{opened_to}
use Rattle.small_pages.proofs.pages.open_all.Given as goal

abbrev pub invariant-loop-p : goal.invariant-loop-p
invariant-loop-p g l = g.H.Host.meaning l.host ≡ opened_to (g.H.Host.meaning l.initial.host) l.p
