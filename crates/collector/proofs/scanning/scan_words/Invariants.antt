use Rattle.std.proofs.Common.{◌≡◌, ◌-◌}
use Rattle.model.specs.Scanning.{run_scanned}
use Rattle.state.specs.View.{moving_of}
use Rattle.collector.proofs.scanning.scan_words.Given as goal

-- what is left leads from here to where the whole run leads
abbrev pub invariant-run : goal.invariant-run
invariant-run g l = run_scanned g.L.Layout.rules (l.stop - l.at) l.stop (moving_of (g.H.Host.meaning l.host) l.space) l.object l.at ≡ run_scanned g.L.Layout.rules (l.stop - l.from) l.stop (moving_of (g.H.Host.meaning l.initial.host) l.initial.space) l.head l.from

abbrev pub decreases-run : goal.decreases-run
decreases-run g l = l.stop - l.at
