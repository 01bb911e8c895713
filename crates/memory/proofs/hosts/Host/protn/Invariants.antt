use Rattle.std.proofs.Common.{◌≡◌, ◌-◌}
use Rattle.memory.specs.Memory.{lowered_run}
use Rattle.memory.proofs.hosts.Host.protn.Given as goal

abbrev pub invariant-loop-p : goal.invariant-loop-p
invariant-loop-p g l = g.Self.Host.meaning l.self ≡ lowered_run (g.Self.Host.meaning l.initial.self) l.first (l.p - l.first) l.right
