use Rattle.std.proofs.Common.{◌≡◌, ◌-◌}
use Rattle.memory.specs.Memory.{lowered_run}
use Rattle.small_pages.specs.Layers.{layer_meaning, Least, SameSizes}
use Rattle.small_pages.proofs.pages.SmallPagesHost.protn.Given as goal

abbrev pub invariant-loop-p : goal.invariant-loop-p
invariant-loop-p g l = let means = g.H.Host.meaning in (layer_meaning means l.self ≡ lowered_run (layer_meaning means l.initial.self) l.first (l.p - l.first) l.right) × SameSizes means l.initial.self l.self × (Least means l.initial.self → Least means l.self)
