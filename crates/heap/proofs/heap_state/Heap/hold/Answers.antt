use Rattle.std.proofs.Common.{refl}
use Rattle.heap.proofs.heap_state.Heap.hold.Goals as goal

pub returns : goal.returns
returns g c = record { after = c.hold.ensures (g.H.Host.meaning c.args.self.now.host); layout = refl }
