use Rattle.std.proofs.Common.{refl}
use Rattle.heap.proofs.heap_state.Heap.move_to.Goals as goal

pub returns : goal.returns
returns g c = record { after = c.move_to.ensures (g.H.Host.meaning c.args.self.now.host); layout = refl }
