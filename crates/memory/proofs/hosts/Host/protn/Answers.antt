use Rattle.std.proofs.Common.{rules}
use Rattle.memory.proofs.Memories.{run_turn}
use Rattle.memory.proofs.hosts.Host.protn.Goals as goal

pub loop-p-preserved : goal.loop-p-preserved
loop-p-preserved g c =
    let means = g.Self.Host.meaning in
    run_turn (means c.args.self.now) (means c.loop-p.self) _ c.args.first c.loop-p.p c.args.right (search rules) (search rules) c.loop-p.invariant c.prot1.ensures.after
