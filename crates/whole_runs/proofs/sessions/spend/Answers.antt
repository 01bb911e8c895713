use Rattle.std.proofs.Common.{[], sym, ap, ◌∙◌}
use Rattle.images.specs.Lent.{machine}
use Rattle.heap.specs.View.{view}
use Rattle.whole_runs.proofs.FaultTurns.{put_back}
use Rattle.whole_runs.proofs.sessions.spend.Goals as goal

pub returns-in-Some-clause-memory : goal.returns-in-Some-clause-memory
returns-in-Some-clause-memory g c =
    let f = c.in-Some.fault in
    sym (ap (λ o. o.left.heap.memory) (c.resolve.ensures.writes (λ j. 0))) ∙ put_back g.L.Layout.rules (machine (view g.H.Host.meaning c.args.heap.now) [] (λ j. 0)) f.mutator f.page
