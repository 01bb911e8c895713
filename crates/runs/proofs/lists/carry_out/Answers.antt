use Rattle.std.proofs.Common.{sym, subst}
use Rattle.model.specs.declared.calls.Answer.TheVariants as Answer
use Rattle.heap.specs.View.{view}
use Rattle.heap.specs.Effects.{Does}
use Rattle.runs.specs.Lists.{as_call}
use Rattle.runs.proofs.lists.carry_out.Goals as goal

pub returns-in-Count-clause-does : goal.returns-in-Count-clause-does
returns-in-Count-clause-does g c =
    let h = view g.H.Host.meaning c.args.heap.now in
    subst (λ k. Does g.L.Layout.rules h (as_call k) h (Answer.Count c.count.result)) (sym c.in-Count.is) c.count.ensures
