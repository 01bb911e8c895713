use Rattle.theory.proofs.FromMake.{calls_go_on}
use Rattle.theory.proofs.resolved_calls_go_on.Goals as goal

pub returns : goal.returns
returns c = calls_go_on
