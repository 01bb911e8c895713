use Rattle.theory.proofs.FromMake.{heaps_answer_as_if_nothing_moved}
use Rattle.theory.proofs.calls_answered.Goals as goal

pub returns : goal.returns
returns c = heaps_answer_as_if_nothing_moved
