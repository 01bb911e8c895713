use Rattle.theory.proofs.FromMake.{mutators_answer_as_if_nothing_moved}
use Rattle.theory.proofs.mutators_answered.Goals as goal

pub returns : goal.returns
returns c = mutators_answer_as_if_nothing_moved
