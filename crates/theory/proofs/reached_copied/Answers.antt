use Rattle.theory.proofs.FromMake.{collections_copy_the_reached}
use Rattle.theory.proofs.reached_copied.Goals as goal

pub returns : goal.returns
returns c = collections_copy_the_reached
