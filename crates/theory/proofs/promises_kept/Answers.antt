use Rattle.theory.proofs.Promises.{heaps_keep_their_promises}
use Rattle.theory.proofs.promises_kept.Goals as goal

pub returns : goal.returns
returns c = heaps_keep_their_promises
