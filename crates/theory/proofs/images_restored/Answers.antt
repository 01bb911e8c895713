use Rattle.theory.proofs.FromMake.{all_images_restore_their_moment}
use Rattle.theory.proofs.images_restored.Goals as goal

pub returns : goal.returns
returns c = all_images_restore_their_moment
