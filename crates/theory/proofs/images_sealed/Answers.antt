use Rattle.theory.proofs.FromMake.{all_images_are_sealed}
use Rattle.theory.proofs.images_sealed.Goals as goal

pub returns : goal.returns
returns c = all_images_are_sealed
