use Rattle.theory.proofs.Checkpoints.{all_restored_heaps_write_their_image}
use Rattle.theory.proofs.images_written_again.Goals as goal

pub returns : goal.returns
returns c = all_restored_heaps_write_their_image
