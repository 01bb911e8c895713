use Rattle.theory.proofs.ImageExample.{image_is_accepted, image_is_a_start, objects_of_the_image, round_trip_answers}
use Rattle.theory.proofs.image_heap_computed.Goals as goal

pub returns : goal.returns
returns c = record { accepted = image_is_accepted; start = image_is_a_start; objects = objects_of_the_image; answers = round_trip_answers }
