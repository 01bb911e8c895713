use Rattle.theory.proofs.SpoiltImages.{even_copied, cut_copied, even_new, cut_new, copied_astray, new_astray, register_astray}
use Rattle.theory.proofs.spoilt_objects_computed.Goals as goal

pub returns : goal.returns
returns c = record {
  even_copied = even_copied;
  cut_copied = cut_copied;
  even_new = even_new;
  cut_new = cut_new;
  copied_astray = copied_astray;
  new_astray = new_astray;
  register_astray = register_astray;
}
