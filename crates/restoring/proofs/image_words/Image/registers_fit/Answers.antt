use Rattle.std.proofs.Common.{refl, rules}
use borrow.Author.Tests.{tests}
use Rattle.model.specs.Restoring.{register_fits}
use Rattle.restoring.specs.Restored.{image_view}
use Rattle.restoring.proofs.Everywhere.{every_from_all}
use Rattle.restoring.proofs.image_words.Image.registers_fit.Goals as goal

pub returns : goal.returns
returns c = every_from_all (register_fits (image_view c.args.self.now.words.now)) 32 _ _ _ _ c.all.ensures.ran refl (λ x b q k. search (rules, tests))
