use Rattle.std.proofs.Common.{refl, rules}
use borrow.Author.Tests.{tests}
use Rattle.restoring.specs.Restored.{image_view}
use Rattle.restoring.specs.Outlines.{unused_in}
use Rattle.restoring.proofs.Everywhere.{every_from_all}
use Rattle.restoring.proofs.image_words.Image.unused_are_0.Goals as goal

pub returns : goal.returns
returns c = every_from_all (unused_in c.args.words (image_view c.args.self.now.words.now)) c.args.words _ _ _ _ c.all.ensures.ran refl (λ x b q k. search (rules, tests))
