use Rattle.std.proofs.Common.{refl, rules}
use borrow.Author.Tests.{tests}
use Rattle.restoring.specs.Outlines.{register_refers}
use Rattle.restoring.proofs.Everywhere.{every_from_all}
use Rattle.restoring.proofs.objects.Objects.registers_refer.Goals as goal

pub returns : goal.returns
returns g c = every_from_all (register_refers g.L.Layout.rules c.args.self.now) 32 _ _ _ _ c.all.ensures.ran refl (λ x b q k. search (rules, tests))
