use Rattle.std.proofs.Common.{refl, ap, ◌∙◌, rules}
use borrow.Author.Tests.{tests}
use Rattle.model.specs.Objects.{slot_count}
use Rattle.model.specs.Restoring.{every_below}
use Rattle.restoring.specs.Outlines.{slot_refers}
use Rattle.restoring.proofs.Everywhere.{every_from_all}
use Rattle.restoring.proofs.objects.Objects.object_refers.Goals as goal

pub returns : goal.returns
returns g c =
    let L = g.L.Layout.rules in
    let test = slot_refers L c.args.self.now c.args.a in
    every_from_all (test c.word-header.result) c.slot_count.result _ _ _ _ c.all.ensures.ran refl (λ x b q k. search (rules, tests))
    ∙ ap (λ n. every_below n (test c.word-header.result)) c.slot_count.ensures.value
    ∙ ap (λ x. every_below (slot_count L x) (test x)) c.word-header.ensures
