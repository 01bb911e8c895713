use Rattle.std.proofs.Common.{sym, ◌∙◌, rules}
use Rattle.std.proofs.lemmas.Iterator.Consumers.{YieldsList-from_first}
use Rattle.std.proofs.lemmas.Iterator.Search.{all_from_yields_List}
use borrow.Author.Tests.{tests}
use Rattle.restoring.specs.Outlines.{word_in, refers_in}
use Rattle.restoring.specs.Rows.{headers_left, object_passes}
use Rattle.restoring.proofs.Walks.{slots_listed}
use Rattle.restoring.proofs.objects.Objects.row_refers.Goals as goal

pub returns : goal.returns
returns g c =
    let L = g.L.Layout.rules in
    let word = word_in c.args.self.now in
    let n = c.args.self.now.outline.words in
    let ok = refers_in L c.args.self.now in
    all_from_yields_List (object_passes L word ok) c.all.new.self _ _ c.all.ensures.ran (YieldsList-from_first (λ x. x) (headers_left L) _ c.headers.ensures) (λ x b q k. search (rules, tests)) ∙ sym (slots_listed L word ok n c.args.from c.args.stop)
