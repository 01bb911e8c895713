use Rattle.std.proofs.Common.{eqb, sym, ◌∙◌, rules}
use Rattle.std.proofs.lemmas.Iterator.Consumers.{YieldsList-from_first}
use Rattle.std.proofs.lemmas.Iterator.Search.{any_from_yields_List}
use borrow.Author.Tests.{tests}
use Rattle.restoring.specs.Outlines.{word_in}
use Rattle.restoring.specs.Rows.{headers_left}
use Rattle.restoring.proofs.Walks.{heads_listed}
use Rattle.restoring.proofs.objects.Objects.heads_row.Goals as goal

pub returns : goal.returns
returns g c =
    let L = g.L.Layout.rules in
    let word = word_in c.args.self.now in
    let n = c.args.self.now.outline.words in
    any_from_yields_List (eqb c.args.address) c.any.new.self _ _ c.any.ensures.ran (YieldsList-from_first (λ x. x) (headers_left L) _ c.headers.ensures) (λ x b q k. search (rules, tests)) ∙ sym (heads_listed L word n c.args.from c.args.stop c.args.address)
