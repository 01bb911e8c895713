use Rattle.std.proofs.Common.{◌+◌, ◌∙◌, ap₂, rules, arith}
use Rattle.model.specs.Scanning.{lowest, has_unscanned}
use Rattle.state.specs.View.{state_of}
use Rattle.state.proofs.Lowest.{lowest-from_find}
use Rattle.collector.proofs.pages.lowest_page.Goals as goal

pub returns-clause-value : goal.returns-clause-value
returns-clause-value g c =
    let f = has_unscanned (state_of (g.H.Host.meaning c.args.host.now) c.args.plain.now) in
    let first = c.page_of_half-first.result in
    lowest-from_find first (first + c.pages_in_half.result) f _ _ c.find.result c.find.ensures.ran (λ x y q k. search rules)
    ∙ ap₂ (λ n p. lowest n p f) (omega (arith, c.pages_in_half.ensures.value)) c.page_of_half-first.ensures.value
