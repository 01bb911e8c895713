use Rattle.std.proofs.Common.{◌-◌, ap, ◌∙◌, rules}
use Rattle.model.specs.Scanning.{lowest}
use Rattle.state.specs.View.{unsaved_view}
use Rattle.state.proofs.Lowest.{lowest-from_find}
use Rattle.images.proofs.saving.lowest_unsaved.Goals as goal

pub returns-clause-value : goal.returns-clause-value
returns-clause-value c =
    let f = unsaved_view c.args.unsaved.now in
    lowest-from_find c.args.first c.min.result f _ _ c.find.result c.find.ensures.ran (λ x y q k. search rules)
    ∙ ap (λ t. lowest (t - c.args.first) c.args.first f) c.min.ensures
