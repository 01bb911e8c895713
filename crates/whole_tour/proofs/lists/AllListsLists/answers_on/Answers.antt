use Rattle.std.proofs.Common.{◌≡◌, ◌∙◌, ◌∷◌, [], length, replicate, sym, ap, is_ok, rules}
use Rattle.model.specs.declared.calls.Answer.TheVariants.{Done}
use Rattle.whole_runs.specs.Lists.{make_refusal}
use Rattle.whole_tour.proofs.Carried.{as_if_nothing_moved}
use Rattle.whole_tour.proofs.lists.AllListsLists.answers_on.Goals as goal

pub returns : goal.returns
returns g c =
    let host = g.H.Host.meaning c.args.host in
    let long : length c.run.new.answers ≡ length c.args.calls.now = search rules in
    as_if_nothing_moved g.L.Layout.rules g.H.Host.meaning (make_refusal host) c.args.host c.args.layout c.args.calls.now c.all_listed.result (replicate 26 Done) c.run.new.answers (0 ∷ []) c.run.new.buffer c.run.result (sym c.map_err.ensures.variant ∙ ap is_ok c.in_ok-map_err.was) c.all_listed.ensures long c.run.ensures
