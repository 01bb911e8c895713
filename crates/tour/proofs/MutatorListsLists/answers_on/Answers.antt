use Rattle.std.proofs.Common.{◌≡◌, ◌∙◌, length, sym, ap, is_ok, rules}
use Rattle.tour.proofs.Carried.{as_if_nothing_moved}
use Rattle.tour.proofs.MutatorListsLists.answers_on.Goals as goal

pub returns : goal.returns
returns g c =
    let long : length c.run.new.answers ≡ length c.args.calls.now = search rules in
    as_if_nothing_moved g.L.Layout.rules g.H.Host.meaning c.args.host c.args.layout c.args.calls.now _ c.run.new.answers c.run.result (sym c.map_err.ensures.variant ∙ ap is_ok c.in_ok-map_err.was) long c.run.ensures.ran
