use Rattle.std.proofs.Common.{◌≡◌, ap, ◌∙◌, rules}
use Rattle.small_pages.proofs.Leasts.{opened_to, open_none, open_turn, open_whole}
use Rattle.small_pages.proofs.pages.open_all.Goals as goal

pub loop-p-init : goal.loop-p-init
loop-p-init g c = open_none (g.H.Host.meaning c.args.host.now)

pub loop-p-preserved : goal.loop-p-preserved
loop-p-preserved g c =
    let means = g.H.Host.meaning in
    open_turn (means c.args.host.now) (means c.loop-p.host) _ c.loop-p.p (search rules) c.loop-p.invariant c.unprot.ensures.after

pub returns : goal.returns
returns g c =
    let m = g.H.Host.meaning c.args.host.now in
    let came : c.loop-p.p ≡ m.page_count = search rules in
    c.loop-p.invariant ∙ ap (opened_to m) came ∙ open_whole m (g.met.H.Host.shut c.args.host.now)
