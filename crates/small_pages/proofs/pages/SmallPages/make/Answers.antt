use Rattle.small_pages.proofs.Leasts.{made_layer}
use Rattle.small_pages.proofs.pages.SmallPages.make.Goals as goal

pub returns-in-Ok : goal.returns-in-Ok
returns-in-Ok g c =
    let means = g.H.Host.meaning in
    let legal = c.in-Ok.ensures in
    let did = made_layer (means c.args.below) (means c.open_all.new.host) c.in-Ok.parts c.args.k legal.0 legal.1 c.open_all.ensures in
    record { legal = legal.1; layer = did.after; below = c.open_all.ensures; parts = did.parts; least = did.least tt }
