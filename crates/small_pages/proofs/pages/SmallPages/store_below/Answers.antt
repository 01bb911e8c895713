use Rattle.small_pages.proofs.Leasts.{set_settled}
use Rattle.small_pages.proofs.pages.SmallPages.store_below.Goals as goal

pub returns : goal.returns
returns g c =
    let means = g.H.Host.meaning in
    let s = c.args.self.now in
    let did = set_settled (means s.below) (means c.store.new.host) s.parts s.rights c.args.a c.args.w (g.met.H.Host.sized s.below) c.store.ensures in
    record { after = did.after; sizes = record { size = did.size; count = did.count; parts = did.parts }; least = did.least }
