use Rattle.std.proofs.Common.{rules}
use Rattle.small_pages.proofs.Leasts.{listed_lowest}
use Rattle.small_pages.proofs.pages.SmallPages.lowest_right.Goals as goal

pub returns : goal.returns
returns g c =
    let s = c.args.self.now in
    let lowest = listed_lowest (g.H.Host.meaning s.below) s.parts s.rights c.args.page (g.met.H.Host.sized s.below) (search rules) c.requires.0 in
    search rules
