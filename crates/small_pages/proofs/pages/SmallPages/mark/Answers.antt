use Rattle.std.proofs.Common.{arith, rules}
use Rattle.small_pages.specs.Splits.{divisor}
use Rattle.small_pages.specs.Sizes.{few_small, marked}
use Rattle.small_pages.proofs.pages.SmallPages.mark.Goals as goal

pub bounds-self-p : goal.bounds-self-p
bounds-self-p g c =
    let s = c.args.self.now in
    omega (arith, few_small (g.H.Host.meaning s.below) s.parts (g.met.H.Host.sized s.below))

pub returns : goal.returns
returns g c =
    let s = c.args.self.now in
    let m = g.H.Host.meaning s.below in
    let few = few_small m s.parts (g.met.H.Host.sized s.below) in
    record { after = marked m (divisor m s.parts) s.rights c.args.p c.args.right (search rules) c.requires; below = search rules; parts = search rules }
