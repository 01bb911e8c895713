use Rattle.std.proofs.Common.{arith}
use Rattle.small_pages.specs.Sizes.{few_small}
use Rattle.small_pages.proofs.pages.SmallPages.right.Goals as goal

pub bounds-self-p : goal.bounds-self-p
bounds-self-p g c =
    let s = c.args.self.now in
    omega (arith, few_small (g.H.Host.meaning s.below) s.parts (g.met.H.Host.sized s.below))
