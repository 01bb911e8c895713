use Rattle.words.proofs.Far.{sizes_in_range}
use Rattle.words.proofs.sizes_in_range.Goals as goal

pub returns : goal.returns
returns g c = sizes_in_range (g.H.Host.meaning c.args._host.now) (g.met.H.Host.sized c.args._host.now)
