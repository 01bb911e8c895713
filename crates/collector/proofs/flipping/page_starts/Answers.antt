use Rattle.std.proofs.Common.{◌*◌, rules}
use Rattle.state.proofs.Made.{made-from_fn}
use Rattle.collector.proofs.Starting.{starts_at}
use Rattle.collector.proofs.flipping.page_starts.Goals as goal

pub returns : goal.returns
returns c = λ i q. starts_at c.from_fn.result c.args.size c.from_fn.ensures.items.long (made-from_fn _ (λ p. p * c.args.size) c.from_fn.result 0 (λ p y q k. search rules) 64 c.from_fn.ensures.items) q i
