use Rattle.std.proofs.Common.{refl, rules}
use Rattle.memory.proofs.Memories.{same_memory}
use Rattle.check_host.proofs.Fresh.{fresh_right}
use Rattle.check_host.proofs.marks.CheckHost.make.Goals as goal

pub returns : goal.returns
returns c = (search rules, search rules, same_memory _ _ refl refl (λ a. refl) (λ p. fresh_right c.from.result c.args.page_count p (search rules) (search rules)))
