use Rattle.std.proofs.Common.{◌≡◌}
use Rattle.model.specs.Forwarding.{copied}
use Rattle.words.proofs.copy_words.Given as goal

abbrev pub invariant-loop-k : goal.invariant-loop-k
invariant-loop-k g l = g.H.Host.meaning l.host ≡ copied l.k (g.H.Host.meaning l.initial.host) l.old l.new
