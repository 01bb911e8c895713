use Rattle.std.proofs.Common.{◌≡◌}
use Rattle.images.specs.Lent.{Rewritten}
use Rattle.images.specs.Saving.{words_saved}
use Rattle.images.proofs.saving.save_words.Given as goal

abbrev pub invariant-loop-i : goal.invariant-loop-i
invariant-loop-i g l = (g.H.Host.meaning l.host ≡ g.H.Host.meaning l.initial.host) × Rewritten (words_saved l.i (g.H.Host.meaning l.initial.host) l.of l.start) l.initial.buffer l.buffer
