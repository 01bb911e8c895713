use Rattle.words.proofs.Turns.{zeroed_more}
use Rattle.words.proofs.zero_words.Goals as goal

pub loop-a-preserved : goal.loop-a-preserved
loop-a-preserved g c = zeroed_more c.loop-a.a _ _ _ c.loop-a.invariant c.set.ensures.after
