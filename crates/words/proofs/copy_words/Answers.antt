use Rattle.words.proofs.Turns.{copied_more}
use Rattle.words.proofs.copy_words.Goals as goal

pub loop-k-preserved : goal.loop-k-preserved
loop-k-preserved g c = copied_more c.loop-k.k _ _ _ _ c.args.old c.args.new _ c.loop-k.invariant c.word_behind-word.ensures.value c.word_behind-word.ensures.after c.set_behind.ensures
