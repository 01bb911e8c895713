use Rattle.std.proofs.Common.{ap, ◌∙◌}
use Rattle.memory.specs.Memory.{after_unprot}
use Rattle.memory.specs.declared.rights.Right.TheVariants.{All}
use Rattle.words.proofs.Far.{unprot_far}
use Rattle.words.proofs.Turns.{opened_more}
use Rattle.words.proofs.open_pages.Goals as goal

pub loop-i-preserved : goal.loop-i-preserved
loop-i-preserved g c =
    let m = g.H.Host.meaning c.loop-i.host in
    let opens = c.unprot.ensures.after ∙ ap (λ x. after_unprot m x All) c.saturating_add.ensures ∙ unprot_far m (g.met.H.Host.sized c.loop-i.host) _ All in
    opened_more c.loop-i.i _ _ _ c.args.first c.loop-i.invariant opens
