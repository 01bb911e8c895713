use Rattle.std.proofs.Common.{ap, ◌∙◌}
use Rattle.memory.specs.Memory.{look_answer}
use Rattle.words.proofs.Far.{look_far}
use Rattle.words.proofs.look_behind.Goals as goal

pub returns : goal.returns
returns g c =
    let m = g.H.Host.meaning c.args.host.now in
    record {
      answer = c.look.ensures.answer ∙ ap (look_answer m) c.saturating_add.ensures ∙ look_far m (g.met.H.Host.sized c.args.host.now) _;
      after = c.look.ensures.after;
    }
