use Rattle.std.proofs.Common.{ap, ◌∙◌}
use Rattle.memory.specs.Memory.{put_answer, after_put}
use Rattle.words.proofs.Far.{put_far, after_put_far}
use Rattle.words.proofs.put_behind.Goals as goal

pub returns : goal.returns
returns g c =
    let m = g.H.Host.meaning c.args.host.now in
    let sized = g.met.H.Host.sized c.args.host.now in
    record {
      answer = c.put.ensures.answer ∙ ap (put_answer m) c.saturating_add.ensures ∙ put_far m sized _;
      after = c.put.ensures.after ∙ ap (λ x. after_put m x c.args.word) c.saturating_add.ensures ∙ after_put_far m sized _ c.args.word;
    }
