use Rattle.std.proofs.Common.{◌≡◌, ◌*◌, ◌∙◌, rules}
use Rattle.images.specs.Lent.{lent}
use Rattle.images.proofs.Words.{saved_more, saved_all}
use Rattle.images.proofs.saving.save_words.Goals as goal

pub loop-i-preserved : goal.loop-i-preserved
loop-i-preserved g c =
    let m = g.H.Host.meaning c.args.host.now in
    let s = g.H.Host.meaning c.loop-i.host in
    (c.save_word.ensures.after ∙ c.loop-i.invariant.0, λ b. saved_more c.loop-i.i m s c.args.of (c.args.page * c.page_words-size.result) (lent c.args.buffer.now b) (lent c.loop-i.buffer b) (lent c.save_word.new.buffer b) c.loop-i.invariant.0 (c.loop-i.invariant.1 b) (c.save_word.ensures.saved b))

pub returns : goal.returns
returns g c =
    let m = g.H.Host.meaning c.args.host.now in
    let all : c.loop-i.i ≡ c.page_words-size.result = search rules in
    record {
      saved = λ b. saved_all c.loop-i.i c.page_words-size.result m.page_size c.args.page m c.args.of (lent c.args.buffer.now b) (lent c.loop-i.buffer b) all c.page_words-size.ensures.value (c.loop-i.invariant.1 b);
      after = c.loop-i.invariant.0;
    }
