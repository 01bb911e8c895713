use Rattle.images.specs.Lent.{lent}
use Rattle.images.proofs.Words.{word_written}
use Rattle.images.proofs.saving.save_word.Goals as goal

pub returns-in-Some : goal.returns-in-Some
returns-in-Some g c =
    let found = c.in-Some.ensures.value in
    record {
      saved = λ b. word_written (g.H.Host.meaning c.args.host.now) c.args.of c.args.a c.in-Some.saved (lent c.args.buffer.now b) (lent c.write_word.new.buffer b) found.0 found.1 (c.write_word.ensures b);
      after = c.image_word.ensures.after;
    }
