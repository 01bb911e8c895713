use Rattle.std.proofs.Common.{◌<◌, ◌≤◌, length, refl, arith, rules}
use Rattle.words.proofs.Far.{sizes_in_range}
use Rattle.state.specs.View.{state_of}
use Rattle.images.specs.Lent.{lent}
use Rattle.images.proofs.Accepted.{size_kept}
use Rattle.images.proofs.Pages.{reopened_by}
use Rattle.images.proofs.Words.{page_words_saved}
use Rattle.images.proofs.saving.save_page.Goals as goal

pub returns : goal.returns
returns g c =
    let m = g.H.Host.meaning c.args.host.now in
    let s = g.H.Host.meaning c.save_words.new.host in
    let n = g.H.Host.meaning c.unprot.new.self in
    let h = state_of m c.args.plain.now in
    let sizes = sizes_in_range m (g.met.H.Host.sized c.args.host.now) in
    let some : 1 ≤ m.page_size = omega arith in
    let within : c.args.page < length c.args.plain.now.unsaved = search rules in
    record {
      after = reopened_by h c.args.plain.now.unsaved c.args.page n s within refl c.save_words.ensures.after c.unprot.ensures.after;
      size = size_kept m s n c.args.page c.save_words.ensures.after c.unprot.ensures.after;
      saved = λ b. page_words_saved h c.args.page c.image_part-of.result (lent c.args.buffer.now b) (lent c.save_words.new.buffer b) some c.image_part-of.ensures.value (c.save_words.ensures.saved b);
    }
