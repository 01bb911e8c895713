use Rattle.state.specs.View.{state_of}
use Rattle.images.proofs.Accepted.{saved_next}
use Rattle.images.proofs.saving.save_next_page.Goals as goal

pub returns-in-Some : goal.returns-in-Some
returns-in-Some g c =
    let h = state_of (g.H.Host.meaning c.args.host.now) c.args.plain.now in
    let k = state_of (g.H.Host.meaning c.save_page.new.host) c.save_page.new.plain in
    record {
      saved = saved_next h k c.args.buffer.now c.save_page.new.buffer c.in-Some.page c.in-Some.ensures.value c.save_page.ensures.after c.save_page.ensures.saved;
      size = c.save_page.ensures.size;
    }
