use Rattle.std.proofs.Common.{rules}
use Rattle.state.specs.View.{state_of}
use Rattle.images.proofs.Accepted.{saved_unsaved}
use Rattle.images.proofs.saving.save_if_unsaved.Goals as goal

pub returns-then-is_unsaved : goal.returns-then-is_unsaved
returns-then-is_unsaved g c =
    let h = state_of (g.H.Host.meaning c.args.host.now) c.args.plain.now in
    let k = state_of (g.H.Host.meaning c.save_page.new.host) c.save_page.new.plain in
    (search rules, saved_unsaved h k c.args.buffer.now c.save_page.new.buffer c.args.page c.if-is_unsaved.ensures.value c.save_page.ensures.after c.save_page.ensures.saved)
