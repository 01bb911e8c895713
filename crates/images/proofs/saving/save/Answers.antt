use Rattle.state.specs.View.{state_of}
use Rattle.images.specs.Lent.{machine, is_sealed}
use Rattle.images.proofs.Accepted.{save_accepted}
use Rattle.images.proofs.saving.save.Goals as goal

pub returns : goal.returns
returns g c =
    let h = state_of (g.H.Host.meaning c.args.host.now) c.args.plain.now in
    let x = machine (state_of (g.H.Host.meaning c.save_next_page.new.host) c.save_next_page.new.plain) c.save_next_page.new.buffer in
    let k = state_of (g.H.Host.meaning c.save_next_page.new.host) c.seal_if_saved.new.plain in
    save_accepted g.L.Layout.rules h c.args.buffer.now c.if-is_short.ensures x k c.seal_if_saved.new.buffer (is_sealed c.seal_if_saved.result) c.in-Imaging.is c.save_next_page.ensures.saved c.seal_if_saved.ensures
