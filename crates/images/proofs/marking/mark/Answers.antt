use Rattle.state.specs.View.{state_of}
use Rattle.images.proofs.Accepted.{mark_accepted}
use Rattle.images.proofs.marking.mark.Goals as goal

pub returns : goal.returns
returns g c =
    let h = state_of (g.H.Host.meaning c.args.host.now) c.args.plain.now in
    let k = state_of (g.H.Host.meaning c.close_used.new.host) c.close_used.new.plain in
    mark_accepted g.L.Layout.rules h c.args.buffer.now c.if-is_short.ensures k c.write_preamble.new.buffer c.in-Idle.is c.close_used.ensures c.write_preamble.ensures
