use Rattle.state.specs.View.{state_of}
use Rattle.images.proofs.Accepted.{going_left, sealed_left}
use Rattle.images.proofs.saving.seal_if_saved.Goals as goal

pub returns-then-not-all_saved : goal.returns-then-not-all_saved
returns-then-not-all_saved g c = going_left (state_of (g.H.Host.meaning c.args.host.now) c.args.plain.now) c.args.buffer.now c.if-not-all_saved.ensures

pub returns : goal.returns
returns g c =
    let m = g.H.Host.meaning c.args.host.now in
    sealed_left (state_of m c.args.plain.now) (state_of m c.seal_image.new.plain) c.args.buffer.now c.seal_image.new.buffer c.if-not-all_saved.ensures c.seal_image.ensures.after c.seal_image.ensures.sealed
