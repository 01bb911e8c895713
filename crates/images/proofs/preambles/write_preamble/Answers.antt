use Rattle.std.proofs.Common.{◌≡◌, rules}
use Rattle.model.specs.Images.{preamble, image_words}
use Rattle.state.specs.View.{state_of}
use Rattle.images.specs.Lent.{lent}
use Rattle.images.proofs.Fronts.{fronted_none, fronted_more, fronted_all}
use Rattle.images.proofs.preambles.write_preamble.Goals as goal

pub loop-j-init : goal.loop-j-init
loop-j-init g c = λ b. fronted_none _ (lent c.args.buffer.now b)

pub loop-j-preserved : goal.loop-j-preserved
loop-j-preserved g c = λ b.
    fronted_more c.loop-j.j (preamble g.L.Layout.rules (state_of (g.H.Host.meaning c.args.host.now) c.args.plain.now)) (lent c.args.buffer.now b) (lent c.loop-j.buffer b) (lent c.write_word.new.buffer b) c.preamble_word-word.result (c.loop-j.invariant b) c.preamble_word-word.ensures (c.write_word.ensures b)

pub returns : goal.returns
returns g c = λ b.
    let m = g.H.Host.meaning c.args.host.now in
    let all : c.loop-j.j ≡ image_words m = search rules in
    fronted_all c.loop-j.j (image_words m) (preamble g.L.Layout.rules (state_of m c.args.plain.now)) (lent c.args.buffer.now b) (lent c.loop-j.buffer b) all (c.loop-j.invariant b)
