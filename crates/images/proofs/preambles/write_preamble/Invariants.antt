use Rattle.model.specs.Images.{preamble}
use Rattle.state.specs.View.{state_of}
use Rattle.images.specs.Lent.{Rewritten}
use Rattle.images.specs.Marking.{fronted}
use Rattle.images.proofs.preambles.write_preamble.Given as goal

abbrev pub invariant-loop-j : goal.invariant-loop-j
invariant-loop-j g l = Rewritten (fronted l.j (preamble g.L.Layout.rules (state_of (g.H.Host.meaning l.host) l.plain))) l.initial.buffer l.buffer
