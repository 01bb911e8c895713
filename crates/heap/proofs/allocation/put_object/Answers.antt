use Rattle.std.proofs.Common.{◌≡◌, ap, ◌∙◌, arith}
use Rattle.model.specs.Objects.{packed_word}
use Rattle.model.specs.Mutators.{slots_put}
use Rattle.heap.proofs.Placing.{slots_more}
use Rattle.heap.proofs.allocation.put_object.Goals as goal

pub loop-i-preserved : goal.loop-i-preserved
loop-i-preserved g c =
    let L = g.L.Layout.rules in
    slots_more L c.loop-i.i _ _ _ c.args.header c.args.at c.args.references _ c.loop-i.invariant (c.packed_word-word.ensures ∙ ap (packed_word L c.args.header c.loop-i.i) c.initial_value.ensures) c.put_behind.ensures.after

pub returns : goal.returns
returns g c =
    let all : c.loop-i.i ≡ c.args.slots = omega arith in
    c.loop-i.invariant ∙ (λ k. slots_put g.L.Layout.rules (all k) (c.put.ensures.after k) c.args.header c.args.at c.args.references)
