use Rattle.std.proofs.Common.{◌∙◌}
use Rattle.small_pages.specs.Layers.{layer_meaning}
use Rattle.small_pages.proofs.Runs.{calls_turn, calls_end}
use Rattle.small_pages.proofs.pages.SmallPages.carry_out.Goals as goal

pub loop-call-preserved : goal.loop-call-preserved
loop-call-preserved g c =
    let means = layer_meaning g.H.Host.meaning in
    let sizes = c.carry_out_one.ensures.sizes in
    let so_far = c.loop-call.invariant.1 in (
      calls_turn (means c.loop-call.self) (means c.carry_out_one.new.self) _ c.args.calls.now c.loop-call.call-index c.loop-call-test.true c.carry_out_one.ensures.after c.loop-call.invariant.0,
      record { size = sizes.size ∙ so_far.size; count = sizes.count ∙ so_far.count; parts = sizes.parts ∙ so_far.parts },
      λ old. c.carry_out_one.ensures.least (c.loop-call.invariant.2 old),
    )

pub returns : goal.returns
returns g c =
    let means = layer_meaning g.H.Host.meaning in
    record { after = calls_end (means c.loop-call.self) _ c.args.calls.now c.loop-call.call-index c.loop-call-test.false c.loop-call.invariant.0; sizes = c.loop-call.invariant.1; least = c.loop-call.invariant.2 }
