use Rattle.std.proofs.Common.{sym, refl, ◌∙◌, rules}
use Rattle.memory.proofs.Memories.{run_turn}
use Rattle.small_pages.specs.Layers.{layer_meaning}
use Rattle.small_pages.specs.Sizes.{few_small, run_empty}
use Rattle.small_pages.proofs.pages.SmallPagesHost.protn.Goals as goal

pub returns-then-count-eq0 : goal.returns-then-count-eq0
returns-then-count-eq0 g c =
    record {
      answer = search rules;
      after = sym (run_empty (layer_meaning g.H.Host.meaning c.args.self.now) c.args.first c.args.count c.args.right (search rules));
      sizes = record { size = refl; count = refl; parts = refl };
      least = λ old. old;
    }

pub overflow_add-p-end : goal.overflow_add-p-end
overflow_add-p-end g c =
    let s = c.args.self.now in
    let few = few_small (g.H.Host.meaning s.below) s.parts (g.met.H.Host.sized s.below) in
    search rules

pub loop-p-preserved : goal.loop-p-preserved
loop-p-preserved g c =
    let means = layer_meaning g.H.Host.meaning in
    let sizes = c.lower.ensures.sizes in
    let so_far = c.loop-p.invariant.1 in (
      run_turn (means c.args.self.now) (means c.loop-p.self) _ c.args.first c.loop-p.p c.args.right (search rules) (search rules) c.loop-p.invariant.0 c.lower.ensures.after,
      record { size = sizes.size ∙ so_far.size; count = sizes.count ∙ so_far.count; parts = sizes.parts ∙ so_far.parts },
      λ old. c.lower.ensures.least (c.loop-p.invariant.2 old),
    )
