use Rattle.std.proofs.Common.{◌≡◌, length, get_or, ap, ◌∙◌, subst, rules}
use Rattle.model.specs.declared.calls.Call.TheVariants.{New}
use Rattle.model.specs.Calls.{call}
use Rattle.model.specs.Outcomes.{outcome}
use Rattle.heap.specs.View.{view}
use Rattle.runs.proofs.Turns.{Reached, one_more}
use Rattle.whole_runs.specs.Calls.{within}
use Rattle.whole_runs.specs.Lists.{with_buffer}
use Rattle.whole_runs.proofs.Starting.{all_carried}
use Rattle.whole_runs.proofs.lists.carry_out_all.Goals as goal

pub loop-i-preserved : goal.loop-i-preserved
loop-i-preserved g c =
    let L = g.L.Layout.rules in
    let seen = view g.H.Host.meaning in
    let n = length c.args.buffer.now in
    let l = c.loop-i in
    let cs = c.args.calls.now in
    let x = with_buffer (seen l.session.heap) l.buffer in
    let y = with_buffer (seen c.carry_out.new.self.heap) c.carry_out.new.buffer in
    let did = subst (λ k. call L x (within k (get_or cs l.i (New 0 0 0 0))) ≡ outcome y c.carry_out.result) l.invariant.long c.carry_out.ensures.carries in
    record {
      reached = one_more L (within n) cs (with_buffer (seen c.new-session.result.heap) c.args.buffer.now) c.args.answers.now l.i x y l.answers (New 0 0 0 0) c.carry_out.result (search rules) (search rules) did l.invariant.reached;
      long = search rules;
      layout_kept = c.carry_out.ensures.layout ∙ l.invariant.layout_kept;
    }

pub returns : goal.returns
returns g c =
    let L = g.L.Layout.rules in
    let ended : c.loop-i.i ≡ length c.args.calls.now = search rules in
    let seen = view g.H.Host.meaning in
    let xs = c.args.buffer.now in
    let cs = c.args.calls.now in
    let old = c.args.answers.now in
    let l = c.loop-i in
    let so_far = subst (λ k. Reached L (within (length xs)) cs (with_buffer (seen k) xs) old (length cs) (with_buffer (seen l.session.heap) l.buffer) l.answers) c.new-session.ensures
    (subst (λ i. Reached L (within (length xs)) cs (with_buffer (seen c.new-session.result.heap) xs) old i (with_buffer (seen l.session.heap) l.buffer) l.answers) ended l.invariant.reached) in
    record {
      carried = all_carried L (length xs) cs (with_buffer (seen c.args.heap) xs) old (seen l.session.heap) l.buffer l.answers so_far (g.H.Host.meaning c.into_parts.result.0) c.into_parts.ensures.memory;
      layout = c.into_parts.ensures.layout ∙ l.invariant.layout_kept ∙ ap (λ h. h.layout) c.new-session.ensures;
    }
