use Rattle.std.proofs.Common.{◌≡◌, ℕ, Ok, length, take, sym, ap, ◌∙◌, subst, arith, rules}
use Rattle.std.proofs.lemmas.List.{length-map}
use Rattle.model.specs.Calls.{after, answers}
use Rattle.heap.specs.View.{view}
use Rattle.heap.specs.Making.{Made}
use Rattle.runs.specs.Lists.{as_call, as_calls}
use Rattle.runs.specs.declared.lists.MutatorCall.TheVariants.{New}
use Rattle.runs.proofs.Mutating.{as_if}
use Rattle.runs.proofs.Places.{enough}
use Rattle.runs.proofs.Turns.{machine, Reached, one_more, all_said, all_gone}
use Rattle.runs.proofs.lists.run.Goals as goal

pub loop-i-preserved : goal.loop-i-preserved
loop-i-preserved g c =
    let seen = view g.H.Host.meaning in
    let l = c.loop-i in
    record {
      reached = λ b. one_more g.L.Layout.rules as_call c.args.calls.now (machine (seen c.in_ok-heap.heap) b) c.args.answers.now l.i (machine (seen l.heap) b) (machine (seen c.carry_out.new.heap) b) l.answers (New 0 0 0 0) c.carry_out.result (search rules) (search rules) (c.carry_out.ensures.does b) (l.invariant.reached b);
      layout_kept = c.carry_out.ensures.layout ∙ l.invariant.layout_kept;
    }

pub returns-clause-ran : goal.returns-clause-ran
returns-clause-ran g c =
    let L = g.L.Layout.rules in
    let means = g.H.Host.meaning in
    let h = c.args.host in
    let cs = c.args.calls.now in
    let old = c.args.answers.now in
    let new = c.loop-i.answers in
    let here = view means c.loop-i.heap in
    let back = c.in_ok-host.ensures in
    let host_back : c.in_ok-host.host ≡ h = ap (λ p. p.0) back.1 in
    let made = subst (λ k. Made means k c.in_ok-host.layout (Ok c.in_ok-heap.heap)) host_back c.in_ok-heap.ensures in
    let start = λ (b : ℕ → ℕ). machine (view means c.in_ok-heap.heap) b in
    let all : length cs ≡ c.loop-i.i = search rules in
    let end = λ (b : ℕ → ℕ). subst (λ n. Reached L as_call cs (start b) old n (machine here b) new) (sym all) (c.loop-i.invariant.reached b) in
    let long : length (as_calls cs) ≡ length cs = length-map cs as_call in
    let said = λ (b : ℕ → ℕ). ap (λ n. take n new) long ∙ all_said L as_call cs (start b) old (machine here b) new (end b) ∙ ap (λ k. answers L (machine k b) (as_calls cs)) made.1 in
    record {
      even = made.0;
      places = omega (arith, long, enough (means h) (length old) (length cs) made.0 back.0);
      answered = said;
      as_if_nothing_moved = as_if L (means h) cs (take (length (as_calls cs)) new) g.met.L.Layout.lawful (g.met.H.Host.sized h) made.0 (said (λ j. 0));
      others = (end (λ j. 0)).others (length (as_calls cs)) (omega (arith, long));
      memory = λ b. ap means (ap (λ p. p.0) c.into_parts.ensures) ∙ ap (λ x. x.heap.memory) (all_gone L as_call cs (start b) old (machine here b) new (end b) ∙ ap (λ k. after L (machine k b) (as_calls cs)) made.1);
      layout_back = ap (λ p. p.1) c.into_parts.ensures ∙ c.loop-i.invariant.layout_kept ∙ made.2 ∙ ap (λ p. p.1) back.1;
    }
