use Rattle.std.proofs.Common.{◌≡◌, ◌*◌, ◌<◌, length, get_or, refl, ap, ◌∙◌, arith, rules}
use Rattle.model.specs.Forwarding.{roots_forwarded}
use Rattle.state.specs.View.{moving_of, no_such, register_view}
use Rattle.collector.proofs.Roots.{roots, pass_none, row_more, states_kept, mutator_more}
use Rattle.collector.proofs.root_pass.forward_roots.Goals as goal

pub loop-mutator-init : goal.loop-mutator-init
loop-mutator-init g c = (pass_none _ _, refl)

pub loop-register-init : goal.loop-register-init
loop-register-init g c = pass_none _ _

pub loop-register-preserved : goal.loop-register-preserved
loop-register-preserved g c =
    let within : c.loop-register.register-index < length c.loop-register.register-items = omega arith in
    row_more g.L.Layout.rules _ (moving_of (g.H.Host.meaning c.loop-register.host) c.loop-register.space) (moving_of (g.H.Host.meaning c.forward_held.new.host) c.forward_held.new.space) c.loop-register.register-items c.loop-register.register-index c.forward_held.result within c.forward_held.ensures.after c.forward_held.ensures.value c.loop-register.invariant

pub loop-mutator-preserved : goal.loop-mutator-preserved
loop-mutator-preserved g c =
    let ms = c.loop-mutator.mutator-items in
    let m = c.loop-mutator.mutator-index in
    let rs = c.loop-register.register-items in
    let within : m < length ms = omega arith in
    let long : length (get_or ms m no_such).registers ≡ 8 = search rules in
    let eight : c.loop-register.register-index ≡ 8 = omega arith in
    (mutator_more ms m within g.L.Layout.rules _ (moving_of (g.H.Host.meaning c.loop-mutator.host) c.loop-mutator.space) (moving_of (g.H.Host.meaning c.loop-register.host) c.loop-register.space) rs c.loop-register.register-index eight c.loop-mutator.invariant.0 c.loop-register.invariant, (λ i q. states_kept ms m within rs q i) ∙ c.loop-mutator.invariant.1)

pub returns : goal.returns
returns g c =
    let all : c.loop-mutator.mutator-index * 8 ≡ 32 = omega arith in
    record {
      after = c.loop-mutator.invariant.0 ∙ ap (λ n. roots_forwarded g.L.Layout.rules (roots (moving_of (g.H.Host.meaning c.args.host.now) c.args.space.now) (register_view c.args.mutators.now)) n) all;
      states = c.loop-mutator.invariant.1;
    }
