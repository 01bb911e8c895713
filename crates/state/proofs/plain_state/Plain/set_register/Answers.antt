use Rattle.std.proofs.Common.{◌+◌, ◌*◌, get_or, set, ap, ◌∙◌, arith, rules}
use Rattle.std.proofs.lemmas.Bool.{cond-true, lt-ltb}
use Rattle.memory.specs.Memory.{changed}
use Rattle.state.specs.View.{held_value, no_such, register_view, state_view, state_of}
use Rattle.state.proofs.Table.{with_mutator, with_mutators, mutators_seen, register_changed, states_kept}
use Rattle.state.proofs.plain_state.Plain.set_register.Goals as goal

pub returns : goal.returns
returns c = λ x.
    let p = c.args.self.now in
    let m = c.args.m in
    let r = c.args.r in
    let old = get_or p.mutators m no_such in
    let rs = set old.registers r c.args.held in
    ap (λ e. state_of x (with_mutators p (set p.mutators m e))) (c.hold.ensures.after ∙ cond-true _ _ old (lt-ltb r 8 c.requires.1))
    ∙ mutators_seen x p (with_mutator p.mutators m rs old.state) (changed (register_view p.mutators) (m * 8 + r) (held_value c.args.held)) (state_view p.mutators)
    (register_changed p.mutators m (search rules) r c.args.held old.state (omega (arith, c.hold.ensures.eight, c.requires.1)) c.requires.1)
    (states_kept p.mutators m (search rules) rs)
