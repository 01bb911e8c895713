use Rattle.std.proofs.Common.{get_or, set, ap, ◌∙◌, rules}
use Rattle.memory.specs.Memory.{changed}
use Rattle.state.specs.View.{no_such, register_view, state_view, state_of}
use Rattle.state.proofs.Table.{with_mutator, with_mutators, mutators_seen, registers_kept, state_changed}
use Rattle.state.proofs.plain_state.Plain.set_state.Goals as goal

pub returns : goal.returns
returns c = λ x.
    let p = c.args.self.now in
    let m = c.args.m in
    let rs = (get_or p.mutators m no_such).registers in
    ap (λ e. state_of x (with_mutators p (set p.mutators m e))) c.move_to.ensures
    ∙ mutators_seen x p (with_mutator p.mutators m rs c.args.state) (register_view p.mutators) (changed (state_view p.mutators) m c.args.state)
    (registers_kept p.mutators m (search rules) c.args.state)
    (state_changed p.mutators m (search rules) rs c.args.state)
