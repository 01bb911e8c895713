use Rattle.std.proofs.Common.{◌≡◌, ◌*◌}
use Rattle.model.specs.Forwarding.{roots_forwarded}
use Rattle.state.specs.View.{moving_of, register_view, state_view}
use Rattle.collector.proofs.Roots.{roots, row_view}
use Rattle.collector.proofs.root_pass.forward_roots.Given as goal

abbrev pub invariant-loop-register : goal.invariant-loop-register
invariant-loop-register g l = roots (moving_of (g.H.Host.meaning l.host) l.space) (row_view l.register-items) ≡ roots_forwarded g.L.Layout.rules (roots (moving_of (g.H.Host.meaning l.initial.host) l.initial.space) (row_view l.initial.register-items)) l.register-index

abbrev pub invariant-loop-mutator : goal.invariant-loop-mutator
invariant-loop-mutator g l = (roots (moving_of (g.H.Host.meaning l.host) l.space) (register_view l.mutator-items) ≡ roots_forwarded g.L.Layout.rules (roots (moving_of (g.H.Host.meaning l.initial.host) l.initial.space) (register_view l.initial.mutator-items)) (l.mutator-index * 8)) × (state_view l.mutator-items ≡ state_view l.initial.mutator-items)
