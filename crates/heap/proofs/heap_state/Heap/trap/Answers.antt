use Rattle.std.proofs.Common.{◌≤◌, cond, Some, None, ap, ◌∙◌, ap₂, arith}
use Rattle.std.proofs.lemmas.Bool.{le-ltb}
use Rattle.model.specs.declared.states.State.TheVariants.{Waiting}
use Rattle.model.specs.Heap.{plus, with_traps}
use Rattle.heap.specs.View.{view}
use Rattle.heap.specs.Moves.{to_state}
use Rattle.heap.proofs.heap_state.Heap.trap.Goals as goal

pub returns : goal.returns
returns g c =
    let h = view g.H.Host.meaning c.args.self.now in
    let m = c.number.result in
    let some : m ≤ 3 = omega (arith, c.number.ensures.few) in
    let waits = c.advance.ensures.after ∙ ap (λ b. to_state h m (cond b None (Some (Waiting c.args.page)))) (le-ltb 3 m some) in
    rw (← c.number.ensures.value) (record { after = ap₂ with_traps waits (c.saturating_add-self.ensures ∙ ap (λ x. plus x.traps 1) waits); layout = c.advance.ensures.layout })
