use Rattle.std.proofs.Common.{Ok, length, ap, ◌∙◌, subst}
use Rattle.model.specs.Starts.{both_made, Start.at_make}
use Rattle.restoring.specs.Restored.{image_view}
use Rattle.heap.specs.View.{view}
use Rattle.heap.specs.Making.{Made}
use Rattle.runs.proofs.Places.{enough}
use Rattle.whole_runs.specs.Lists.{with_buffer, make_refusal}
use Rattle.whole_runs.proofs.Starting.{made_when_even, ran}
use Rattle.whole_runs.proofs.lists.run.Goals as goal

pub carry_out_all-requires : goal.carry_out_all-requires
carry_out_all-requires g c =
    let means = g.H.Host.meaning in
    let back = c.in_ok-host.ensures in
    let made = subst (λ k. Made means k c.in_ok-host.layout (Ok c.in_ok-heap.heap)) (ap (λ p. p.0) back.1) c.in_ok-heap.ensures in
    (enough (means c.args.host) (length c.args.answers.now) (length c.args.calls.now) made.0 back.0, λ m. ap (λ h. h.state m) made.1)

pub returns : goal.returns
returns g c =
    let means = g.H.Host.meaning in
    let m = means c.args.host in
    let xs = c.args.buffer.now in
    let back = c.in_ok-host.ensures in
    let made = subst (λ k. Made means k c.in_ok-host.layout (Ok c.in_ok-heap.heap)) (ap (λ p. p.0) back.1) c.in_ok-heap.ensures in
    let on = c.carry_out_all.ensures in
    let starts = at_make m.page_count m.page_size (g.met.H.Host.sized c.args.host) made.0 (image_view xs) in
    ran g.L.Layout.rules means (make_refusal m) (both_made m.page_count m.page_size (image_view xs)) c.args.host c.args.layout c.args.calls.now c.args.answers.now c.carry_out_all.new.answers xs c.carry_out_all.new.buffer (view means c.in_ok-heap.heap) c.carry_out_all.result g.met.L.Layout.lawful starts back.0 made.0 (made_when_even m made.0) (ap (λ k. with_buffer k xs) made.1) on.carried (on.layout ∙ made.2 ∙ ap (λ p. p.1) back.1)
