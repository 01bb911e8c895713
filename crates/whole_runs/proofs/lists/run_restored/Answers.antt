use Rattle.std.proofs.Common.{◌≡◌, Ok, Err, Some, length, sym, ap, ◌∙◌, subst, rules}
use Rattle.model.specs.Restoring.{restore_refusal}
use Rattle.model.specs.Starts.{both_restored, Start.at_restore}
use Rattle.restoring.specs.Restored.{image_view}
use Rattle.heap.specs.View.{view}
use Rattle.heap.specs.Making.{Restored}
use Rattle.restoring.proofs.Outlining.{even_pages}
use Rattle.runs.proofs.Places.{enough}
use Rattle.theory.proofs.Checkpoints.{all_restored_heaps_write_their_image}
use Rattle.whole_runs.specs.Lists.{with_buffer, unless_places}
use Rattle.whole_runs.proofs.Starting.{not_refused, ran}
use Rattle.whole_runs.proofs.lists.run_restored.Goals as goal

pub carry_out_all-requires : goal.carry_out_all-requires
carry_out_all-requires g c =
    let L = g.L.Layout.rules in
    let means = g.H.Host.meaning in
    let image = c.args.image.now in
    let back = c.in_ok-host.ensures in
    let kept = subst (λ k. Restored L means k c.in_ok-host.layout image (Ok c.in_ok-heap.heap)) (ap (λ p. p.0) back.1) c.in_ok-heap.ensures in
    let even = even_pages L (means c.args.host) (length image) (image_view image) (sym kept.0) in
    (enough (means c.args.host) (length c.args.answers.now) (length c.args.calls.now) even back.0, λ q. ap (λ h. h.state q) kept.1)

pub returns-in_err-host-clause-again : goal.returns-in_err-host-clause-again
returns-in_err-host-clause-again g c = all_restored_heaps_write_their_image g.L.Layout.rules g.met.L.Layout.lawful (g.H.Host.meaning c.args.host) (g.met.H.Host.sized c.args.host)

pub returns-in_err-heap-clause-again : goal.returns-in_err-heap-clause-again
returns-in_err-heap-clause-again g c = all_restored_heaps_write_their_image g.L.Layout.rules g.met.L.Layout.lawful (g.H.Host.meaning c.args.host) (g.met.H.Host.sized c.args.host)

pub returns-in_err-heap-clause-ran : goal.returns-in_err-heap-clause-ran
returns-in_err-heap-clause-ran g c =
    let L = g.L.Layout.rules in
    let means = g.H.Host.meaning in
    let h = c.args.host in
    let image = c.args.image.now in
    let back = c.in_ok-host.ensures in
    let e = c.in_err-heap.field-0.0 in
    let kept = subst (λ k. Restored L means k c.in_ok-host.layout image (Err e)) (ap (λ p. p.0) back.1) c.in_err-heap.ensures in
    let refused : unless_places (means h) (length c.args.answers.now) (length c.args.calls.now) (restore_refusal L (means h) (length image) (image_view image)) ≡ Some e.refusal = not_refused (means h) (length c.args.answers.now) (length c.args.calls.now) _ back.0 ∙ kept.0 in
    let given : e.given ≡ (h, c.args.layout) = c.in_err-heap.ensures.1 ∙ back.1 in
    search rules

pub returns : goal.returns
returns g c =
    let L = g.L.Layout.rules in
    let means = g.H.Host.meaning in
    let m = means c.args.host in
    let sized = g.met.H.Host.sized c.args.host in
    let xs = c.args.buffer.now in
    let image = c.args.image.now in
    let back = c.in_ok-host.ensures in
    let kept = subst (λ k. Restored L means k c.in_ok-host.layout image (Ok c.in_ok-heap.heap)) (ap (λ p. p.0) back.1) c.in_ok-heap.ensures in
    let on = c.carry_out_all.ensures in
    let starts = at_restore m sized (image_view image) (image_view xs) (length image) (λ j e. (c.type_inv.image j).fits) kept.0 in
    record {
      ran = ran L means (restore_refusal L m (length image) (image_view image)) (both_restored L m (image_view image) (image_view xs)) c.args.host c.args.layout c.args.calls.now c.args.answers.now c.carry_out_all.new.answers xs c.carry_out_all.new.buffer (view means c.in_ok-heap.heap) c.carry_out_all.result g.met.L.Layout.lawful starts back.0 (even_pages L m (length image) (image_view image) (sym kept.0)) kept.0 (ap (λ k. with_buffer k xs) kept.1) on.carried (on.layout ∙ kept.2 ∙ ap (λ p. p.1) back.1);
      again = all_restored_heaps_write_their_image L g.met.L.Layout.lawful m sized;
    }
