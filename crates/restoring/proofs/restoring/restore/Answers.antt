use Rattle.std.proofs.Common.{length, sym, refl, ap, ◌∙◌}
use Rattle.model.specs.Heap.{Heap as Model}
use Rattle.model.specs.Restoring.{restored}
use Rattle.restoring.specs.Restored.{image_view}
use Rattle.restoring.specs.Writing.{turned}
use Rattle.restoring.proofs.Outlining.{even_pages}
use Rattle.restoring.proofs.Writes.{restored_is}
use Rattle.restoring.proofs.restoring.restore.Goals as goal

pub returns : goal.returns
returns g c =
    let h = c.args.host in
    let m = g.H.Host.meaning h in
    let xs = c.args.image.now in
    let even = even_pages g.L.Layout.rules m (length xs) (image_view xs) c.in_default.ensures in
    let y = g.H.Host.meaning c.turn_rights.new.host in
    let made = c.plain-plain.ensures y in
    let rights = c.turn_rights.ensures ∙ ap (turned (g.H.Host.meaning c.write.new.host)) (ap (λ (q : Model). q.half) made) in
    let heap = restored_is m even (g.met.H.Host.blank h) (g.met.H.Host.shut h) c.new-objects.result _ y _ c.new-objects.ensures.outline c.write.ensures rights made ∙ ap (λ b. restored m (image_view b)) c.new-objects.ensures.image in
    (sym c.in_default.ensures, heap, refl)
