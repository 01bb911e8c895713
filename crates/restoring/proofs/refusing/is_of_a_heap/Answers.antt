use Rattle.std.proofs.Common.{sym, ap, ◌∙◌, ◌&&◌}
use Rattle.model.specs.Restoring.{is_written_well, is_made_of_objects, restored}
use Rattle.restoring.specs.Restored.{image_view}
use Rattle.restoring.proofs.Outlining.{heap_tested}
use Rattle.restoring.proofs.refusing.is_of_a_heap.Goals as goal

pub returns-then-is_written_well : goal.returns-then-is_written_well
returns-then-is_written_well g c =
    let m = g.H.Host.meaning c.args.host.now in
    let L = g.L.Layout.rules in
    let same = c.new.ensures.image in
    let well = c.if-is_written_well.ensures ∙ ap (λ xs. is_written_well m (image_view xs)) (sym same) in
    heap_tested m c.new.result c.new.ensures.outline L _ well c.are_well_made.ensures
    ∙ ap (λ xs. is_written_well m (image_view xs) && is_made_of_objects L (restored m (image_view xs))) same
