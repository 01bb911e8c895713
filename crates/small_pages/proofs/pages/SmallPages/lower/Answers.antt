use Rattle.std.proofs.Common.{sym, ap, ◌∙◌}
use Rattle.std.proofs.lemmas.Bool.{cond-true, lt-ltb}
use Rattle.memory.specs.Rights.{lesser}
use Rattle.small_pages.specs.Layers.{layer_meaning}
use Rattle.small_pages.proofs.Leasts.{lowered_state}
use Rattle.small_pages.proofs.pages.SmallPages.lower.Goals as goal

pub returns : goal.returns
returns g c =
    let means = g.H.Host.meaning in
    let s = c.args.self.now in
    let t = c.mark.new.self in
    let u = c.lower_below.new.self in
    let did = lowered_state (means s.below) s.parts s.rights c.args.p c.args.right c.requires (means t.below) (means u.below) t.parts u.parts t.rights u.rights c.lesser.result (ap means c.mark.ensures.below) c.mark.ensures.parts c.mark.ensures.after c.lower_below.ensures.parts c.lower_below.ensures.rights (c.lesser.ensures ∙ ap (λ x. lesser x c.args.right) c.right.ensures) c.lower_below.ensures.below in
    record { after = did.after ∙ sym (cond-true _ _ (layer_meaning means s) (lt-ltb _ _ c.requires)); sizes = record { size = did.size; count = did.count; parts = did.parts }; least = did.least }
