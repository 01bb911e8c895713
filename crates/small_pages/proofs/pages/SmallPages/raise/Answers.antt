use Rattle.std.proofs.Common.{sym, ap, ◌∙◌}
use Rattle.std.proofs.lemmas.Bool.{cond-true, lt-ltb}
use Rattle.memory.specs.Rights.{greater}
use Rattle.small_pages.specs.Layers.{layer_meaning}
use Rattle.small_pages.proofs.Leasts.{raised_state}
use Rattle.small_pages.proofs.pages.SmallPages.raise.Goals as goal

pub returns : goal.returns
returns g c =
    let means = g.H.Host.meaning in
    let s = c.args.self.now in
    let t = c.mark.new.self in
    let u = c.raise_below.new.self in
    let did = raised_state (means s.below) s.parts s.rights c.args.p c.args.right c.requires (means t.below) (means u.below) t.parts u.parts t.rights u.rights c.greater.result (ap means c.mark.ensures.below) c.mark.ensures.parts c.mark.ensures.after c.raise_below.ensures.parts c.raise_below.ensures.rights (c.greater.ensures ∙ ap (λ x. greater x c.args.right) c.right.ensures) c.raise_below.ensures.below in
    record { after = did.after ∙ sym (cond-true _ _ (layer_meaning means s) (lt-ltb _ _ c.requires)); sizes = record { size = did.size; count = did.count; parts = did.parts }; least = did.least }
