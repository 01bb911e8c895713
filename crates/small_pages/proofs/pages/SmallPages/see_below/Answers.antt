use Rattle.std.proofs.Common.{◌∙◌}
use Rattle.small_pages.proofs.Leasts.{still_settled}
use Rattle.small_pages.specs.Sizes.{same_see}
use Rattle.small_pages.proofs.pages.SmallPages.see_below.Goals as goal

pub returns : goal.returns
returns g c =
    let means = g.H.Host.meaning in
    let s = c.args.self.now in
    let did = still_settled (means s.below) (means c.see.new.self) s.parts s.rights c.see.ensures.after in
    record {
      answer = c.see.ensures.answer ∙ same_see (means s.below) s.parts s.rights c.args.a (g.met.H.Host.sized s.below);
      after = did.after;
      sizes = record { size = did.size; count = did.count; parts = did.parts };
      least = did.least;
    }
