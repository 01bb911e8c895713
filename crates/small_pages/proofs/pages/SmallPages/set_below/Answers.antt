use Rattle.std.proofs.Common.{◌∙◌}
use Rattle.small_pages.proofs.Leasts.{set_settled}
use Rattle.small_pages.specs.Sizes.{same_set}
use Rattle.small_pages.proofs.pages.SmallPages.set_below.Goals as goal

pub returns : goal.returns
returns g c =
    let means = g.H.Host.meaning in
    let s = c.args.self.now in
    let legal = g.met.H.Host.sized s.below in
    let did = set_settled (means s.below) (means c.set.new.self) s.parts s.rights c.args.a c.args.w legal c.set.ensures.after in
    record {
      answer = c.set.ensures.answer ∙ same_set (means s.below) s.parts s.rights c.args.a legal;
      after = did.after;
      sizes = record { size = did.size; count = did.count; parts = did.parts };
      least = did.least;
    }
