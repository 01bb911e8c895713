use Rattle.std.proofs.Common.{refl}
use Rattle.state.specs.View.{unsaved_view}
use Rattle.images.proofs.Pages.{lowered_more}
use Rattle.images.proofs.marking.lower_pages.Goals as goal

pub loop-i-preserved : goal.loop-i-preserved
loop-i-preserved g c = lowered_more (unsaved_view c.args.unsaved.now) c.loop-i.i (g.H.Host.meaning c.args.host.now) (g.H.Host.meaning c.loop-i.host) (g.H.Host.meaning c.lower_page.new.host) c.args.first _ c.loop-i.invariant refl c.lower_page.ensures
