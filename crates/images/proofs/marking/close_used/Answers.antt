use Rattle.state.specs.View.{state_of, unsaved_view}
use Rattle.images.proofs.Pages.{marked_by}
use Rattle.images.proofs.marking.close_used.Goals as goal

pub returns : goal.returns
returns g c =
    let h = state_of (g.H.Host.meaning c.args.host.now) c.args.plain.now in
    marked_by h (unsaved_view c.used_pages-used.result) c.pages_in_half-pages.result c.page_of_half-first.result (g.H.Host.meaning c.lower_pages.new.host) c.used_pages-used.ensures c.pages_in_half-pages.ensures.value c.page_of_half-first.ensures.value c.lower_pages.ensures
