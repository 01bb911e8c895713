use Rattle.std.proofs.Common.{false, rules}
use Rattle.words.proofs.Far.{sizes_in_range}
use Rattle.model.specs.Images.{is_used_page}
use Rattle.state.specs.View.{state_of}
use Rattle.state.proofs.Made.{made-from_fn}
use Rattle.images.proofs.Pages.{flags_all, no_used_page}
use Rattle.images.proofs.marking.used_pages.Goals as goal

pub returns : goal.returns
returns g c =
    let m = g.H.Host.meaning c.args.host.now in
    let h = state_of m c.args.plain.now in
    let few = (sizes_in_range m (g.met.H.Host.sized c.args.host.now)).2 in
    let made = c.from_fn.ensures.items in
    λ i q. flags_all c.from_fn.result (is_used_page h) made.long (made-from_fn _ (is_used_page h) c.from_fn.result false (λ p y s k. search rules) 64 made) (no_used_page h few) q i
