use Rattle.std.proofs.Common.{refl, ap, ◌∙◌, rules}
use Rattle.model.specs.Heap.{with_new_start}
use Rattle.model.specs.Calls.{fresh_heap}
use Rattle.heap.proofs.Fresh.{cleared_is}
use Rattle.heap.proofs.heap_state.Heap.make.Goals as goal

pub returns : goal.returns
returns g c =
    let means = g.H.Host.meaning in
    let h = c.args.host in
    let memory = c.clear.ensures ∙ cleared_is (means h) (search rules) (g.met.H.Host.blank h) (g.met.H.Host.shut h) in
    let words = c.words_in_half-half_words.ensures.value in
    (search rules, c.fresh_plain.ensures (means c.clear.new.host) ∙ ap (with_new_start (fresh_heap (means c.clear.new.host))) words ∙ ap fresh_heap memory, refl)
