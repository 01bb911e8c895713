use Rattle.std.proofs.Common.{◌+◌, ap, ◌∙◌}
use Rattle.model.specs.Heap.{first_page, first_word, whole_pages}
use Rattle.model.specs.Collecting.{flipped_memory, swapped}
use Rattle.collector.specs.Starts.{starts_view}
use Rattle.state.specs.View.{state_of}
use Rattle.collector.proofs.flipping.swap_halves.Goals as goal

pub returns : goal.returns
returns g c =
    let m = g.H.Host.meaning c.args.host.now in
    let h = state_of m c.args.plain.now in
    let half = c.other-half.ensures in
    let used = c.words_in_use-used.ensures in
    let start = c.start_of_half-start.ensures.value ∙ ap (first_word m) half in
    let words = c.words_in_half.ensures.value in
    let old = c.page_of_half-old.ensures.value in
    let new = c.page_of_half-new.ensures.value ∙ ap (first_page m) half in
    let closed = c.pages_for-closed.ensures.value ∙ ap (whole_pages m) used in
    let memory = c.turn_pages.ensures ∙ (λ i. flipped_memory m (old i) (new i) (closed i)) in
    let starts = c.page_starts-plain.ensures ∙ ap starts_view c.page_words-size.ensures.value in
    λ i. record {
      memory = memory i;
      space = record { copy_end = start i; crossing = h.space.crossing };
      half = half i;
      new_start = start i + words i;
      unscanned = starts i;
      flip_used = used i;
      unsaved = h.unsaved;
      mark_start = h.mark_start;
      register = h.register;
      state = h.state;
      phase = (swapped h).phase;
      traps = h.traps;
    }
