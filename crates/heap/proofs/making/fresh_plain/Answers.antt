use Rattle.std.proofs.Common.{◌∙◌}
use Rattle.model.specs.Heap.{with_new_start}
use Rattle.model.specs.Calls.{fresh_heap}
use Rattle.heap.proofs.Fresh.{registers_nil, states_running}
use Rattle.heap.proofs.making.fresh_plain.Goals as goal

pub returns : goal.returns
returns c = λ x.
    let h = with_new_start (fresh_heap x) c.args.new_start in
    c.idle.ensures x
    ∙ (λ i. record {
      memory = x;
      space = h.space;
      half = h.half;
      new_start = h.new_start;
      unscanned = h.unscanned;
      flip_used = h.flip_used;
      unsaved = h.unsaved;
      mark_start = h.mark_start;
      register = λ k. registers_nil k i;
      state = λ q. states_running q i;
      phase = h.phase;
      traps = h.traps;
    })
