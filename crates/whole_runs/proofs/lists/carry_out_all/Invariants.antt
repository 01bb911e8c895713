use Rattle.std.proofs.Common.{◌≡◌, length}
use Rattle.heap.specs.View.{view}
use Rattle.runs.proofs.Turns.{Reached}
use Rattle.whole_runs.specs.Calls.{within}
use Rattle.whole_runs.specs.Lists.{with_buffer}
use Rattle.whole_runs.proofs.lists.carry_out_all.Given as goal

abbrev pub invariant-loop-i : goal.invariant-loop-i
invariant-loop-i g l =
    let seen = view g.H.Host.meaning in
    let n = length l.initial.buffer in
    record {
      reached : Reached g.L.Layout.rules (within n) l.calls (with_buffer (seen l.initial.session.heap) l.initial.buffer) l.initial.answers l.i (with_buffer (seen l.session.heap) l.buffer) l.answers;
      long : length l.buffer ≡ n;
      layout_kept : l.session.heap.layout ≡ l.initial.session.heap.layout;
    }
