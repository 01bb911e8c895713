use Rattle.std.proofs.Common.{◌≡◌, ℕ}
use Rattle.heap.specs.View.{view}
use Rattle.runs.specs.Lists.{as_call}
use Rattle.runs.proofs.Turns.{machine, Reached}
use Rattle.runs.proofs.lists.run.Given as goal

abbrev pub invariant-loop-i : goal.invariant-loop-i
invariant-loop-i g l = record {
  reached : (b : ℕ → ℕ) → Reached g.L.Layout.rules as_call l.calls (machine (view g.H.Host.meaning l.initial.heap) b) l.initial.answers l.i (machine (view g.H.Host.meaning l.heap) b) l.answers;
  layout_kept : l.heap.layout ≡ l.initial.heap.layout;
}
