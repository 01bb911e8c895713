use Rattle.std.proofs.Common.{is_some, sym, ap, ◌∙◌, rules}
use Rattle.heap.specs.View.{view}
use Rattle.heap.proofs.Resolving.{worked_off}
use Rattle.heap.proofs.heap_state.Heap.work_off.Goals as goal

pub returns : goal.returns
returns g c =
    let seen = view g.H.Host.meaning in
    let h = seen c.args.self.now in
    let moved = c.advance-2.ensures in
    record {
      writes = worked_off g.L.Layout.rules h c.args.buffer.now c.args.m c.args.page (search rules) (ap is_some (sym moved.state) ∙ c.if-is_none.ensures) (seen c.advance-2.new.self) (seen c.serve.new.self) c.serve.new.buffer c.serve.result moved.after c.serve.ensures.served;
      layout = c.serve.ensures.layout ∙ moved.layout;
    }
