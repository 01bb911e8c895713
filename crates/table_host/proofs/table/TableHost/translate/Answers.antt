use Rattle.std.proofs.Common.{arith, rules}
use Rattle.memory.proofs.Memories.{extent_small}
use Rattle.table_host.specs.Meaning.{table_meaning}
use Rattle.table_host.proofs.Translation.{frame_place}
use Rattle.table_host.proofs.table.TableHost.translate.Goals as goal

pub overflow_mul-result : goal.overflow_mul-result
overflow_mul-result c =
    let h = c.args.self.now in
    let small = extent_small (table_meaning h) h.sized in
    let place = frame_place h.entries h.page_count h.page_size c.args.page c.args.a c.frame-frame.result _ h.sized h.within c.requires.0 c.requires.1 (search rules) c.frame-frame.ensures in
    omega (arith, small, place)

pub overflow_add-result : goal.overflow_add-result
overflow_add-result c =
    let h = c.args.self.now in
    let small = extent_small (table_meaning h) h.sized in
    let place = frame_place h.entries h.page_count h.page_size c.args.page c.args.a c.frame-frame.result _ h.sized h.within c.requires.0 c.requires.1 (search rules) c.frame-frame.ensures in
    omega (arith, small, place)

pub returns-clause-within : goal.returns-clause-within
returns-clause-within c =
    let h = c.args.self.now in
    let place = frame_place h.entries h.page_count h.page_size c.args.page c.args.a c.frame-frame.result _ h.sized h.within c.requires.0 c.requires.1 (search rules) c.frame-frame.ensures in
    omega (arith, h.room, place)
