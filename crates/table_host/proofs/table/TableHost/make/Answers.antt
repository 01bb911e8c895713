use Rattle.std.proofs.Common.{refl, rules}
use Rattle.memory.proofs.Memories.{same_memory}
use Rattle.table_host.proofs.Translation.{size_positive, fresh_word, fresh_right}
use Rattle.table_host.proofs.table.TableHost.make.Goals as goal

pub returns : goal.returns
returns c =
    let es = c.fresh_entries.result in
    let fs = c.args.frames.now in
    record {
      sized = search rules;
      room = search rules;
      frames = search rules;
      meaning = same_memory _ _ refl refl (fresh_word c.args.memory.items es fs c.args.page_count c.args.page_size (size_positive c.args.page_count c.args.page_size (search rules)) c.fresh_entries.ensures) (fresh_right es fs c.args.page_count c.fresh_entries.ensures);
    }
