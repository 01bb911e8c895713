use Rattle.std.proofs.Common.{refl, rules}
use Rattle.memory.proofs.Memories.{same_memory}
use Rattle.table_host.proofs.Translation.{size_positive, word_after}
use Rattle.table_host.proofs.table.TableHost.write.Goals as goal

pub returns : goal.returns
returns c =
    let h = c.args.self.now in
    rw c.translate-place.ensures.value (same_memory _ _ refl refl (word_after h.memory.items h.entries h.page_count h.page_size c.args.a c.args.w (size_positive _ _ h.sized) h.apart c.requires.0 (search rules) (search rules)) (λ q. refl))
