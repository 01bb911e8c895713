use Rattle.std.proofs.Common.{◌∙◌, ◌+◌, ◌*◌, ◌/◌, ◌%◌, ◌<◌, cond, ltb, length, refl, ap, rules}
use Rattle.std.proofs.lemmas.Grind.{get_or_default_zero}
use Rattle.memory.specs.Memory.{word_at}
use Rattle.memory.proofs.Memories.{same_memory}
use Rattle.table_host.specs.Entries.{entry_frame}
use Rattle.table_host.proofs.Translation.{frame_after, right_after, within_after, apart_after}
use Rattle.table_host.proofs.table.TableHost.mark.Goals as goal

pub invariant_of-self : goal.invariant_of-self
invariant_of-self c =
    let h = c.args.self.now in
    let e = c.with_right.result in
    let room : c.args.p < length h.entries = search rules in
    let same = c.with_right.ensures.frame ∙ ap entry_frame (get_or_default_zero h.entries c.args.p _ room) in
    record {
      sized = h.sized;
      room = h.room;
      within = within_after h.entries h.page_count c.args.p e room same h.within;
      apart = apart_after h.entries h.page_count c.args.p e room same h.apart;
    }

pub returns : goal.returns
returns c =
    let h = c.args.self.now in
    let e = c.with_right.result in
    let room : c.args.p < length h.entries = search rules in
    let frames = frame_after h.entries c.args.p e room (c.with_right.ensures.frame ∙ ap entry_frame (get_or_default_zero h.entries c.args.p _ room)) in
    same_memory _ _ refl refl
    (λ b. ap (λ f. cond (ltb b (h.page_count * h.page_size)) (word_at h.memory.items (f * h.page_size + b % h.page_size)) 0) (frames (b / h.page_size)))
    (right_after h.entries h.page_count c.args.p e c.args.right c.requires room c.with_right.ensures.right)
