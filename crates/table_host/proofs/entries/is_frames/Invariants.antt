use Rattle.table_host.proofs.Seen.{Seen}
use Rattle.table_host.proofs.entries.is_frames.Given as goal

abbrev pub invariant-loop-f : goal.invariant-loop-f
invariant-loop-f l = Seen l.page_count l.frames l.f-index l.seen
