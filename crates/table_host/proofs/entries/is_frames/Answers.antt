use Rattle.table_host.proofs.Seen.{none_seen}
use Rattle.table_host.proofs.entries.is_frames.Goals as goal

pub loop-f-init : goal.loop-f-init
loop-f-init c = none_seen c.args.page_count c.args.frames.now
