use Rattle.std.proofs.Common.{◌≡◌, ℕ, ◌+◌, ◌*◌, ◌<◌, length, get_or}
use Rattle.table_host.proofs.entries.fresh_entries.Given as goal

abbrev pub invariant-loop-p : goal.invariant-loop-p
invariant-loop-p l = (length l.entries ≡ 64) × ((k : ℕ) → k < l.p → get_or l.entries k 0 ≡ get_or l.frames k 0 * 256 + 3)
