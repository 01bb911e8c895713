use Rattle.std.proofs.Common.{◌≡◌, ℕ, cond, get_or}
use Rattle.collector.proofs.Crossings.{noted, pages_to}
use Rattle.collector.proofs.forwarding.note_crossing.Given as goal

abbrev pub invariant-loop-page : goal.invariant-loop-page
invariant-loop-page l = (l.space.copy_end ≡ l.initial.space.copy_end) × ((q : ℕ) → get_or l.space.crossing q 0 ≡ cond (noted l.first (pages_to l.size l.place l.words) l.page q) l.place (get_or l.initial.space.crossing q 0))
