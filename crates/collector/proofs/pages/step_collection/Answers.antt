use Rattle.std.proofs.Common.{rules}
use Rattle.collector.proofs.pages.step_collection.Goals.{in-Some, in-None}
use Rattle.collector.proofs.pages.step_collection.Goals as goal

pub returns : goal.returns
returns g c =
    let left = c.finish_if_scanned.ensures c.match-lowest_page.counts in
    elim c.match-lowest_page.branch [
      | in-Some w ↦ search (rules, left)
      | in-None w ↦ search (rules, left)
    ]
