use Rattle.std.proofs.Common.{rules, ◌≡◌, length}
use Rattle.whole_tour.proofs.Listed.{mapped}
use Rattle.whole_tour.proofs.lists.all_listed.Goals as goal

pub returns : goal.returns
returns c =
    let xs = c.args.calls.now in
    let ys = c.map.result in
    let long : length ys ≡ length xs = search rules in
    mapped xs ys long (λ i d e l. let at = c.map.ensures.items.at i d e (search rules) in at.2.met)
