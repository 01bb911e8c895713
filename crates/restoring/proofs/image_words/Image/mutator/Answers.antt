use Rattle.std.proofs.Common.{◌≡◌, ◌+◌, ◌*◌, rules}
use Rattle.state.specs.View.{held_value}
use Rattle.state.specs.declared.mutators.Held.TheVariants.{Nil}
use Rattle.restoring.specs.Restored.{image_view}
use Rattle.restoring.specs.Outlines.{register_in}
use Rattle.state.proofs.Made.{each_from_fn}
use Rattle.restoring.proofs.image_words.Image.mutator.Goals as goal

pub returns-clause-registers : goal.returns-clause-registers
returns-clause-registers c =
    let made = c.from_fn.ensures.items in
    (made.long, λ r h. each_from_fn (λ i y. held_value y ≡ register_in (image_view c.args.self.now.words.now) (c.args.m * 8 + i)) c.from_fn.result 8 made (λ i y q k. search rules) r Nil h)
