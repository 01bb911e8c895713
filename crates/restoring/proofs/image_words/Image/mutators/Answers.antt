use Rattle.std.proofs.Common.{◌≡◌, rules}
use Rattle.model.specs.declared.states.State.TheVariants.{Running}
use Rattle.state.specs.View.{no_such}
use Rattle.restoring.specs.Restored.{image_view}
use Rattle.restoring.specs.Outlines.{register_in}
use Rattle.restoring.specs.Writing.{Registers}
use Rattle.state.proofs.Made.{each_from_fn}
use Rattle.restoring.proofs.Tables.{registers_of, states_of, no_register}
use Rattle.restoring.proofs.image_words.Image.mutators.Goals as goal

pub returns : goal.returns
returns c =
    let ms = c.from_fn.result in
    let made = c.from_fn.ensures.items in
    let b = image_view c.args.self.now.words.now in
    record {
      registers = registers_of ms made.long (register_in b) (λ m h. each_from_fn (λ i y. Registers (register_in b) i y.registers) ms 4 made (λ i y q k. search rules) m no_such h) (no_register b);
      states = states_of ms made.long (λ m h. each_from_fn (λ i y. y.state ≡ Running) ms 4 made (λ i y q k. search rules) m no_such h);
    }
