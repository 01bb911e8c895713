use Rattle.std.proofs.Common.{refl, ◌∙◌}
use Rattle.memory.specs.Memory.{changed}
use Rattle.images.specs.Lent.{lent}
use Rattle.images.proofs.saving.seal_image.Goals as goal

pub returns : goal.returns
returns g c = record { after = refl; sealed = λ b. c.write_word.ensures b ∙ (λ i. changed (lent c.args.buffer.now b) 0 (c.page_words.ensures.value i)) }
