use Rattle.std.proofs.Common.{◌∙◌}
use Rattle.model.specs.Restoring.{half_of}
use Rattle.restoring.specs.Restored.{image_view}
use Rattle.restoring.specs.Writing.{plain_in}
use Rattle.restoring.proofs.objects.Objects.plain.Goals as goal

pub returns : goal.returns
returns g c = λ x.
    let b = image_view c.args.self.now.image.words.now in
    let h = plain_in x (half_of (b 3)) c.args.self.now.outline b in
    c.idle.ensures x
    ∙ (λ i. record {
      memory = x;
      space = h.space;
      half = c.half.ensures i;
      new_start = h.new_start;
      unscanned = h.unscanned;
      flip_used = h.flip_used;
      unsaved = h.unsaved;
      mark_start = h.mark_start;
      register = λ k. c.mutators.ensures.registers k i;
      state = λ q. c.mutators.ensures.states q i;
      phase = h.phase;
      traps = h.traps;
    })
