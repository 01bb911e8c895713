use Rattle.theory.proofs.FromMake.{runs_agree, all_collect, steps_bounded, all_repeat, all_sealed, all_again, all_restore, all_trap}
use Rattle.theory.proofs.closed_form_proved.Goals as goal

pub returns : goal.returns
returns c = record {
  answers = runs_agree;
  collections = all_collect;
  steps = steps_bounded;
  repeats = all_repeat;
  sealed = all_sealed;
  again = all_again;
  restored = all_restore;
  traps = all_trap;
}
