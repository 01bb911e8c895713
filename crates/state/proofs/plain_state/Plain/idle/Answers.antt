use Rattle.std.proofs.Common.{false}
use Rattle.model.specs.declared.states.Phase.TheVariants.{Idle}
use Rattle.state.specs.View.{register_view, state_view}
use Rattle.state.proofs.Blank.{blank_at}
use Rattle.state.proofs.plain_state.Plain.idle.Goals as goal

pub returns : goal.returns
returns c = λ x i. record {
  memory = x;
  space = record { copy_end = c.args.copy_end; crossing = λ q. blank_at 64 q 0 i };
  half = c.args.half;
  new_start = c.args.new_start;
  unscanned = λ q. blank_at 64 q 0 i;
  flip_used = 0;
  unsaved = λ q. blank_at 64 q false i;
  mark_start = 0;
  register = register_view c.args.mutators;
  state = state_view c.args.mutators;
  phase = Idle;
  traps = 0;
}
