use Rattle.model.proofs.Computed.{objects_at, short_run_answers}
use Rattle.model.proofs.short_run_computed.Goals as goal

pub returns : goal.returns
returns c = record { objects = objects_at; answers = short_run_answers }
