use Rattle.theory.proofs.RestoreChecks.{accepted_if_none_fails, length_is_of_no_matter}
use Rattle.theory.proofs.restore_checks_listed.Goals as goal

pub returns : goal.returns
returns c = record { listed = accepted_if_none_fails; length = length_is_of_no_matter }
