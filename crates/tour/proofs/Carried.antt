-- The answers to a list that was carried out in as many places as it has calls.
use Rattle.std.proofs.Common.{◌≡◌, suc, true, List, [], ◌∷◌, length, take, refl, ap, subst, arith, Ok, Err, Result, is_ok}
use Rattle.std.proofs.lemmas.Bool.{false≢true}
use Rattle.std.proofs.lemmas.List.{take_all}
use Rattle.memory.specs.Memory.{Memory}
use Rattle.memory.specs.declared.refusals.Rejected.{Rejected}
use Rattle.layouts.specs.Layouts.{Rules}
use Rattle.model.specs.declared.calls.Answer.{Answer}
use Rattle.runs.specs.Lists.{as_calls, AsIfNothingMoved, Ran}
use Rattle.runs.specs.declared.lists.MutatorCall.{MutatorCall}

as_long : (cs : List MutatorCall) → length (as_calls cs) ≡ length cs
as_long [] = refl
as_long (c ∷ cs) = ap suc (as_long cs)

pub as_if_nothing_moved : {H L : Type 0} (rules : Rules) (means : H → Memory) (host : H) (layout : L) (cs : List MutatorCall) (old new : List Answer) (r : Result (H × L) (Rejected (H × L))) → is_ok r ≡ true → length new ≡ length cs → Ran rules means host layout cs old new r → AsIfNothingMoved rules (means host) (as_calls cs) new
as_if_nothing_moved rules means host layout cs old new (Ok p) ok long ran =
    let e : length (as_calls cs) ≡ length cs = as_long cs in
    let whole : take (length (as_calls cs)) new ≡ new = take_all (length (as_calls cs)) new (omega (arith, long, e)) in
    subst (λ xs. AsIfNothingMoved rules (means host) (as_calls cs) xs) whole ran.as_if_nothing_moved
as_if_nothing_moved rules means host layout cs old new (Err r) ok long ran = absurd (false≢true ok)
