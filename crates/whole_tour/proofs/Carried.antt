-- The answers to the mutators' calls in a list of all calls that was carried out in as many places as it has calls.
use Rattle.std.proofs.Common.{◌≡◌, ℕ, suc, true, List, [], ◌∷◌, length, take, refl, ap, ◌∙◌, subst, arith, Ok, Err, Option, Result, is_ok}
use Rattle.std.proofs.lemmas.Bool.{false≢true}
use Rattle.std.proofs.lemmas.List.{take_all}
use Rattle.memory.specs.Memory.{Memory}
use Rattle.memory.specs.declared.refusals.Refusal.{Refusal}
use Rattle.memory.specs.declared.refusals.Rejected.{Rejected}
use Rattle.layouts.specs.Layouts.{Rules}
use Rattle.model.specs.declared.calls.Answer.{Answer}
use Rattle.model.specs.declared.calls.Call.{Call}
use Rattle.model.specs.Never.{never_made, never_answers}
use Rattle.model.specs.Runs.{sizes_of, tellings, without_all_counts}
use Rattle.model.specs.Starts.{both_made}
use Rattle.restoring.specs.Restored.{image_view}
use Rattle.runs.specs.Lists.{as_call, as_calls, AsIfNothingMoved}
use Rattle.runs.specs.declared.lists.MutatorCall.{MutatorCall}
use Rattle.runs.specs.declared.lists.MutatorCall.TheVariants.{New, Load, Store, Copy, SetNumber, SetNil, Same, Tell, Count}
use Rattle.whole_runs.specs.Calls.{within, all_within}
use Rattle.whole_runs.specs.Lists.{Ran}

as_long : (cs : List MutatorCall) → length (as_calls cs) ≡ length cs
as_long [] = refl
as_long (c ∷ cs) = ap suc (as_long cs)

-- a mutator's call is lent no buffer
unlent : (n : ℕ) (c : MutatorCall) → within n (as_call c) ≡ as_call c
unlent n (New m d r w) = refl
unlent n (Load m d s i) = refl
unlent n (Store m s i x) = refl
unlent n (Copy m d f s) = refl
unlent n (SetNumber m d k) = refl
unlent n (SetNil m d) = refl
unlent n (Same m l r) = refl
unlent n (Tell m s) = refl
unlent n Count = refl

all_unlent : (n : ℕ) (cs : List MutatorCall) → all_within n (as_calls cs) ≡ as_calls cs
all_unlent n [] = refl
all_unlent n (c ∷ cs) = ap (λ d. d ∷ all_within n (as_calls cs)) (unlent n c) ∙ ap (λ ds. as_call c ∷ ds) (all_unlent n cs)

pub as_if_nothing_moved : {H L : Type 0} (rules : Rules) (means : H → Memory) (refused : Option Refusal) (host : H) (layout : L) (cs : List MutatorCall) (ds : List Call) (old new : List Answer) (before behind : List ℕ) (r : Result (H × L) (Rejected (H × L))) → is_ok r ≡ true → ds ≡ as_calls cs → length new ≡ length cs → Ran rules means refused (both_made (means host).page_count (means host).page_size (image_view before)) host layout ds old new before behind r → AsIfNothingMoved rules (means host) (as_calls cs) new
as_if_nothing_moved rules means refused host layout cs ds old new before behind (Ok p) ok same long ran =
    let e : length (as_calls cs) ≡ length cs = as_long cs in
    let whole : take (length (as_calls cs)) new ≡ new = take_all (length (as_calls cs)) new (omega (arith, long, e)) in
    let start = both_made (means host).page_count (means host).page_size (image_view before) in
    let listed = subst (λ es. never_answers rules (sizes_of start.moving) never_made es (tellings (take (length es) new)) ≡ without_all_counts (take (length es) new)) (ap (λ es. all_within (length before) es) same ∙ all_unlent (length before) cs) ran.1.as_if_nothing_moved in
    subst (λ xs. AsIfNothingMoved rules (means host) (as_calls cs) xs) whole listed
as_if_nothing_moved rules means refused host layout cs ds old new before behind (Err r) ok same long ran = absurd (false≢true ok)
