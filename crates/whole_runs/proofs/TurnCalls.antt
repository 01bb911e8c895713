-- The calls by what carries them out.
use Rattle.std.proofs.Common.{◌≡◌, ℕ, false, List, sym, refl, ap, ◌∙◌, subst}
use Rattle.layouts.specs.Layouts.{Rules}
use Rattle.model.specs.declared.calls.Answer.{Answer}
use Rattle.model.specs.declared.calls.Call.{Call}
use Rattle.model.specs.Heap.{Heap as Model}
use Rattle.runs.specs.Lists.{as_call}
use Rattle.runs.specs.declared.lists.MutatorCall.{MutatorCall}
use Rattle.runs.specs.declared.lists.MutatorCall.TheVariants.{New, Load, Store, Copy, SetNumber, SetNil, Same, Tell, Count}
use Rattle.whole_runs.specs.Calls.{turn_call}
use Rattle.whole_runs.specs.Lists.{Carries}
use Rattle.whole_runs.specs.declared.turns.Turn.{Turn}
use Rattle.whole_runs.proofs.Hands.{is_fault_call}

-- a mutator's call hands no fault out or back
pub no_fault : (c : MutatorCall) → is_fault_call (as_call c) ≡ false
no_fault (New m d r w) = refl
no_fault (Load m d s i) = refl
no_fault (Store m s i x) = refl
no_fault (Copy m d f s) = refl
no_fault (SetNumber m d k) = refl
no_fault (SetNil m d) = refl
no_fault (Same m l r) = refl
no_fault (Tell m s) = refl
no_fault Count = refl

-- a call that is carried out as a turn says
pub turned : (L : Rules) (h g : Model) (xs ys : List ℕ) (c : Call) (t u : Turn) (a : Answer) → turn_call t ≡ c → t ≡ u → Carries L h xs (turn_call u) g ys a → Carries L h xs c g ys a
turned L h g xs ys c t u a of is did = subst (λ q. Carries L h xs q g ys a) (sym (ap turn_call is) ∙ of) did
