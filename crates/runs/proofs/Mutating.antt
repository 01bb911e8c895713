-- The answers to the mutators' calls are as if nothing moved.
use Rattle.std.proofs.Common.{◌≡◌, ◌%◌, true, List, [], ◌∷◌, sym, refl, subst}
use Rattle.memory.specs.Memory.{Memory, legal_sizes}
use Rattle.layouts.specs.Layouts.{Rules, Lawful}
use Rattle.model.specs.Calls.{answers}
use Rattle.model.specs.declared.calls.Answer.{Answer}
use Rattle.theory.specs.Mutating.{is_mutator_call, OnlyMutatorCalls}
use Rattle.theory.proofs.FromMake.{mutators_answer_as_if_nothing_moved}
use Rattle.runs.specs.Lists.{as_call, as_calls, AsIfNothingMoved, made_on}
use Rattle.runs.specs.declared.lists.MutatorCall.{MutatorCall}
use Rattle.runs.specs.declared.lists.MutatorCall.TheVariants.{New, Load, Store, Copy, SetNumber, SetNil, Same, Tell, Count}

-- every call of such a list is a mutator's
one_mutator : (c : MutatorCall) → is_mutator_call (as_call c) ≡ true
one_mutator (New m d r w) = refl
one_mutator (Load m d s i) = refl
one_mutator (Store m s i x) = refl
one_mutator (Copy m d f s) = refl
one_mutator (SetNumber m d n) = refl
one_mutator (SetNil m d) = refl
one_mutator (Same m l r) = refl
one_mutator (Tell m s) = refl
one_mutator Count = refl

pub only_mutators : (cs : List MutatorCall) → OnlyMutatorCalls (as_calls cs)
only_mutators [] = tt
only_mutators (c ∷ cs) = (one_mutator c, only_mutators cs)

-- answers that are the moving heap's are those of the heap that never moves an object
pub as_if : (L : Rules) (m : Memory) (cs : List MutatorCall) (all : List Answer) → Lawful L → legal_sizes m.page_count m.page_size ≡ true → m.page_count % 2 ≡ 0 → all ≡ answers L (made_on m (λ j. 0)) (as_calls cs) → AsIfNothingMoved L m (as_calls cs) all
as_if L m cs all lawful sized even is =
    let agree = mutators_answer_as_if_nothing_moved L lawful m.page_count m.page_size sized even (λ j. 0) (as_calls cs) (only_mutators cs) in
    subst (AsIfNothingMoved L m (as_calls cs)) (sym is) agree
