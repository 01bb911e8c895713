-- Lists of the mutators' calls alone.
use Rattle.std.specs.Prelude.{◌≡◌, ℕ, ◌%◌, Bool, true, false, List, [], ◌∷◌}
use Rattle.memory.specs.Memory.{legal_sizes}
use Rattle.layouts.specs.Layouts.{Rules, Lawful}
use Rattle.model.specs.declared.calls.Call.{Call}
use Rattle.model.specs.declared.calls.Call.TheVariants.{New, Load, Store, Copy, SetNumber, SetNil, Same, Tell, Count, Flip, Step, Take, Resolve, Mark, Save}
use Rattle.model.specs.Outcomes.{Machine}
use Rattle.model.specs.Calls.{made, answers}
use Rattle.model.specs.Never.{never_made, never_answers}
use Rattle.model.specs.Runs.{sizes_of, tellings, without_all_counts}

-- no collection and no image is begun or goes on, and no fault is handed out or resolved
abbrev pub is_mutator_call : Call → Bool
is_mutator_call (New m d r w) = true
is_mutator_call (Load m d s i) = true
is_mutator_call (Store m s i x) = true
is_mutator_call (Copy m d f s) = true
is_mutator_call (SetNumber m d n) = true
is_mutator_call (SetNil m d) = true
is_mutator_call (Same m a b) = true
is_mutator_call (Tell m s) = true
is_mutator_call Count = true
is_mutator_call Flip = false
is_mutator_call Step = false
is_mutator_call (Take m) = false
is_mutator_call (Resolve m p n) = false
is_mutator_call (Mark n) = false
is_mutator_call (Save n) = false

abbrev pub OnlyMutatorCalls : List Call → Type 0
OnlyMutatorCalls [] = Unit {0}
OnlyMutatorCalls (c ∷ cs) = (is_mutator_call c ≡ true) × OnlyMutatorCalls cs

-- a heap as MAKE leaves it, with a buffer
abbrev pub made_with : ℕ → ℕ → (ℕ → ℕ) → Machine
made_with count size b = record { heap = made count size; buffer = b }

-- to the mutators' calls, on a heap of legal sizes with an even number of pages, the moving heap answers as the never-moving one
abbrev pub MutatorsAnswerAsIfNothingMoved : Type 0
MutatorsAnswerAsIfNothingMoved =
    (L : Rules) → Lawful L → (count size : ℕ) → legal_sizes count size ≡ true → count % 2 ≡ 0 → (b : ℕ → ℕ) (cs : List Call) → OnlyMutatorCalls cs →
    never_answers L (sizes_of (made_with count size b)) never_made cs (tellings (answers L (made_with count size b) cs)) ≡ without_all_counts (answers L (made_with count size b) cs)
