-- Both heaps side by side over lists of calls, and the first promise: answers as if nothing moved.
use Rattle.std.specs.Prelude.{◌≡◌, ℕ, Bool, true, false, ◌≢◌, List, [], ◌∷◌, ◌==◌}
use Rattle.layouts.specs.Layouts.{Rules}
use Rattle.std.specs.declared.option.Option.TheVariants as Option
use Rattle.model.specs.declared.calls.Answer.{Answer}
use Rattle.model.specs.declared.calls.Call.{Call}
use Rattle.model.specs.declared.calls.Call.TheVariants.{New, Load, Store, Copy, SetNumber, SetNil, Same, Tell, Count, Flip, Step, Take, Resolve, Mark, Save}
use Rattle.model.specs.Heap.{half_pages}
use Rattle.model.specs.Outcomes.{Machine, Told, told, without_counts}
use Rattle.model.specs.Calls.{moving_view, call, answers}
use Rattle.model.specs.Refusing.{refusal}
use Rattle.model.specs.Never.{Never, Sizes, never_call, never_answers}

-- the two heaps
pub record Both : Type 0 where
  pub moving : Machine
  pub never : Never

-- the sizes that the never-moving heap is fed
abbrev pub sizes_of : Machine → Sizes
sizes_of x = record { page_size = x.heap.memory.page_size; half_pages = half_pages x.heap.memory }

-- both after a call, the never-moving heap being told of the other's answer
abbrev pub both_after : Rules → Sizes → Both → Call → Both
both_after L z y c = record { moving = (call L y.moving c).left; never = (never_call L z y.never c (told (call L y.moving c).answer)).left }

-- both after a list of calls
abbrev pub both_after_all : Rules → Sizes → Both → List Call → Both
both_after_all L z y [] = y
both_after_all L z y (c ∷ cs) = both_after_all L z (both_after L z y c) cs

abbrev pub tellings : List Answer → List Told
tellings [] = []
tellings (a ∷ more) = told a ∷ tellings more

abbrev pub without_all_counts : List Answer → List Answer
without_all_counts [] = []
without_all_counts (a ∷ more) = without_counts a ∷ without_all_counts more

-- the call is not refused
abbrev pub Accepted : Rules → Machine → Call → Type 0
Accepted L x c = refusal (moving_view L x.heap) c ≡ Option.None

-- no call of the list that passes is accepted
abbrev pub NoneAccepted : Rules → (Call → Bool) → Machine → List Call → Type 0
NoneAccepted L passes x [] = Unit {0}
NoneAccepted L passes x (c ∷ cs) = (passes c ≡ true → refusal (moving_view L x.heap) c ≢ Option.None) × NoneAccepted L passes (call L x c).left cs

-- a RESOLVE for mutator m
abbrev pub is_resolve_of : ℕ → Call → Bool
is_resolve_of m (New k d r w) = false
is_resolve_of m (Load k d s i) = false
is_resolve_of m (Store k s i x) = false
is_resolve_of m (Copy k d f s) = false
is_resolve_of m (SetNumber k d n) = false
is_resolve_of m (SetNil k d) = false
is_resolve_of m (Same k a b) = false
is_resolve_of m (Tell k s) = false
is_resolve_of m Count = false
is_resolve_of m Flip = false
is_resolve_of m Step = false
is_resolve_of m (Take k) = false
is_resolve_of m (Resolve k p n) = k == m
is_resolve_of m (Mark n) = false
is_resolve_of m (Save n) = false

abbrev pub is_mark : Call → Bool
is_mark (New k d r w) = false
is_mark (Load k d s i) = false
is_mark (Store k s i x) = false
is_mark (Copy k d f s) = false
is_mark (SetNumber k d n) = false
is_mark (SetNil k d) = false
is_mark (Same k a b) = false
is_mark (Tell k s) = false
is_mark Count = false
is_mark Flip = false
is_mark Step = false
is_mark (Take k) = false
is_mark (Resolve k p n) = false
is_mark (Mark n) = true
is_mark (Save n) = false

-- Answers as if nothing moved: on every list of calls the moving heap answers as the never-moving one, which is told only
-- what trapped and on which page, which STEP ended and which SAVE sealed; counts of copied and scanned words apart
abbrev pub AnswersAsIfNothingMoved : Rules → Both → Type 0
AnswersAsIfNothingMoved L y = (cs : List Call) → never_answers L (sizes_of y.moving) y.never cs (tellings (answers L y.moving cs)) ≡ without_all_counts (answers L y.moving cs)
