-- What carrying out a list of calls answers.
use Rattle.std.specs.Prelude.{◌≡◌, ℕ, ◌%◌, ◌<◌, ◌≤◌, Bool, true, false, ◌&&◌, List, map, length, take, drop, Ok, Err, Result, ◌==◌, nat_lt}
use Rattle.memory.specs.Memory.{Memory}
use Rattle.memory.specs.declared.refusals.Refusal.TheVariants.{Size, Short}
use Rattle.memory.specs.declared.refusals.Rejected.{Rejected}
use Rattle.layouts.specs.Layouts.{Rules}
use Rattle.model.specs.declared.calls.Answer.{Answer}
use Rattle.model.specs.declared.calls.Call.{Call}
use Rattle.model.specs.Outcomes.{Machine}
use Rattle.model.specs.Calls.{made, after, answers}
use Rattle.model.specs.Heap.{half_pages}
use Rattle.model.specs.Never.{never_made, never_answers}
use Rattle.model.specs.Runs.{tellings, without_all_counts}
use Rattle.runs.specs.declared.lists.MutatorCall.{MutatorCall}
use Rattle.runs.specs.declared.lists.MutatorCall.TheVariants.{New, Load, Store, Copy, SetNumber, SetNil, Same, Tell, Count}

-- the call as the definitions of both heaps have it
abbrev pub as_call : MutatorCall → Call
as_call (New m d r w) = Call.New m d r w
as_call (Load m d s i) = Call.Load m d s i
as_call (Store m s i x) = Call.Store m s i x
as_call (Copy m d f s) = Call.Copy m d f s
as_call (SetNumber m d n) = Call.SetNumber m d n
as_call (SetNil m d) = Call.SetNil m d
as_call (Same m l r) = Call.Same m l r
as_call (Tell m s) = Call.Tell m s
as_call Count = Call.Count

abbrev pub as_calls : List MutatorCall → List Call
as_calls cs = map as_call cs

-- an even page count, and fewer places for answers than calls
abbrev pub lacks_places : Memory → ℕ → ℕ → Bool
lacks_places m places calls = m.page_count % 2 == 0 && nat_lt places calls

-- Answers as if nothing moved: to these calls they are the answers of the heap that never moves an object, being told only
-- of what trapped, and on which page
abbrev pub AsIfNothingMoved : Rules → Memory → List Call → List Answer → Type 0
AsIfNothingMoved L m cs xs = never_answers L (record { page_size = m.page_size; half_pages = half_pages m }) never_made cs (tellings xs) ≡ without_all_counts xs

-- the moving heap as made on a host that means m, with a buffer
abbrev pub made_on : Memory → (ℕ → ℕ) → Machine
made_on m b = record { heap = made m.page_count m.page_size; buffer = b }

module _ {H L : Type 0} (means : H → Memory) where
  -- host and layout back, refused or not for want of places
  abbrev pub HasPlaces : H → L → ℕ → ℕ → Result (H × L) (Rejected (H × L)) → Type 0
  HasPlaces host layout calls places (Ok p) = (lacks_places (means host) places calls ≡ false) × (p ≡ (host, layout))
  HasPlaces host layout calls places (Err e) = (lacks_places (means host) places calls ≡ true) × (e.refusal ≡ Short) × (e.given ≡ (host, layout))

module _ {H L : Type 0} (rules : Rules) (means : H → Memory) where
  -- All calls carried out. old and new are the places for answers, before and after: the first of them have the answers, which
  -- are the moving heap's and as if nothing moved, and the others are as they were. Host h comes back with the heap's memory.
  pub record CarriedOut (host : H) (layout : L) (cs : List Call) (old new : List Answer) (h : H) (l : L) : Type 0 where
    pub even : (means host).page_count % 2 ≡ 0
    pub places : length cs ≤ length old
    pub answered : (b : ℕ → ℕ) → take (length cs) new ≡ answers rules (made_on (means host) b) cs
    pub as_if_nothing_moved : AsIfNothingMoved rules (means host) cs (take (length cs) new)
    pub others : drop (length cs) new ≡ drop (length cs) old
    pub memory : (b : ℕ → ℕ) → means h ≡ (after rules (made_on (means host) b) cs).heap.memory
    pub layout_back : l ≡ layout

  -- nothing carried out: for an odd page count, else for want of places
  pub record Declined (host : H) (layout : L) (cs : List Call) (old new : List Answer) (e : Rejected (H × L)) : Type 0 where
    pub odd : (means host).page_count % 2 ≡ 1 → e.refusal ≡ Size
    pub short : (means host).page_count % 2 ≡ 0 → (e.refusal ≡ Short) × (length old < length cs)
    pub back : e.given ≡ (host, layout)
    pub same : new ≡ old

  abbrev pub Ran : H → L → List MutatorCall → List Answer → List Answer → Result (H × L) (Rejected (H × L)) → Type 0
  Ran host layout cs old new (Ok p) = CarriedOut host layout (as_calls cs) old new p.0 p.1
  Ran host layout cs old new (Err e) = Declined host layout (as_calls cs) old new e
