-- What a call makes of the words that it is lent.
use Rattle.std.specs.Prelude.{◌≡◌, ℕ, ◌<◌, ◌≤◌, Bool, true, false, cond, List, length, Ok, Err, Result, nat_lt, slice_index}
use Rattle.memory.specs.Memory.{Memory}
use Rattle.memory.specs.declared.refusals.Refusal.{Refusal}
use Rattle.memory.specs.declared.refusals.Refusal.TheVariants.{Short}
use Rattle.layouts.specs.Layouts.{Rules}
use Rattle.model.specs.Heap.{Heap as Model}
use Rattle.model.specs.Outcomes.{Machine, outcome}
use Rattle.model.specs.Images.{image_words, page_saved}
use Rattle.model.specs.Calls.{call}
use Rattle.model.specs.declared.calls.Answer.{Answer}
use Rattle.model.specs.declared.calls.Call.{Call}
use Rattle.state.specs.View.{state_of}
use Rattle.state.specs.declared.plain_state.Plain.{Plain}
use Rattle.images.specs.declared.saving.Seal.{Seal}
use Rattle.images.specs.declared.saving.Seal.TheVariants.{Going, Sealed}

-- a buffer: the words that a call is lent, and whatever lies behind them
abbrev pub lent : List ℕ → (ℕ → ℕ) → ℕ → ℕ
lent xs b j = cond (nat_lt j (length xs)) (slice_index xs j) (b j)

abbrev pub machine : Model → List ℕ → (ℕ → ℕ) → Machine
machine h xs b = record { heap = h; buffer = lent xs b }

-- the lent words old become new by f, whatever lies behind them
abbrev pub Rewritten : ((ℕ → ℕ) → ℕ → ℕ) → List ℕ → List ℕ → Type 0
Rewritten f old new = (b : ℕ → ℕ) → lent new b ≡ f (lent old b)

-- the call takes the heap h to g and the lent words old to new, with this answer, whatever lies behind them
abbrev pub Writes : Rules → Model → List ℕ → Call → Model → List ℕ → Answer → Type 0
Writes L h old c g new a = (b : ℕ → ℕ) → call L (machine h old b) c ≡ outcome (machine g new b) a

abbrev pub done_answer : Result (Unit {0}) Refusal → Answer
done_answer (Ok u) = Answer.Done
done_answer (Err e) = Answer.Refused e

abbrev pub is_sealed : Seal → Bool
is_sealed Going = false
is_sealed Sealed = true

abbrev pub save_answer : Result Seal Refusal → Answer
save_answer (Ok s) = Answer.Saved (is_sealed s)
save_answer (Err e) = Answer.Refused e

-- page p is saved, if it is unsaved
abbrev pub saved_if_unsaved : Machine → ℕ → Machine
saved_if_unsaved x p = cond (x.heap.unsaved p) (page_saved x p) x

-- a page is saved if it is unsaved; or the buffer is too short, and nothing changes
abbrev pub SavesPage : Memory → Plain → List ℕ → ℕ → Memory → Plain → List ℕ → Result (Unit {0}) Refusal → Type 0
SavesPage m x old p n y new (Ok u) = (image_words m ≤ length old) × ((b : ℕ → ℕ) → machine (state_of n y) new b ≡ saved_if_unsaved (machine (state_of m x) old b) p)
SavesPage m x old p n y new (Err e) = (e ≡ Short) × (length old < image_words m) × (n ≡ m) × (y ≡ x) × (new ≡ old)
