-- The fourth promise: an image restores its moment, and a restored heap writes its image again.
use Rattle.std.specs.Prelude.{◌≡◌, ℕ, zero, suc, ◌+◌, ◌<◌, ◌≤◌, Bool, true, ◌||◌, List, [], ◌∷◌, nat_le, nat_lt}
use Rattle.memory.specs.Memory.{Memory}
use Rattle.layouts.specs.Layouts.{Rules}
use Rattle.std.specs.declared.option.Option.TheVariants as Option
use Rattle.model.specs.declared.calls.Answer.{Answer}
use Rattle.model.specs.declared.calls.Answer.TheVariants.{Refused, Trapped, Done, Same, Kind, Count, Fault, Copied, Scanned, Stepped, Saved}
use Rattle.model.specs.declared.calls.Call.{Call}
use Rattle.model.specs.declared.calls.Call.TheVariants.{Mark, Save}
use Rattle.model.specs.declared.states.Phase.TheVariants.{Imaging}
use Rattle.model.specs.Heap.{Heap, half_pages, to_start, to_stop}
use Rattle.model.specs.Images.{image_words}
use Rattle.model.specs.Restoring.{restored, restore_refusal}
use Rattle.model.specs.Outcomes.{Machine, told, Told.sealed}
use Rattle.model.specs.Calls.{call, after}
use Rattle.model.specs.Runs.{Accepted, NoneAccepted, is_mark}

-- 1 for a SAVE that was accepted, by its answer
abbrev pub save_in : Answer → ℕ
save_in (Refused e) = 0
save_in (Trapped p) = 0
save_in Done = 0
save_in (Same b) = 0
save_in (Kind k) = 0
save_in (Count n) = 0
save_in (Fault p) = 0
save_in (Copied n) = 0
save_in (Scanned s n) = 0
save_in (Stepped e s n) = 0
save_in (Saved e) = 1

-- the moments of an image: since a MARK, with the SAVEs accepted since
pub data SinceMark (L : Rules) (x : Machine) : ℕ → Machine → Type 0 where
  marks : (n : ℕ) → Accepted L x (Mark n) → SinceMark L x 0 (call L x (Mark n)).left
  goes_on : {k : ℕ} {y : Machine} → SinceMark L x k y → y.heap.phase ≡ Imaging → (c : Call) → SinceMark L x (k + save_in (call L y c).answer) (call L y c).left

-- An image is sealed no later than at the accepted SAVE with the number of a half's pages
abbrev pub ImagesAreSealed : Rules → Machine → Type 0
ImagesAreSealed L x₀ = (xs : List Call) (k : ℕ) (x y : Machine) → x ≡ after L x₀ xs → SinceMark L x k y → y.heap.phase ≡ Imaging → k < half_pages y.heap.memory

-- the word at a is used
abbrev pub is_used : Heap → ℕ → Bool
is_used h a = nat_lt a h.space.copy_end || nat_le h.new_start a

-- g has the used words, half, copied and new words and registers of h
pub record SameContents (h g : Heap) : Type 0 where
  pub half : g.half ≡ h.half
  pub copied : g.space.copy_end ≡ h.space.copy_end
  pub new : g.new_start ≡ h.new_start
  pub registers : (k : ℕ) → k < 32 → g.register k ≡ h.register k
  pub words : (a : ℕ) → to_start h ≤ a → a < to_stop h → is_used h a ≡ true → g.memory.word a ≡ h.memory.word a

-- A sealed image is accepted on every host of its size, and the heap made of it has the contents of the heap at its MARK
abbrev pub ImagesRestoreTheirMoment : Rules → Machine → Type 0
ImagesRestoreTheirMoment L x₀ =
    (xs ys zs : List Call) (n n₂ : ℕ) →
    (x : Machine) → x ≡ after L x₀ xs → Accepted L x (Mark n) →
    (y : Machine) → y ≡ after L (call L x (Mark n)).left ys → NoneAccepted L is_mark (call L x (Mark n)).left ys → told (call L y (Save n₂)).answer ≡ sealed →
    (w : Machine) → w ≡ after L (call L y (Save n₂)).left zs → NoneAccepted L is_mark (call L y (Save n₂)).left zs →
    (m : Memory) → m.page_size ≡ x.heap.memory.page_size → m.page_count ≡ x.heap.memory.page_count →
    (k : ℕ) → image_words m ≤ k → (restore_refusal L m k w.buffer ≡ Option.None) × SameContents x.heap (restored m w.buffer)

-- n SAVEs, each lent so many words
abbrev pub saves : ℕ → ℕ → List Call
saves zero lent = []
saves (suc n) lent = Save lent ∷ saves n lent

-- A restored heap writes its image again: a MARK and as many SAVEs as a half has pages, into any buffer, leave the accepted
-- words there
abbrev pub RestoredHeapsWriteTheirImage : Rules → Memory → Type 0
RestoredHeapsWriteTheirImage L m =
    (b other : ℕ → ℕ) (k n : ℕ) → restore_refusal L m k b ≡ Option.None → image_words m ≤ n →
    (j : ℕ) → j < image_words m → (after L (record { heap = restored m b; buffer = other }) (Mark n ∷ saves (half_pages m) n)).buffer j ≡ b j
