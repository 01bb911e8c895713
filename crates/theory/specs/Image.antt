-- The image of a state, when it is sealed, and how long that may take.
use Rattle.std.specs.Prelude.{◌≡◌, ℕ, ◌+◌, ◌<◌, Bool, cond, ◌||◌, List, ◌==◌, nat_le, nat_lt}
use Rattle.theory.specs.Machine.{Shape, half, Machine, view_m, refusal}
use Rattle.model.specs.declared.states.Phase.TheVariants.{Imaging}
use Rattle.model.specs.declared.calls.Call.{Call}
use Rattle.model.specs.declared.calls.Call.TheVariants.{New, Load, Store, Copy, SetNumber, SetNil, Same, Tell, Count, Flip as Turn, Step, Take, Resolve, Mark, Save}
use Rattle.model.specs.Outcomes.{Told.sealed}
use Rattle.theory.specs.Buffer.{closed_head_word, word_for}
use Rattle.theory.specs.Steps.{call, fresh_m}
use Rattle.theory.specs.Runs.{after, Quiet, marks}

-- the word at x is used
abbrev pub used_at : Machine → ℕ → Bool
used_at m x = nat_lt x m.st.top || nat_le m.st.low x

-- the sealed image of a state
abbrev pub image_word : Shape → Machine → ℕ → ℕ
image_word H m j = cond (j == 0) H.page (cond (nat_lt j 70) (closed_head_word H m j) (cond (used_at m (word_for H m.side j)) (m.st.mem (word_for H m.side j)) 0))

-- MARK at m₀ and a SAVE that seals, with no MARK accepted between or after: the buffer holds the image of m₀
abbrev pub ImageSealedFrom : Shape → Machine → Type 0
ImageSealedFrom H start = (xs ys zs : List Call) (n n₂ : ℕ) →
    (m₀ : Machine) → m₀ ≡ after H start xs → refusal (view_m H m₀) (Mark n) ≡ 0 →
    (m₁ : Machine) → m₁ ≡ after H (call H m₀ (Mark n)).next ys → Quiet H marks (call H m₀ (Mark n)).next ys → (call H m₁ (Save n₂)).told ≡ sealed →
    (m₂ : Machine) → m₂ ≡ after H (call H m₁ (Save n₂)).next zs → Quiet H marks (call H m₁ (Save n₂)).next zs →
    (j : ℕ) → j < 70 + half H → m₂.buf j ≡ image_word H m₀ j

-- 1 for a SAVE that is accepted, else 0
abbrev pub saves : Shape → Machine → Call → ℕ
saves H m (New k d r w) = 0
saves H m (Load k d s i) = 0
saves H m (Store k s i x) = 0
saves H m (Copy k d f s) = 0
saves H m (SetNumber k d n) = 0
saves H m (SetNil k d) = 0
saves H m (Same k a b) = 0
saves H m (Tell k s) = 0
saves H m Count = 0
saves H m Turn = 0
saves H m Step = 0
saves H m (Take k) = 0
saves H m (Resolve k p n) = 0
saves H m (Mark n) = 0
saves H m (Save n) = cond (refusal (view_m H m) (Save n) == 0) 1 0

-- the states since a MARK, of whatever state, while imaging, with the number of SAVEs accepted since
pub data Saving (H : Shape) : ℕ → Machine → Type 0 where
  begun : (m₀ : Machine) (n : ℕ) → refusal (view_m H m₀) (Mark n) ≡ 0 → Saving H 0 (call H m₀ (Mark n)).next
  goes : {k : ℕ} {m : Machine} → Saving H k m → m.phase ≡ Imaging → (c : Call) → Saving H (k + saves H m c) (call H m c).next

-- an image under way has had fewer SAVEs than a half has pages
abbrev pub SealBound : Shape → Type 0
SealBound H = (n : ℕ) (m : Machine) → Saving H n m → m.phase ≡ Imaging → n < H.pages

-- MARK at m₀ and a SAVE that seals, with no MARK accepted between or after: the buffer holds the image of m₀
abbrev pub ImageSealed : Shape → Type 0
ImageSealed H = (lent : ℕ → ℕ) (xs ys zs : List Call) (n n₂ : ℕ) →
    (m₀ : Machine) → m₀ ≡ after H (fresh_m H lent) xs → refusal (view_m H m₀) (Mark n) ≡ 0 →
    (m₁ : Machine) → m₁ ≡ after H (call H m₀ (Mark n)).next ys → Quiet H marks (call H m₀ (Mark n)).next ys → (call H m₁ (Save n₂)).told ≡ sealed →
    (m₂ : Machine) → m₂ ≡ after H (call H m₁ (Save n₂)).next zs → Quiet H marks (call H m₁ (Save n₂)).next zs →
    (j : ℕ) → j < 70 + half H → m₂.buf j ≡ image_word H m₀ j
