-- How long a collection may last.
use Rattle.std.specs.Prelude.{◌≡◌, ℕ, ◌+◌, ◌-◌, ◌/◌, ◌<◌, max}
use Rattle.theory.specs.Machine.{Shape, Machine, Never, view_m, refusal}
use Rattle.model.specs.declared.states.Phase.TheVariants.{Collecting}
use Rattle.model.specs.declared.calls.Call.{Call}
use Rattle.model.specs.declared.calls.Call.TheVariants.{New, Load, Store, Copy, SetNumber, SetNil, Same, Tell, Count, Flip as Turn, Step, Take, Resolve, Mark, Save}
use Rattle.theory.specs.Steps.{call, n_call}
use Rattle.theory.specs.Pairing.{Comes}

-- 1 for a STEP, else 0. (While collecting, no STEP is refused.)
abbrev pub steps : Call → ℕ
steps (New k d r w) = 0
steps (Load k d s i) = 0
steps (Store k s i x) = 0
steps (Copy k d f s) = 0
steps (SetNumber k d n) = 0
steps (SetNil k d) = 0
steps (Same k a b) = 0
steps (Tell k s) = 0
steps Count = 0
steps Turn = 0
steps Step = 1
steps (Take k) = 0
steps (Resolve k p n) = 0
steps (Mark n) = 0
steps (Save n) = 0

-- the states since a FLIP at m₀ and a₀, with the number of STEPs accepted since
pub data SteppingFrom (H : Shape) (m₀ : Machine) (a₀ : Never) : ℕ → Machine → Never → Type 0 where
  flips : refusal (view_m H m₀) Turn ≡ 0 → SteppingFrom H m₀ a₀ 0 (call H m₀ Turn).next (n_call H a₀ Turn (call H m₀ Turn).told).next
  goes : {n : ℕ} {m : Machine} {a : Never} → SteppingFrom H m₀ a₀ n m a → m.phase ≡ Collecting → (c : Call) → SteppingFrom H m₀ a₀ (n + steps c) (call H m c).next (n_call H a c (call H m c).told).next

-- whole pages that n words take, in pages
abbrev pub closed_pages_for : ℕ → ℕ → ℕ
closed_pages_for P n = (n + (P - 1)) / P

-- a collection that goes on has had fewer STEPs than the words reached take pages, or none
abbrev pub StepBoundFrom : Shape → Machine → Never → Type 0
StepBoundFrom H m₀ a₀ = (n : ℕ) (m : Machine) (a : Never) → SteppingFrom H m₀ a₀ n m a → m.phase ≡ Collecting → n < max 1 (closed_pages_for H.page a.l)

-- the states since a FLIP, with the number of STEPs accepted since
pub data Stepping (H : Shape) : ℕ → Machine → Never → Type 0 where
  flips : {m : Machine} {a : Never} → Comes H m a → refusal (view_m H m) Turn ≡ 0 → Stepping H 0 (call H m Turn).next (n_call H a Turn (call H m Turn).told).next
  goes : {n : ℕ} {m : Machine} {a : Never} → Stepping H n m a → m.phase ≡ Collecting → (c : Call) → Stepping H (n + steps c) (call H m c).next (n_call H a c (call H m c).told).next

-- a collection that goes on has had fewer STEPs than the words reached take pages, or none
abbrev pub StepBound : Shape → Type 0
StepBound H = (n : ℕ) (m : Machine) (a : Never) → Stepping H n m a → m.phase ≡ Collecting → n < max 1 (closed_pages_for H.page a.l)
