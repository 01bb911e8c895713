-- The third promise: a call whose fault was resolved goes on.
use Rattle.std.specs.Prelude.{◌≡◌, ℕ, ◌||◌, ◌≢◌, List}
use Rattle.layouts.specs.Layouts.{Rules}
use Rattle.model.specs.declared.calls.Answer.TheVariants.{Trapped}
use Rattle.model.specs.declared.calls.Call.{Call}
use Rattle.model.specs.declared.calls.Call.TheVariants.{New, Load, Store, Resolve}
use Rattle.model.specs.Outcomes.{Machine}
use Rattle.model.specs.Calls.{call, after}
use Rattle.model.specs.Runs.{Accepted, NoneAccepted, is_resolve_of, is_mark}

-- a LOAD or STORE by mutator m
pub data IsAccess (m : ℕ) : Call → Type 0 where
  loads : (d s i : ℕ) → IsAccess m (Load m d s i)
  stores : (s i x : ℕ) → IsAccess m (Store m s i x)

-- A LOAD or STORE that trapped on page p and is repeated next after the RESOLVE of its fault does not trap
abbrev pub AccessesGoOn : Rules → Machine → Type 0
AccessesGoOn L x₀ =
    (xs ys : List Call) (c : Call) (m p n : ℕ) → IsAccess m c →
    (x : Machine) → x ≡ after L x₀ xs → (call L x c).answer ≡ Trapped p →
    (y : Machine) → y ≡ after L (call L x c).left ys → NoneAccepted L (is_resolve_of m) (call L x c).left ys → Accepted L y (Resolve m p n) →
    (q : ℕ) → (call L (call L y (Resolve m p n)).left c).answer ≢ Trapped q

-- A NEW may trap once more when it is so repeated, and not twice running, unless a MARK was accepted since its first trap
abbrev pub NewsGoOn : Rules → Machine → Type 0
NewsGoOn L x₀ =
    (xs ys zs : List Call) (m d r w p p₂ n n₂ : ℕ) →
    (x : Machine) → x ≡ after L x₀ xs → (call L x (New m d r w)).answer ≡ Trapped p →
    (y : Machine) → y ≡ after L (call L x (New m d r w)).left ys → NoneAccepted L (λ c. is_resolve_of m c || is_mark c) (call L x (New m d r w)).left ys → Accepted L y (Resolve m p n) →
    (y₂ : Machine) → y₂ ≡ (call L y (Resolve m p n)).left → (call L y₂ (New m d r w)).answer ≡ Trapped p₂ →
    (z : Machine) → z ≡ after L (call L y₂ (New m d r w)).left zs → NoneAccepted L (λ c. is_resolve_of m c || is_mark c) (call L y₂ (New m d r w)).left zs → Accepted L z (Resolve m p₂ n₂) →
    (q : ℕ) → (call L (call L z (Resolve m p₂ n₂)).left (New m d r w)).answer ≢ Trapped q

abbrev pub ResolvedCallsGoOn : Rules → Machine → Type 0
ResolvedCallsGoOn L x₀ = AccessesGoOn L x₀ × NewsGoOn L x₀
