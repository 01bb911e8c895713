-- Lists of calls, and what stands between a trap and its repeat.
use Rattle.std.specs.Prelude.{◌≡◌, ℕ, ◌+◌, ◌*◌, ◌<◌, ◌≤◌, Bool, true, ◌||◌, ◌≢◌, List, [], ◌∷◌}
use Rattle.theory.specs.Machine.{Shape, Machine, trapped, view_m, refusal}
use Rattle.model.specs.declared.states.Phase.{Phase}
use Rattle.model.specs.declared.states.Phase.TheVariants.{Idle, Collecting, Imaging}
use Rattle.model.specs.declared.calls.Call.{Call}
use Rattle.model.specs.declared.calls.Call.TheVariants.{New, Load, Store, Copy, SetNumber, SetNil, Same, Tell, Count, Flip as Turn, Step, Take, Resolve, Mark, Save}
use Rattle.model.specs.Runs.{is_resolve_of, is_mark}
use Rattle.theory.specs.Steps.{call, fresh_m}

-- the state after a list of calls
abbrev pub after : Shape → Machine → List Call → Machine
after H m [] = m
after H m (c ∷ cs) = after H (call H m c).next cs

-- no call that passes is accepted
abbrev pub Quiet : Shape → (Call → Bool) → Machine → List Call → Type 0
Quiet H f m [] = Unit {0}
Quiet H f m (c ∷ cs) = (f c ≡ true → refusal (view_m H m) c ≢ 0) × Quiet H f (call H m c).next cs

-- a RESOLVE of mutator k
abbrev pub resolves : ℕ → Call → Bool
resolves k c = is_resolve_of k c

abbrev pub marks : Call → Bool
marks c = is_mark c

-- a LOAD or STORE by mutator k of slot i of the object in its register s
pub data Accesses (k s i : ℕ) : Call → Type 0 where
  loads : (d : ℕ) → Accesses k s i (Load k d s i)
  stores : (x : ℕ) → Accesses k s i (Store k s i x)

-- from a start, the calls xs, then a LOAD or STORE c that traps on p, then ys with no RESOLVE of its mutator accepted, then one accepted: c does not trap again
abbrev pub AccessRepeatsFrom : Shape → Machine → Type 0
AccessRepeatsFrom H start = (xs ys : List Call) (c : Call) (k s i p n : ℕ) → Accesses k s i c →
    (m₀ : Machine) → m₀ ≡ after H start xs → (call H m₀ c).answer ≡ trapped p →
    (m₁ : Machine) → m₁ ≡ after H (call H m₀ c).next ys → Quiet H (resolves k) (call H m₀ c).next ys → refusal (view_m H m₁) (Resolve k p n) ≡ 0 →
    (q : ℕ) → (call H (call H m₁ (Resolve k p n)).next c).answer ≢ trapped q

-- a NEW that traps again next after its RESOLVE, no MARK having been accepted since its first trap, does not trap a third time
abbrev pub NewRepeatsFrom : Shape → Machine → Type 0
NewRepeatsFrom H start = (xs ys zs : List Call) (k d r w p p₂ n n₂ : ℕ) →
    (m₀ : Machine) → m₀ ≡ after H start xs → (call H m₀ (New k d r w)).answer ≡ trapped p →
    (m₁ : Machine) → m₁ ≡ after H (call H m₀ (New k d r w)).next ys → Quiet H (λ c. resolves k c || marks c) (call H m₀ (New k d r w)).next ys → refusal (view_m H m₁) (Resolve k p n) ≡ 0 →
    (m₂ : Machine) → m₂ ≡ (call H m₁ (Resolve k p n)).next → (call H m₂ (New k d r w)).answer ≡ trapped p₂ →
    (m₃ : Machine) → m₃ ≡ after H (call H m₂ (New k d r w)).next zs → Quiet H (λ c. resolves k c || marks c) (call H m₂ (New k d r w)).next zs → refusal (view_m H m₃) (Resolve k p₂ n₂) ≡ 0 →
    (q : ℕ) → (call H (call H m₃ (Resolve k p₂ n₂)).next (New k d r w)).answer ≢ trapped q

-- the phase in which a call can trap: LOAD while collecting, STORE while collecting or imaging, NEW while imaging
abbrev pub TrapsIn : Phase → Call → Type 0
TrapsIn ph (New j d r w) = ph ≡ Imaging
TrapsIn ph (Load j d s i) = ph ≡ Collecting
TrapsIn ph (Store j s i x) = ph ≢ Idle
TrapsIn ph (Copy j d f s) = ⊥
TrapsIn ph (SetNumber j d n) = ⊥
TrapsIn ph (SetNil j d) = ⊥
TrapsIn ph (Same j a b) = ⊥
TrapsIn ph (Tell j s) = ⊥
TrapsIn ph Count = ⊥
TrapsIn ph Turn = ⊥
TrapsIn ph Step = ⊥
TrapsIn ph (Take j) = ⊥
TrapsIn ph (Resolve j p n) = ⊥
TrapsIn ph (Mark n) = ⊥
TrapsIn ph (Save n) = ⊥

-- and its page lies in to-space
abbrev pub TrapsWhenFrom : Shape → Machine → Type 0
TrapsWhenFrom H start = (xs : List Call) (c : Call) (p : ℕ) (m : Machine) → m ≡ after H start xs → (call H m c).answer ≡ trapped p → (TrapsIn m.phase c) × (m.side * H.pages ≤ p) × (p < m.side * H.pages + H.pages)

-- the calls xs, then a LOAD or STORE c that traps on p, then ys with no RESOLVE of its mutator accepted, then one accepted: c does not trap again
abbrev pub AccessRepeats : Shape → Type 0
AccessRepeats H = (lent : ℕ → ℕ) (xs ys : List Call) (c : Call) (k s i p n : ℕ) → Accesses k s i c →
    (m₀ : Machine) → m₀ ≡ after H (fresh_m H lent) xs → (call H m₀ c).answer ≡ trapped p →
    (m₁ : Machine) → m₁ ≡ after H (call H m₀ c).next ys → Quiet H (resolves k) (call H m₀ c).next ys → refusal (view_m H m₁) (Resolve k p n) ≡ 0 →
    (q : ℕ) → (call H (call H m₁ (Resolve k p n)).next c).answer ≢ trapped q

-- a NEW that traps again next after its RESOLVE, no MARK having been accepted since its first trap, does not trap a third time
abbrev pub NewRepeats : Shape → Type 0
NewRepeats H = (lent : ℕ → ℕ) (xs ys zs : List Call) (k d r w p p₂ n n₂ : ℕ) →
    (m₀ : Machine) → m₀ ≡ after H (fresh_m H lent) xs → (call H m₀ (New k d r w)).answer ≡ trapped p →
    (m₁ : Machine) → m₁ ≡ after H (call H m₀ (New k d r w)).next ys → Quiet H (λ c. resolves k c || marks c) (call H m₀ (New k d r w)).next ys → refusal (view_m H m₁) (Resolve k p n) ≡ 0 →
    (m₂ : Machine) → m₂ ≡ (call H m₁ (Resolve k p n)).next → (call H m₂ (New k d r w)).answer ≡ trapped p₂ →
    (m₃ : Machine) → m₃ ≡ after H (call H m₂ (New k d r w)).next zs → Quiet H (λ c. resolves k c || marks c) (call H m₂ (New k d r w)).next zs → refusal (view_m H m₃) (Resolve k p₂ n₂) ≡ 0 →
    (q : ℕ) → (call H (call H m₃ (Resolve k p₂ n₂)).next (New k d r w)).answer ≢ trapped q

-- and its page lies in to-space
abbrev pub TrapsWhen : Shape → Type 0
TrapsWhen H = (lent : ℕ → ℕ) (xs : List Call) (c : Call) (p : ℕ) (m : Machine) → m ≡ after H (fresh_m H lent) xs → (call H m c).answer ≡ trapped p → (TrapsIn m.phase c) × (m.side * H.pages ≤ p) × (p < m.side * H.pages + H.pages)
