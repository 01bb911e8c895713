-- What a collection does, from its FLIP to the STEP that ends it.
use Rattle.std.specs.Prelude.{◌≡◌, ℕ, suc, ◌+◌, ◌*◌, ◌/◌, ◌<◌, ◌≤◌, Bool, true, ◌≢◌, ◌⊎◌}
use Rattle.theory.specs.Model.{map_v}
use Rattle.theory.specs.Collect.{size, Clear}
use Rattle.theory.specs.Reach.{reaches}
use Rattle.theory.specs.Machine.{Shape, half, Machine, Never, view_m, refusal}
use Rattle.model.specs.declared.states.Phase.TheVariants.{Collecting}
use Rattle.model.specs.declared.calls.Call.{Call}
use Rattle.model.specs.declared.calls.Call.TheVariants.{Flip as Turn, Step}
use Rattle.model.specs.Outcomes.{Told.ended}
use Rattle.theory.specs.Steps.{call, n_call, fresh_m, fresh_a}

-- the states since a FLIP at m₀ and a₀, with the words that the calls said to be copied and scanned
pub data SinceFrom (H : Shape) (m₀ : Machine) (a₀ : Never) : ℕ → ℕ → Machine → Never → Type 0 where
  flips : refusal (view_m H m₀) Turn ≡ 0 → SinceFrom H m₀ a₀ (call H m₀ Turn).copied (call H m₀ Turn).scanned (call H m₀ Turn).next (n_call H a₀ Turn (call H m₀ Turn).told).next
  goes : {co sc : ℕ} {m : Machine} {a : Never} → SinceFrom H m₀ a₀ co sc m a → m.phase ≡ Collecting → (c : Call) → SinceFrom H m₀ a₀ (co + (call H m c).copied) (sc + (call H m c).scanned) (call H m c).next (n_call H a c (call H m c).told).next

-- the pairing of objects with places
pub record Paired (H : Shape) (a₀ : Never) (m : Machine) (a : Never) : Type 0 where
  pub live : ℕ → Bool
  pub to : ℕ → ℕ
  -- a copied object is of a place that FLIP's registers reached, and each copied word is of one
  pub copied : (p : ℕ) → live p ≡ true → p < a₀.heap.many → (reaches H.lay a₀.heap 32 a₀.reg p ≡ true) × (m.side * half H ≤ to p) × (to p + size H.lay a.heap p ≤ m.st.top)
  pub covered : (x : ℕ) → m.side * half H ≤ x → x < m.st.top → (p : ℕ) × (live p ≡ true) × (p < a₀.heap.many) × (to p ≤ x) × (x < to p + size H.lay a.heap p)
  -- a new one is of a NEW since
  pub news : (p : ℕ) → a₀.heap.many ≤ p → (live p ≡ true → p < a.heap.many) × (p < a.heap.many → live p ≡ true)
  pub new : (p : ℕ) → live p ≡ true → a₀.heap.many ≤ p → (m.st.low ≤ to p) × (to p + size H.lay a.heap p ≤ m.side * half H + half H)
  -- one to one
  pub apart : (p q : ℕ) → live p ≡ true → live q ≡ true → p ≢ q → Clear (to p) (size H.lay a.heap p) (to q) (size H.lay a.heap q)
  -- what agrees
  pub header : (p : ℕ) → live p ≡ true → m.st.mem (to p) ≡ a.heap.hdr p
  pub registers : (k : ℕ) → k < 32 → m.reg k ≡ map_v to (a.reg k)
  pub slots : (p i : ℕ) → live p ≡ true → i < H.lay.slots (a.heap.hdr p) → (a₀.heap.many ≤ p) ⊎ (to p + suc i < m.scan ((to p + suc i) / H.page)) → H.lay.unpack (a.heap.hdr p) i (m.st.mem (to p + suc i)) ≡ map_v to (a.heap.val p i)

-- the STEP that ends leaves no reached place unpaired, and the counts add up
pub record Ends (H : Shape) (a₀ : Never) (co sc : ℕ) (m : Machine) (a : Never) : Type 0 where
  pub paired : Paired H a₀ m a
  pub all : (p : ℕ) → reaches H.lay a₀.heap 32 a₀.reg p ≡ true → paired.live p ≡ true
  pub copied : co ≡ a.l
  pub scanned : sc ≡ a.l

-- a collection from a FLIP at m₀ and a₀
abbrev pub CollectsFrom : Shape → Machine → Never → Type 0
CollectsFrom H m₀ a₀ = (co sc : ℕ) (m : Machine) (a : Never) → SinceFrom H m₀ a₀ co sc m a → m.phase ≡ Collecting →
    (Paired H a₀ m a) × ((call H m Step).told ≡ ended → Ends H a₀ (co + (call H m Step).copied) (sc + (call H m Step).scanned) (call H m Step).next (n_call H a Step ended).next)

-- the states that calls lead to from MAKE, on both sides
pub data Comes (H : Shape) : Machine → Never → Type 0 where
  made : (lent : ℕ → ℕ) → Comes H (fresh_m H lent) fresh_a
  called : {m : Machine} {a : Never} → Comes H m a → (c : Call) → Comes H (call H m c).next (n_call H a c (call H m c).told).next

-- those since a FLIP at a₀, with the words that the calls said to be copied and scanned
pub data Since (H : Shape) (a₀ : Never) : ℕ → ℕ → Machine → Never → Type 0 where
  flips : {m : Machine} → Comes H m a₀ → refusal (view_m H m) Turn ≡ 0 → Since H a₀ (call H m Turn).copied (call H m Turn).scanned (call H m Turn).next (n_call H a₀ Turn (call H m Turn).told).next
  goes : {co sc : ℕ} {m : Machine} {a : Never} → Since H a₀ co sc m a → m.phase ≡ Collecting → (c : Call) → Since H a₀ (co + (call H m c).copied) (sc + (call H m c).scanned) (call H m c).next (n_call H a c (call H m c).told).next

abbrev pub Collects : Shape → Type 0
Collects H = (a₀ : Never) (co sc : ℕ) (m : Machine) (a : Never) → Since H a₀ co sc m a → m.phase ≡ Collecting →
    (Paired H a₀ m a) × ((call H m Step).told ≡ ended → Ends H a₀ (co + (call H m Step).copied) (sc + (call H m Step).scanned) (call H m Step).next (n_call H a Step ended).next)
