-- The second promise: what a collection does, from its FLIP to the STEP that ends it.
use Rattle.std.specs.Prelude.{◌≡◌, ℕ, suc, ◌+◌, ◌-◌, ◌/◌, ◌<◌, ◌≤◌, max, Bool, true, ◌≢◌, ◌⊎◌, List, length}
use Rattle.layouts.specs.Layouts.{Rules}
use Rattle.layouts.specs.declared.values.Value.{Value}
use Rattle.layouts.specs.declared.values.Value.TheVariants.{Nil, Number, Reference}
use Rattle.model.specs.declared.calls.Answer.{Answer}
use Rattle.model.specs.declared.calls.Answer.TheVariants.{Refused, Trapped, Done, Same, Kind, Count, Fault, Copied, Scanned, Stepped, Saved}
use Rattle.model.specs.declared.calls.Call.{Call}
use Rattle.model.specs.declared.states.Phase.TheVariants.{Collecting}
use Rattle.model.specs.Heap.{Heap, to_start, to_stop}
use Rattle.model.specs.Outcomes.{told, Told.ended}
use Rattle.model.specs.Calls.{call}
use Rattle.model.specs.Never.{Never, Sizes}
use Rattle.model.specs.Reaching.{object_at, slot_at, words_of, Reached}
use Rattle.model.specs.Runs.{Both, sizes_of, both_after, both_after_all, Accepted}

-- the words that an answer says were copied, and scanned
abbrev pub copied_in : Answer → ℕ
copied_in (Refused e) = 0
copied_in (Trapped p) = 0
copied_in Done = 0
copied_in (Same b) = 0
copied_in (Kind k) = 0
copied_in (Count n) = 0
copied_in (Fault p) = 0
copied_in (Copied n) = n
copied_in (Scanned s n) = n
copied_in (Stepped e s n) = n
copied_in (Saved e) = 0

abbrev pub scanned_in : Answer → ℕ
scanned_in (Refused e) = 0
scanned_in (Trapped p) = 0
scanned_in Done = 0
scanned_in (Same b) = 0
scanned_in (Kind k) = 0
scanned_in (Count n) = 0
scanned_in (Fault p) = 0
scanned_in (Copied n) = 0
scanned_in (Scanned s n) = s
scanned_in (Stepped e s n) = s
scanned_in (Saved e) = 0

-- 1 for a STEP that was accepted, by its answer
abbrev pub step_in : Answer → ℕ
step_in (Refused e) = 0
step_in (Trapped p) = 0
step_in Done = 0
step_in (Same b) = 0
step_in (Kind k) = 0
step_in (Count n) = 0
step_in (Fault p) = 0
step_in (Copied n) = 0
step_in (Scanned s n) = 0
step_in (Stepped e s n) = 1
step_in (Saved e) = 0

-- What the calls since a FLIP said in all
pub record Tally : Type 0 where
  pub copied : ℕ
  pub scanned : ℕ
  pub steps : ℕ

abbrev pub tallied : Tally → Answer → Tally
tallied t a = record { copied = t.copied + copied_in a; scanned = t.scanned + scanned_in a; steps = t.steps + step_in a }

-- the moments of a collection: from y both heaps came to FLIP, and since then the collection goes on
pub data SinceFlip (L : Rules) (z : Sizes) (y : Both) : Tally → Both → Type 0 where
  flips : Accepted L y.moving Call.Flip → SinceFlip L z y (tallied (record { copied = 0; scanned = 0; steps = 0 }) (call L y.moving Call.Flip).answer) (both_after L z y Call.Flip)
  goes_on : {t : Tally} {x : Both} → SinceFlip L z y t x → x.moving.heap.phase ≡ Collecting → (c : Call) → SinceFlip L z y (tallied t (call L x.moving c).answer) (both_after L z x c)

-- a value with its place, if it has one, replaced by an address
abbrev pub at_address : (ℕ → ℕ) → Value → Value
at_address to Nil = Nil
at_address to (Number n) = Number n
at_address to (Reference p) = Reference (to p)

-- the word at a is scanned
abbrev pub IsScanned : Heap → ℕ → Type 0
IsScanned h a = a < h.unscanned (a / h.memory.page_size)

-- rows of words that share none
abbrev pub Apart : ℕ → ℕ → ℕ → ℕ → Type 0
Apart a m b n = (a + m ≤ b) ⊎ (b + n ≤ a)

-- The pairing of objects with places. y is the moment before FLIP: the places below its count of objects are old, the others
-- are of NEWs since.
pub record Paired (L : Rules) (y : Never) (h : Heap) (a : Never) : Type 0 where
  -- the places that are paired, and the address of the object that each is paired with
  pub is_paired : ℕ → Bool
  pub address : ℕ → ℕ
  -- a copied object is of an old place that FLIP's registers reached, and lies among the copied words, each of which is of one
  pub copied : (p : ℕ) → is_paired p ≡ true → p < length y.objects → Reached y.objects y.register p × (to_start h ≤ address p) × (address p + words_of a.objects p ≤ h.space.copy_end)
  pub covered : (x : ℕ) → to_start h ≤ x → x < h.space.copy_end → (p : ℕ) × (is_paired p ≡ true) × (p < length y.objects) × (address p ≤ x) × (x < address p + words_of a.objects p)
  -- the new objects are those of the NEWs since
  pub news : (p : ℕ) → length y.objects ≤ p → (is_paired p ≡ true → p < length a.objects) × (p < length a.objects → is_paired p ≡ true)
  pub new : (p : ℕ) → is_paired p ≡ true → length y.objects ≤ p → (h.new_start ≤ address p) × (address p + words_of a.objects p ≤ to_stop h)
  -- one to one
  pub apart : (p q : ℕ) → is_paired p ≡ true → is_paired q ≡ true → p ≢ q → Apart (address p) (words_of a.objects p) (address q) (words_of a.objects q)
  -- what agrees by the pairing: headers, registers, new objects' slots and scanned slots
  pub headers : (p : ℕ) → is_paired p ≡ true → h.memory.word (address p) ≡ (object_at a.objects p).header
  pub registers : (k : ℕ) → k < 32 → h.register k ≡ at_address address (a.register k)
  pub slots : (p i : ℕ) → is_paired p ≡ true → i < length (object_at a.objects p).slots → (length y.objects ≤ p) ⊎ IsScanned h (address p + suc i) → L.unpacked (object_at a.objects p).header i (h.memory.word (address p + suc i)) ≡ at_address address (slot_at a.objects p i)

-- the STEP that ends leaves no reached place unpaired, and what was said to be copied and to be scanned adds up to L
pub record Complete (L : Rules) (y : Never) (t : Tally) (h : Heap) (a : Never) : Type 0 where
  pub pairing : Paired L y h a
  pub all_paired : (p : ℕ) → Reached y.objects y.register p → pairing.is_paired p ≡ true
  pub copied : t.copied ≡ a.reached
  pub scanned : t.scanned ≡ a.reached

-- the whole pages for n words
abbrev pub pages_for : ℕ → ℕ → ℕ
pages_for size n = (n + (size - 1)) / size

-- A collection copies exactly what FLIP's registers reached: at every moment of it the pairing stands, and fewer STEPs were
-- accepted than the reached words fill pages, or than 1; at its end the pairing is complete
abbrev pub CollectionCopiesTheReached : Rules → Both → Type 0
CollectionCopiesTheReached L y₀ =
    (cs : List Call) (t : Tally) (y x : Both) → y ≡ both_after_all L (sizes_of y₀.moving) y₀ cs → SinceFlip L (sizes_of y₀.moving) y t x → x.moving.heap.phase ≡ Collecting →
    Paired L y.never x.moving.heap x.never
    × (t.steps < max 1 (pages_for x.moving.heap.memory.page_size x.never.reached))
    × ((c : Call) → told (call L x.moving c).answer ≡ ended → Complete L y.never (tallied t (call L x.moving c).answer) (call L x.moving c).left.heap (both_after L (sizes_of y₀.moving) x c).never)
