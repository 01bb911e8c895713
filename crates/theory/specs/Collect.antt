-- A moment of a collection, and what holds of it.
use Rattle.std.specs.Prelude.{◌≡◌, ℕ, zero, suc, ◌+◌, ◌-◌, ◌*◌, ◌/◌, ◌%◌, ◌<◌, ◌≤◌, min, Bool, true, false, cond, ◌&&◌, ◌≢◌, ◌⊎◌, ◌==◌, nat_le, nat_lt}
use Rattle.layouts.specs.Layouts.{addressable}
use Rattle.theory.specs.Model.{map_v, Layout, upd, blit, sum_to, weight}
use Rattle.layouts.specs.declared.values.Value.{Value}
use Rattle.layouts.specs.declared.values.Value.TheVariants.{Nil, Number, Reference}

pub record Laws (L : Layout) : Type 0 where
  pub odd : (h : ℕ) → L.head h ≡ true → h % 2 ≡ 1
  pub unpacks : (h i : ℕ) (v : Value) → L.head h ≡ true → i < L.slots h → addressable v ≡ true → L.admits h i v ≡ true → L.unpack h i (L.pack h i v) ≡ v
  pub made : (r w : ℕ) → r + w ≤ 255 → (L.head (L.make r w) ≡ true) × (L.slots (L.make r w) ≡ r + w)
  pub first : (r w i : ℕ) → r + w ≤ 255 → i < r → L.admits (L.make r w) i Nil ≡ true
  pub next : (r w i : ℕ) → r + w ≤ 255 → r ≤ i → i < r + w → L.admits (L.make r w) i (Number 0) ≡ true
  pub any_ref : (h i a b : ℕ) → L.admits h i (Reference a) ≡ L.admits h i (Reference b)

-- the objects of the never-moving heap, by place
pub record Heap : Type 0 where
  pub many : ℕ
  pub hdr : ℕ → ℕ
  pub val : ℕ → ℕ → Value

-- what a FLIP fixes
pub record Flip : Type 0 where
  pub old : Heap
  pub here : ℕ → Bool
  pub addr : ℕ → ℕ
  pub start : ℕ
  pub last : ℕ
  pub used : ℕ
  pub regs : ℕ
  pub reg : ℕ → Value

abbrev pub size : Layout → Heap → ℕ → ℕ
size L A p = suc (L.slots (A.hdr p))

pub data Reached (L : Layout) (F : Flip) : ℕ → Type 0 where
  root : {p : ℕ} → (k : ℕ) → k < F.regs → F.reg k ≡ Reference p → Reached L F p
  step : {p : ℕ} → (i q : ℕ) → Reached L F p → i < L.slots (F.old.hdr p) → F.old.val p i ≡ Reference q → Reached L F q

-- row a m and row b n share no word
abbrev pub Clear : ℕ → ℕ → ℕ → ℕ → Type 0
Clear a m b n = (a + m ≤ b) ⊎ (b + n ≤ a)

pub record FlipOk (L : Layout) (F : Flip) : Type 0 where
  pub below : (p : ℕ) → F.here p ≡ true → p < F.old.many
  pub heads : (p : ℕ) → F.here p ≡ true → L.head (F.old.hdr p) ≡ true
  pub closed : (p i q : ℕ) → F.here p ≡ true → i < L.slots (F.old.hdr p) → F.old.val p i ≡ Reference q → F.here q ≡ true
  pub fits : (p i : ℕ) → F.here p ≡ true → i < L.slots (F.old.hdr p) → L.admits (F.old.hdr p) i (F.old.val p i) ≡ true
  pub apart : (p q : ℕ) → F.here p ≡ true → F.here q ≡ true → p ≢ q → Clear (F.addr p) (size L F.old p) (F.addr q) (size L F.old q)
  pub outside : (p : ℕ) → F.here p ≡ true → (F.addr p + size L F.old p ≤ F.start) ⊎ (F.last ≤ F.addr p)
  pub total : sum_to F.old.many (weight (size L F.old) F.here) ≤ F.used
  pub roots : (k p : ℕ) → k < F.regs → F.reg k ≡ Reference p → F.here p ≡ true
  -- every address of an object is below 16384
  pub near : (p : ℕ) → F.here p ≡ true → F.addr p < 16384
  pub small : F.last ≤ 16384

-- the concrete part: the words, the copy end, the lowest word of the new objects, the pages' rights (0 none, 1 read, 2 all)
-- and the crossing map
pub record St : Type 0 where
  pub mem : ℕ → ℕ
  pub top : ℕ
  pub low : ℕ
  pub right : ℕ → ℕ
  pub cross : ℕ → ℕ

-- the pairing: which places have an object in to-space, where, which addresses are scanned, and how far copies may go
pub record Pair : Type 0 where
  pub live : ℕ → Bool
  pub to : ℕ → ℕ
  pub done : ℕ → Bool
  pub limit : ℕ

abbrev pub Alive : (ℕ → Bool) → Value → Type 0
Alive live Nil = Unit {0}
Alive live (Number n) = Unit {0}
Alive live (Reference q) = live q ≡ true

-- copies have room for all that was in use at FLIP. They have not in the pairing of a restored heap, which no FLIP came before:
-- it has no forwarding words and no crossing map.
abbrev pub Room : Flip → Pair → Type 0
Room F g = F.start + F.used ≤ g.limit

pub record LooseInv (L : Layout) (F : Flip) (A : Heap) (s : St) (g : Pair) : Type 0 where
  -- the objects
  pub many : F.old.many ≤ A.many
  pub heads : (p : ℕ) → p < F.old.many → A.hdr p ≡ F.old.hdr p
  pub below : (p : ℕ) → g.live p ≡ true → p < A.many
  pub came : (p : ℕ) → g.live p ≡ true → p < F.old.many → (F.here p ≡ true) × Reached L F p
  pub news : (p : ℕ) → F.old.many ≤ p → p < A.many → g.live p ≡ true
  pub valid : (p : ℕ) → g.live p ≡ true → L.head (A.hdr p) ≡ true
  pub fits : (p i : ℕ) → g.live p ≡ true → i < L.slots (A.hdr p) → L.admits (A.hdr p) i (A.val p i) ≡ true
  -- where they lie
  pub limits : (s.top ≤ g.limit) × (g.limit ≤ s.low) × (s.low ≤ F.last)
  pub total : sum_to A.many (weight (size L A) g.live) + F.start + s.low ≡ s.top + F.last
  pub ends : s.top ≡ F.start + sum_to F.old.many (weight (size L F.old) g.live)
  pub within : (p : ℕ) → g.live p ≡ true → p < F.old.many → (F.start ≤ g.to p) × (g.to p + size L A p ≤ s.top)
  pub beyond : (p : ℕ) → g.live p ≡ true → F.old.many ≤ p → (s.low ≤ g.to p) × (g.to p + size L A p ≤ F.last)
  pub apart : (p q : ℕ) → g.live p ≡ true → g.live q ≡ true → p ≢ q → Clear (g.to p) (size L A p) (g.to q) (size L A q)
  pub cover : (a : ℕ) → F.start ≤ a → a < s.top → (p : ℕ) × (g.live p ≡ true) × (p < F.old.many) × (g.to p ≤ a) × (a < g.to p + size L A p)
  pub cover_new : (a : ℕ) → s.low ≤ a → a < F.last → (p : ℕ) × (g.live p ≡ true) × (F.old.many ≤ p) × (g.to p ≤ a) × (a < g.to p + size L A p)
  -- from-space
  pub gone : Room F g → (p : ℕ) → F.here p ≡ true → g.live p ≡ true → s.mem (F.addr p) ≡ 2 * g.to p
  pub kept : (p : ℕ) → F.here p ≡ true → g.live p ≡ false → s.mem (F.addr p) ≡ F.old.hdr p
  pub kept_slot : (p i : ℕ) → F.here p ≡ true → g.live p ≡ false → i < L.slots (F.old.hdr p) → s.mem (F.addr p + suc i) ≡ L.pack (F.old.hdr p) i (map_v F.addr (F.old.val p i))
  pub kept_same : (p i : ℕ) → F.here p ≡ true → g.live p ≡ false → i < L.slots (F.old.hdr p) → A.val p i ≡ F.old.val p i
  -- to-space
  pub head : (p : ℕ) → g.live p ≡ true → s.mem (g.to p) ≡ A.hdr p
  pub raw : (p i : ℕ) → g.live p ≡ true → p < F.old.many → i < L.slots (A.hdr p) → g.done (g.to p + suc i) ≡ false → (s.mem (g.to p + suc i) ≡ L.pack (A.hdr p) i (map_v F.addr (F.old.val p i))) × (A.val p i ≡ F.old.val p i)
  pub ready : (p i : ℕ) → g.live p ≡ true → i < L.slots (A.hdr p) → g.done (g.to p + suc i) ≡ true → (s.mem (g.to p + suc i) ≡ L.pack (A.hdr p) i (map_v g.to (A.val p i))) × Alive g.live (A.val p i)
  pub traced : (p i q : ℕ) → g.live p ≡ true → p < F.old.many → i < L.slots (A.hdr p) → g.done (g.to p + suc i) ≡ true → F.old.val p i ≡ Reference q → g.live q ≡ true
  pub fresh : (a : ℕ) → s.top ≤ a → a < g.limit → g.done a ≡ false
  pub new : (p i : ℕ) → g.live p ≡ true → F.old.many ≤ p → i < L.slots (A.hdr p) → g.done (g.to p + suc i) ≡ true

-- nothing that was paired is paired otherwise
pub record Grows (g g' : Pair) : Type 0 where
  pub live : (p : ℕ) → g.live p ≡ true → g'.live p ≡ true
  pub to : (p : ℕ) → g.live p ≡ true → g'.to p ≡ g.to p
  pub limit : g'.limit ≡ g.limit

-- the effect of copying one object, of k words, from a to the copy end
pub record Copies (P : ℕ) (s s' : St) (a k : ℕ) : Type 0 where
  pub word : s'.mem a ≡ 2 * s.top
  pub copy : (j : ℕ) → j < k → s'.mem (s.top + j) ≡ s.mem (a + j)
  pub rest : (b : ℕ) → b ≢ a → (b < s.top) ⊎ (s.top + k ≤ b) → s'.mem b ≡ s.mem b
  pub end : s'.top ≡ s.top + k
  pub low : s'.low ≡ s.low
  pub right : (b : ℕ) → s.top ≤ b → b < s.top + k → s'.right (b / P) ≡ 0
  pub shuts : (n : ℕ) → s'.right n ≢ 0 → s'.right n ≡ s.right n
  pub cross : (n : ℕ) → s.top ≤ n * P → n * P < s.top + k → s'.cross n ≡ s.top
  pub crosses : (n : ℕ) → n * P < s.top → s'.cross n ≡ s.cross n

-- a word written
pub record Writes (s s' : St) (a w : ℕ) : Type 0 where
  pub word : s'.mem a ≡ w
  pub rest : (b : ℕ) → b ≢ a → s'.mem b ≡ s.mem b
  pub end : s'.top ≡ s.top
  pub low : s'.low ≡ s.low
  pub right : s'.right ≡ s.right
  pub cross : s'.cross ≡ s.cross

-- slot i of p set to v, other slots as they were
pub record Sets (A A' : Heap) (p i : ℕ) (v : Value) : Type 0 where
  pub many : A'.many ≡ A.many
  pub hdr : (q : ℕ) → A'.hdr q ≡ A.hdr q
  pub here : A'.val p i ≡ v
  pub other_slot : (j : ℕ) → j ≢ i → A'.val p j ≡ A.val p j
  pub other : (q j : ℕ) → q ≢ p → A'.val q j ≡ A.val q j

-- the pages of the words from a to b, both in, at none
abbrev pub shut : ℕ → (ℕ → ℕ) → ℕ → ℕ → (ℕ → ℕ)
shut P right a b = λ g. cond (nat_le (a / P) g && nat_le g (b / P)) 0 (right g)

-- the copy of the object at a, and its forwarding word, by pages of P words
abbrev pub copied : Layout → ℕ → St → ℕ → St
copied L P s a = record {
  mem = upd (blit s.mem a s.top (suc (L.slots (s.mem a)))) a (2 * s.top);
  top = s.top + suc (L.slots (s.mem a));
  low = s.low;
  right = shut P s.right s.top (s.top + L.slots (s.mem a));
  cross = λ n. cond (nat_le s.top (n * P) && nat_le (n * P) (s.top + L.slots (s.mem a))) s.top (s.cross n);
}

abbrev pub forward : Layout → ℕ → St → ℕ → St × ℕ
forward L P s a = cond (s.mem a % 2 == 0) (s, s.mem a / 2) (copied L P s a, s.top)

-- the slot i under the header h, at address a, scanned
abbrev pub rescan : Layout → ℕ → St → ℕ → ℕ → ℕ → Value → St
rescan L P s h i a Nil = s
rescan L P s h i a (Number n) = s
rescan L P s h i a (Reference b) = record {
  mem = upd (forward L P s b).0.mem a (L.pack h i (Reference (forward L P s b).1));
  top = (forward L P s b).0.top;
  low = (forward L P s b).0.low;
  right = (forward L P s b).0.right;
  cross = (forward L P s b).0.cross;
}

abbrev pub scan_slot : Layout → ℕ → St → ℕ → ℕ → ℕ → St
scan_slot L P s h i a = rescan L P s h i a (L.unpack h i (s.mem a))

-- register k, holding v, forwarded
abbrev pub forward_reg : Layout → ℕ → St → (ℕ → Value) → ℕ → Value → St × (ℕ → Value)
forward_reg L P s reg k Nil = (s, reg)
forward_reg L P s reg k (Number n) = (s, reg)
forward_reg L P s reg k (Reference a) = ((forward L P s a).0, upd reg k (Reference (forward L P s a).1))

-- the registers below n forwarded, in order
unfoldable pub forward_regs : Layout → ℕ → St → (ℕ → Value) → ℕ → St × (ℕ → Value)
forward_regs L P s reg zero = (s, reg)
forward_regs L P s reg (suc n) = forward_reg L P (forward_regs L P s reg n).0 (forward_regs L P s reg n).1 n ((forward_regs L P s reg n).1 n)

-- a page of to-space that can be read has no unscanned word; the crossing map has the header of the object with a page's first word
pub record LooseSide (L : Layout) (P : ℕ) (F : Flip) (A : Heap) (s : St) (g : Pair) : Type 0 where
  pub opens : (x : ℕ) → F.start ≤ x → x < s.top → s.right (x / P) ≢ 0 → g.done x ≡ true
  pub cross : Room F g → (n : ℕ) → F.start ≤ n * P → n * P < s.top → (q : ℕ) × (g.live q ≡ true) × (q < F.old.many) × (s.cross n ≡ g.to q) × (g.to q ≤ n * P) × (n * P < g.to q + size L A q)

-- an object appended
pub record Adds (A A' : Heap) (h : ℕ) (init : ℕ → Value) : Type 0 where
  pub many : A'.many ≡ suc A.many
  pub hdr : A'.hdr A.many ≡ h
  pub val : (i : ℕ) → A'.val A.many i ≡ init i
  pub old_hdr : (q : ℕ) → q ≢ A.many → A'.hdr q ≡ A.hdr q
  pub old_val : (q i : ℕ) → q ≢ A.many → A'.val q i ≡ A.val q i

-- an object of header h placed below the others
pub record Places (L : Layout) (s s' : St) (h : ℕ) (init : ℕ → Value) : Type 0 where
  pub low : s'.low + suc (L.slots h) ≡ s.low
  pub top : s'.top ≡ s.top
  pub head : s'.mem s'.low ≡ h
  pub slot : (i : ℕ) → i < L.slots h → s'.mem (s'.low + suc i) ≡ L.pack h i (init i)
  pub rest : (b : ℕ) → (b < s'.low) ⊎ (s.low ≤ b) → s'.mem b ≡ s.mem b

-- the word at a scanned, hd being the header's address of its object
abbrev pub scan_at : Layout → ℕ → St → ℕ → ℕ → St
scan_at L P s hd a = cond (a == hd) s (scan_slot L P s (s.mem hd) (a - suc hd) a)

-- the header's address of the object with the word at a, hd being that of the word before or this one
abbrev pub closed_head_at : Layout → St → ℕ → ℕ → ℕ
closed_head_at L s hd a = cond (a == hd + suc (L.slots (s.mem hd))) a hd

-- words scanned from a up to e or the copy end, read afresh each time, at most k of them; with the first unscanned address
abbrev pub scan_run : Layout → ℕ → ℕ → ℕ → St → ℕ → ℕ → St × ℕ
scan_run L P e zero s hd a = (s, a)
scan_run L P e (suc k) s hd a = cond (nat_lt a (min e s.top)) (scan_run L P e k (scan_at L P s (closed_head_at L s hd a) a) (closed_head_at L s hd a) (suc a)) (s, a)

pub record Inv (L : Layout) (F : Flip) (A : Heap) (s : St) (g : Pair) : Type 0 where
  -- the objects
  pub many : F.old.many ≤ A.many
  pub heads : (p : ℕ) → p < F.old.many → A.hdr p ≡ F.old.hdr p
  pub below : (p : ℕ) → g.live p ≡ true → p < A.many
  pub came : (p : ℕ) → g.live p ≡ true → p < F.old.many → (F.here p ≡ true) × Reached L F p
  pub news : (p : ℕ) → F.old.many ≤ p → p < A.many → g.live p ≡ true
  pub valid : (p : ℕ) → g.live p ≡ true → L.head (A.hdr p) ≡ true
  pub fits : (p i : ℕ) → g.live p ≡ true → i < L.slots (A.hdr p) → L.admits (A.hdr p) i (A.val p i) ≡ true
  -- where they lie
  pub limits : (s.top ≤ g.limit) × (g.limit ≤ s.low) × (s.low ≤ F.last)
  pub total : sum_to A.many (weight (size L A) g.live) + F.start + s.low ≡ s.top + F.last
  pub ends : s.top ≡ F.start + sum_to F.old.many (weight (size L F.old) g.live)
  pub within : (p : ℕ) → g.live p ≡ true → p < F.old.many → (F.start ≤ g.to p) × (g.to p + size L A p ≤ s.top)
  pub beyond : (p : ℕ) → g.live p ≡ true → F.old.many ≤ p → (s.low ≤ g.to p) × (g.to p + size L A p ≤ F.last)
  pub apart : (p q : ℕ) → g.live p ≡ true → g.live q ≡ true → p ≢ q → Clear (g.to p) (size L A p) (g.to q) (size L A q)
  pub cover : (a : ℕ) → F.start ≤ a → a < s.top → (p : ℕ) × (g.live p ≡ true) × (p < F.old.many) × (g.to p ≤ a) × (a < g.to p + size L A p)
  pub cover_new : (a : ℕ) → s.low ≤ a → a < F.last → (p : ℕ) × (g.live p ≡ true) × (F.old.many ≤ p) × (g.to p ≤ a) × (a < g.to p + size L A p)
  -- from-space
  pub gone : (p : ℕ) → F.here p ≡ true → g.live p ≡ true → s.mem (F.addr p) ≡ 2 * g.to p
  pub kept : (p : ℕ) → F.here p ≡ true → g.live p ≡ false → s.mem (F.addr p) ≡ F.old.hdr p
  pub kept_slot : (p i : ℕ) → F.here p ≡ true → g.live p ≡ false → i < L.slots (F.old.hdr p) → s.mem (F.addr p + suc i) ≡ L.pack (F.old.hdr p) i (map_v F.addr (F.old.val p i))
  pub kept_same : (p i : ℕ) → F.here p ≡ true → g.live p ≡ false → i < L.slots (F.old.hdr p) → A.val p i ≡ F.old.val p i
  -- to-space
  pub head : (p : ℕ) → g.live p ≡ true → s.mem (g.to p) ≡ A.hdr p
  pub raw : (p i : ℕ) → g.live p ≡ true → p < F.old.many → i < L.slots (A.hdr p) → g.done (g.to p + suc i) ≡ false → (s.mem (g.to p + suc i) ≡ L.pack (A.hdr p) i (map_v F.addr (F.old.val p i))) × (A.val p i ≡ F.old.val p i)
  pub ready : (p i : ℕ) → g.live p ≡ true → i < L.slots (A.hdr p) → g.done (g.to p + suc i) ≡ true → (s.mem (g.to p + suc i) ≡ L.pack (A.hdr p) i (map_v g.to (A.val p i))) × Alive g.live (A.val p i)
  pub traced : (p i q : ℕ) → g.live p ≡ true → p < F.old.many → i < L.slots (A.hdr p) → g.done (g.to p + suc i) ≡ true → F.old.val p i ≡ Reference q → g.live q ≡ true
  pub fresh : (a : ℕ) → s.top ≤ a → a < g.limit → g.done a ≡ false
  pub new : (p i : ℕ) → g.live p ≡ true → F.old.many ≤ p → i < L.slots (A.hdr p) → g.done (g.to p + suc i) ≡ true

-- a page of to-space that can be read has no unscanned word; the crossing map has the header of the object with a page's first word
pub record Side (L : Layout) (P : ℕ) (F : Flip) (A : Heap) (s : St) (g : Pair) : Type 0 where
  pub opens : (x : ℕ) → F.start ≤ x → x < s.top → s.right (x / P) ≢ 0 → g.done x ≡ true
  pub cross : (n : ℕ) → F.start ≤ n * P → n * P < s.top → (q : ℕ) × (g.live q ≡ true) × (q < F.old.many) × (s.cross n ≡ g.to q) × (g.to q ≤ n * P) × (n * P < g.to q + size L A q)
