-- The machine and the never-moving heap, paired.
use Rattle.std.proofs.Common.{◌≡◌, ℕ, ◌+◌, ◌-◌, ◌*◌, ◌/◌, ◌<◌, ◌≤◌, max, true, cond, ltb, ◌⊎◌, refl, ap, ◌∙◌, arith}
use Rattle.std.proofs.lemmas.Bool.Decides.{nat_tests}
use Rattle.theory.specs.Model.{map_v, Layout}
use Rattle.layouts.specs.declared.values.Value.{Value}
use Rattle.layouts.specs.declared.values.Value.TheVariants.{Nil, Number, Reference}
use Rattle.theory.specs.Collect.{Laws, Heap, Flip, size, Reached, FlipOk, St, Pair, Alive, LooseInv, LooseSide}
use Rattle.theory.specs.Reach.{closed_reached_words}
use Rattle.theory.specs.Machine.{Shape, half, whole, Machine, Never, view_m, view_a, is_busy, refs, head_of}
use Rattle.model.specs.declared.states.Phase.{Phase}
use Rattle.model.specs.declared.states.Phase.TheVariants.{Idle, Collecting, Imaging}
use Rattle.theory.proofs.Flip.{AllDone}

-- no copied object reaches over x
pub record Whole (L : Layout) (F : Flip) (A : Heap) (s : St) (g : Pair) (x : ℕ) : Type 0 where
  pub in_top : x ≤ s.top
  pub clear : (q : ℕ) → g.live q ≡ true → q < F.old.many → (g.to q + size L A q ≤ x) ⊎ (x ≤ g.to q)

-- what the map of scanned words says
pub record Scans (L : Layout) (P : ℕ) (F : Flip) (A : Heap) (s : St) (g : Pair) (scan : ℕ → ℕ) : Type 0 where
  pub low : (n : ℕ) → n * P ≤ scan n
  pub high : (n : ℕ) → scan n ≤ n * P + P
  pub tops : (n : ℕ) → scan n ≤ max (n * P) s.top
  pub done : (x : ℕ) → F.start ≤ x → x < g.limit → g.done x ≡ ltb x (scan (x / P))
  pub bound : (n : ℕ) → n * P < scan n → scan n < n * P + P → F.start ≤ n * P → Whole L F A s g (scan n)

-- while collecting
pub record Busy (H : Shape) (F : Flip) (st : St) (scan : ℕ → ℕ) (used : ℕ) (A : Heap) (l u : ℕ) (g : Pair) : Type 0 where
  pub used_is : u ≡ used
  pub flip_used : F.used ≡ used
  pub regs_is : F.regs ≡ 32
  pub limit : g.limit ≡ F.start + whole H.page used
  pub room : F.start + F.used ≤ g.limit
  pub rooted : (k p : ℕ) → k < F.regs → F.reg k ≡ Reference p → g.live p ≡ true
  pub words : l ≡ closed_reached_words H.lay F.old F.regs F.reg
  pub scans : Scans H.lay H.page F A st g scan

-- while idle
pub record Rest (H : Shape) (F : Flip) (st : St) (A : Heap) (l : ℕ) (g : Pair) : Type 0 where
  pub all : AllDone H.lay A g
  pub every : (x : ℕ) → F.start ≤ x → x < st.top → g.done x ≡ true
  pub limit : g.limit ≡ st.top
  pub words : F.start + l ≡ st.top
  pub complete : (p : ℕ) → Reached H.lay F p → g.live p ≡ true

abbrev pub Phased : Shape → Flip → St → (ℕ → ℕ) → ℕ → Heap → ℕ → ℕ → Pair → Phase → Type 0
Phased H F st scan used A l u g Idle = Rest H F st A l g
Phased H F st scan used A l u g Collecting = Busy H F st scan used A l u g
Phased H F st scan used A l u g Imaging = Rest H F st A l g

-- all but the mutators' states and the count
pub record Body (H : Shape) (flip : Flip) (st : St) (scan : ℕ → ℕ) (half_is used : ℕ) (reg : ℕ → Value) (phase : Phase) (A : Heap) (areg : ℕ → Value) (l n u : ℕ) : Type 0 where
  pub pair : Pair
  pub ok : FlipOk H.lay flip
  pub inv : LooseInv H.lay flip A st pair
  pub side : LooseSide H.lay H.page flip A st pair
  pub regs : (k : ℕ) → k < 32 → (reg k ≡ map_v pair.to (areg k)) × Alive pair.live (areg k)
  pub which : half_is ≤ 1
  pub start : flip.start ≡ half_is * half H
  pub last : flip.last ≡ flip.start + half H
  pub low : n + st.low ≡ flip.last
  -- the objects that the last FLIP found lie inside
  pub inside : (p : ℕ) → flip.here p ≡ true → flip.addr p < half H + half H
  pub phased : Phased H flip st scan used A l u pair phase

pub record World (H : Shape) (F : Flip) (m : Machine) (a : Never) : Type 0 where
  pub body : Body H F m.st m.scan m.side m.used m.reg m.phase a.heap a.reg a.l a.n a.u
  pub mut : m.mut ≡ a.mut
  pub phase : m.phase ≡ a.phase
  pub count : m.count ≡ a.count

pub refs_map_v : (f : ℕ → ℕ) (v : Value) → refs (map_v f v) ≡ refs v
refs_map_v f Nil = refl
refs_map_v f (Number n) = refl
refs_map_v f (Reference q) = refl

pub any_map_v : (L : Layout) (laws : Laws L) (h i : ℕ) (f : ℕ → ℕ) (v : Value) → L.admits h i (map_v f v) ≡ L.admits h i v
any_map_v L laws h i f Nil = refl
any_map_v L laws h i f (Number n) = refl
any_map_v L laws h i f (Reference q) = laws.any_ref h i (f q) q

module _ (H : Shape) (F : Flip) (m : Machine) (a : Never) (w : World H F m a) where
  abbrev b : Body H F m.st m.scan m.side m.used m.reg m.phase a.heap a.reg a.l a.n a.u
  b = w.body

  head_map_v : (v : Value) → Alive b.pair.live v → head_of m.st.mem (map_v b.pair.to v) ≡ head_of a.heap.hdr v
  head_map_v Nil x = refl
  head_map_v (Number n) x = refl
  head_map_v (Reference q) x = b.inv.head q x

  pub view_ref : (k : ℕ) → k < 32 → (view_m H m).is_ref k ≡ (view_a H a).is_ref k
  view_ref k l = ap refs (b.regs k l).0 ∙ refs_map_v b.pair.to (a.reg k)

  pub head_same : (k : ℕ) → k < 32 → head_of m.st.mem (m.reg k) ≡ head_of a.heap.hdr (a.reg k)
  head_same k l = ap (head_of m.st.mem) (b.regs k l).0 ∙ head_map_v (a.reg k) (b.regs k l).1

  pub view_slots : (k : ℕ) → k < 32 → (view_m H m).slots k ≡ (view_a H a).slots k
  view_slots k l = ap H.lay.slots (head_same k l)

  pub view_admits : Laws H.lay → (k i x : ℕ) → k < 32 → x < 32 → (view_m H m).admits k i x ≡ (view_a H a).admits k i x
  view_admits laws k i x l c = rw (head_same k l, (b.regs x c).0) (any_map_v H.lay laws (head_of a.heap.hdr (a.reg k)) i b.pair.to (a.reg x))

  full_at : (p : Phase) → Phased H F m.st m.scan m.used a.heap a.l a.u b.pair p → (z : ℕ) → 0 < z → ltb m.st.low (z + cond (is_busy p) (m.side * half H + whole H.page m.used) m.st.top) ≡ cond (is_busy p) (ltb (half H - whole H.page a.u) (a.n + z)) (ltb (half H) (a.l + a.n + z))
  full_at Idle r z l = let o = b.inv.limits in let x = b.start in let e = b.last in let f = b.low in let h = r.words in grind (arith, nat_tests)
  full_at Imaging r z l = let o = b.inv.limits in let x = b.start in let e = b.last in let f = b.low in let h = r.words in grind (arith, nat_tests)
  full_at Collecting r z l = let o = b.inv.limits in let x = b.start in let e = b.last in let f = b.low in let h = r.limit in let u = r.used_is in rw u (grind (arith, nat_tests))

  pub view_full : (z : ℕ) → 0 < z → (view_m H m).full z ≡ (view_a H a).full z
  view_full z l = full_at m.phase b.phased z l ∙ ap (λ p. cond (is_busy p) (ltb (half H - whole H.page a.u) (a.n + z)) (ltb (half H) (a.l + a.n + z))) w.phase
