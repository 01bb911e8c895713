-- The registers vs a list, forwarded in order: the form that a `for` over a mutator's registers takes.
use Rattle.std.proofs.Common.{◌≡◌, ℕ, ◌+◌, ◌≤◌, true, List, [], ◌∷◌, map, sym, refl, ap, ◌∙◌, ap₂}
use Rattle.std.specs.List.{AllByRecursion as All}
use Rattle.theory.specs.Model.{map_v, Layout}
use Rattle.layouts.specs.declared.values.Value.{Value}
use Rattle.layouts.specs.declared.values.Value.TheVariants.{Nil, Number, Reference}
use Rattle.theory.specs.Collect.{Laws, Heap, Flip, Reached, FlipOk, St, Pair, Alive, LooseInv, Grows, forward}
use Rattle.theory.proofs.Copy.{map_v_same, alive_more}
use Rattle.theory.proofs.Forward.{forward_keeps, grows_refl, grows_trans}

abbrev pub forward_value : Layout → ℕ → St → Value → St × Value
forward_value L P s Nil = (s, Nil)
forward_value L P s (Number n) = (s, Number n)
forward_value L P s (Reference a) = ((forward L P s a).0, Reference (forward L P s a).1)

unfoldable pub forward_list : Layout → ℕ → St → List Value → St × List Value
forward_list L P s [] = (s, [])
forward_list L P s (v ∷ vs) = ((forward_list L P (forward_value L P s v).0 vs).0, (forward_value L P s v).1 ∷ (forward_list L P (forward_value L P s v).0 vs).1)

-- a root's value
abbrev pub RootV : Layout → Flip → Value → Type 0
RootV L F Nil = Unit {0}
RootV L F (Number n) = Unit {0}
RootV L F (Reference q) = (F.here q ≡ true) × Reached L F q

pub record ValueDone (L : Layout) (P : ℕ) (F : Flip) (A : Heap) (g : Pair) (v : Value) (r : St × Value) : Type 0 where
  pub pair : Pair
  pub inv : LooseInv L F A r.0 pair
  pub grows : Grows g pair
  pub is : r.1 ≡ map_v pair.to v
  pub alive : Alive pair.live v

pub record ListDone (L : Layout) (P : ℕ) (F : Flip) (A : Heap) (g : Pair) (vs : List Value) (r : St × List Value) : Type 0 where
  pub pair : Pair
  pub inv : LooseInv L F A r.0 pair
  pub grows : Grows g pair
  pub is : r.1 ≡ map (map_v pair.to) vs
  pub alive : All (Alive pair.live) vs

module _ (L : Layout) (laws : Laws L) (P : ℕ) (F : Flip) (ok : FlipOk L F) (A : Heap) where
  value_keeps : (v : Value) (s : St) (g : Pair) → LooseInv L F A s g → F.start + F.used ≤ g.limit → RootV L F v → ValueDone L P F A g v (forward_value L P s (map_v F.addr v))
  value_keeps Nil s g inv room r = record { pair = g; inv = inv; grows = grows_refl g; is = refl; alive = tt }
  value_keeps (Number n) s g inv room r = record { pair = g; inv = inv; grows = grows_refl g; is = refl; alive = tt }
  value_keeps (Reference q) s g inv room r =
      let f = forward_keeps L laws P F ok A s g inv room q r.0 r.1 in
      record { pair = f.pair; inv = f.inv; grows = f.grows; is = ap Reference f.at; alive = f.live }

  both : (g : Pair) (v : Value) (vs : List Value) (r : St × Value) (rs : St × List Value) → (x : ValueDone L P F A g v r) → ListDone L P F A x.pair vs rs → ListDone L P F A g (v ∷ vs) (rs.0, r.1 ∷ rs.1)
  both g v vs r rs x o = record {
    pair = o.pair;
    inv = o.inv;
    grows = grows_trans g x.pair o.pair x.grows o.grows;
    is = ap₂ ◌∷◌ (x.is ∙ sym (map_v_same x.pair.live x.pair.to o.pair.to v x.alive o.grows.to)) o.is;
    alive = (alive_more x.pair.live o.pair.live v x.alive o.grows.live, o.alive);
  }

  pub list_keeps : (vs : List Value) (s : St) (g : Pair) → LooseInv L F A s g → F.start + F.used ≤ g.limit → All (RootV L F) vs → ListDone L P F A g vs (forward_list L P s (map (map_v F.addr) vs))
  unfolding forward_list
  list_keeps [] s g inv room r = record { pair = g; inv = inv; grows = grows_refl g; is = refl; alive = tt }
  list_keeps (v ∷ vs) s g inv room r =
      let x = value_keeps v s g inv room r.0 in
      both g v vs _ _ x (list_keeps vs (forward_value L P s (map_v F.addr v)).0 x.pair x.inv (rw x.grows.limit room) r.1)
