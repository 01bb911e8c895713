-- The two ways that a LOAD or STORE goes.
use Rattle.std.proofs.Common.{◌≡◌, ℕ, ◌/◌, Bool, true, false, cond, eqb, refl}
use Rattle.theory.specs.Machine.{Shape, Machine, fine}
use Rattle.model.specs.declared.calls.Call.TheVariants.{Load, Store}
use Rattle.theory.specs.Steps.{Outcome, act, traps, did, slot_at, loaded, stored}

cond_ways : {X : Type 0} (t : Bool) (x y : X) (Q : X → Type 0) → (t ≡ true → Q x) → (t ≡ false → Q y) → Q (cond t x y)
cond_ways true x y Q f g = f refl
cond_ways false x y Q f g = g refl

module _ (H : Shape) (m : Machine) (Q : Outcome → Type 0) where
  pub load_ways : (k d s i : ℕ) → (eqb (m.st.right (slot_at m k s i / H.page)) 0 ≡ true → Q (traps m k (slot_at m k s i / H.page))) → (eqb (m.st.right (slot_at m k s i / H.page)) 0 ≡ false → Q (did (loaded H m k d s i) fine)) → Q (act H m (Load k d s i))
  load_ways k d s i f g = cond_ways (eqb (m.st.right (slot_at m k s i / H.page)) 0) (traps m k (slot_at m k s i / H.page)) (did (loaded H m k d s i) fine) Q f g

  pub store_ways : (k s i x : ℕ) → (eqb (m.st.right (slot_at m k s i / H.page)) 2 ≡ true → Q (did (stored H m k s i x) fine)) → (eqb (m.st.right (slot_at m k s i / H.page)) 2 ≡ false → Q (traps m k (slot_at m k s i / H.page))) → Q (act H m (Store k s i x))
  store_ways k s i x f g = cond_ways (eqb (m.st.right (slot_at m k s i / H.page)) 2) (did (stored H m k s i x) fine) (traps m k (slot_at m k s i / H.page)) Q f g
