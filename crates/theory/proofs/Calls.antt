-- NEW, LOAD, STORE and SAME at a moment of a collection, and FLIP.
use Rattle.std.proofs.Common.{◌≡◌, ℕ, suc, ◌+◌, ◌<◌, true, refl, ap, ◌∙◌, inl, inr, arith}
use Rattle.std.proofs.lemmas.Bool.{cases_eq}
use Rattle.theory.specs.Model.{map_v, Layout}
use Rattle.layouts.specs.declared.values.Value.{Value}
use Rattle.layouts.specs.declared.values.Value.TheVariants.{Nil, Number, Reference}
use Rattle.theory.specs.Collect.{Laws, Heap, Flip, FlipOk, St, Pair, Alive, LooseInv, Writes, Sets}
use Rattle.theory.proofs.Copy.{near_map_v, in_to}
use Rattle.theory.proofs.Write.{marked, write_keeps}
use Rattle.theory.proofs.Scan.{admits_map_v}

module _ (L : Layout) (laws : Laws L) (F : Flip) (ok : FlipOk L F) (A : Heap) (s : St) (g : Pair) (inv : LooseInv L F A s g) where
  -- what a LOAD of a scanned slot brings
  pub load_agrees : (p i : ℕ) → g.live p ≡ true → i < L.slots (A.hdr p) → g.done (g.to p + suc i) ≡ true → (L.unpack (A.hdr p) i (s.mem (g.to p + suc i)) ≡ map_v g.to (A.val p i)) × Alive g.live (A.val p i)
  load_agrees p i l b d =
      let o = inv.ready p i l b d in
      (ap (L.unpack (A.hdr p) i) o.0 ∙ laws.unpacks (A.hdr p) i _ (inv.valid p l) b (near_map_v g.live g.to (A.val p i) o.1 (λ q k. omega (arith, in_to L F ok A s g inv q 0 k (omega arith), ok.small))) (admits_map_v L laws (A.hdr p) i g.to (A.val p i) (inv.fits p i l b)), o.1)

  -- a STORE into a scanned slot
  pub store_keeps : (p i : ℕ) (v : Value) → g.live p ≡ true → i < L.slots (A.hdr p) → g.done (g.to p + suc i) ≡ true → Alive g.live v → L.admits (A.hdr p) i v ≡ true →
      (s' : St) → Writes s s' (g.to p + suc i) (L.pack (A.hdr p) i (map_v g.to v)) → (A' : Heap) → Sets A A' p i v → LooseInv L F A' s' (marked g (g.to p + suc i))
  store_keeps p i v l b d al ad s' w A' se = write_keeps L F ok A s g inv p i l b v al ad (λ x m e. inv.traced p i x l m b d e) s' w A' se

  -- one address, one place
  pub to_inj : (p q : ℕ) → g.live p ≡ true → g.live q ≡ true → g.to p ≡ g.to q → p ≡ q
  to_inj p q l k e = elim (cases_eq p q) [ inl t ↦ t | inr ne ↦ absurd (omega (arith, inv.apart p q l k ne)) ]

  pub same_agrees : (v w : Value) → Alive g.live v → Alive g.live w → map_v g.to v ≡ map_v g.to w → v ≡ w
  same_agrees Nil Nil a b e = refl
  same_agrees Nil (Number n) a b e = cc
  same_agrees Nil (Reference q) a b e = cc
  same_agrees (Number n) Nil a b e = cc
  same_agrees (Number n) (Number m) a b e = cc
  same_agrees (Number n) (Reference q) a b e = cc
  same_agrees (Reference p) Nil a b e = cc
  same_agrees (Reference p) (Number m) a b e = cc
  same_agrees (Reference p) (Reference q) a b e = let t : g.to p ≡ g.to q = cc in ap Reference (to_inj p q a b t)
