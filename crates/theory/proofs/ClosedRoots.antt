-- Forwarding what a FLIP found, and the registers one after the other, is forwarding them in closed form.
use Rattle.std.proofs.Common.{◌≡◌, ℕ, zero, suc, ◌+◌, ◌*◌, ◌/◌, ◌%◌, ◌<◌, ◌≤◌, true, false, sym, refl, ap, ◌∙◌, subst, inl, inr, le_refl, arith}
use mathlib.Core.Path.{fun_ext}
use Rattle.std.proofs.lemmas.Bool.{cases_eq, cases_Bool, both_ways, eq-eqb}
use Rattle.std.proofs.lemmas.Nat.{mul-le}
use Rattle.memory.specs.Memory.{legal_sizes, extent, changed}
use Rattle.layouts.specs.Layouts.{Rules, Lawful}
use Rattle.layouts.specs.declared.values.Value.{Value}
use Rattle.layouts.specs.declared.values.Value.TheVariants.{Nil, Number, Reference}
use Rattle.model.specs.Heap.{Moving}
use Rattle.model.specs.Objects.{slot_count}
use Rattle.model.specs.Forwarding.{is_forwarded, forwarded, new_address, value_forwarded, new_value, Roots, root_forwarded, roots_forwarded}
use Rattle.theory.specs.Model.{map_v, Layout}
use Rattle.theory.specs.Collect.{Heap, Flip, FlipOk, St, Pair, LooseInv, forward, forward_reg, forward_regs}
use Rattle.theory.specs.Closed.{closed_layout, both_halves, closed_moving}
use Rattle.theory.proofs.Basics.{or_le, upd_at, upd_other}
use Rattle.theory.proofs.Copy.{space, start_top}
use Rattle.theory.proofs.Roots.{Rooted, roots_keep}
use Rattle.theory.proofs.ClosedLaws.{closed_laws}
use Rattle.theory.proofs.ClosedKept.{kept_roots}
use Rattle.theory.proofs.ClosedForwarding.{Ready, forward_as}

-- a place set to what it holds
changed_same : (f : ℕ → Value) (k : ℕ) (v : Value) → f k ≡ v → changed f k v ≡ f
changed_same f k v e = fun_ext (λ j. elim (cases_eq j k) [ inl t ↦ upd_at f k j v t ∙ sym e ∙ ap f (sym t) | inr ne ↦ upd_other f k j v ne ])

pub halves_inside : (count size : ℕ) → both_halves count size ≤ count * size
halves_inside count size = let m = mul-le (count / 2 + count / 2) size count size (omega arith) (le_refl _) in omega arith

module _ (L : Rules) (lawful : Lawful L) (count size : ℕ) (legal : legal_sizes count size ≡ true) (F : Flip) (ok : FlipOk (closed_layout L) F)
    (found_inside : (p : ℕ) → F.here p ≡ true → F.addr p < both_halves count size) (last_inside : F.last ≤ count * size) (A : Heap) where
  abbrev lay : Layout
  lay = closed_layout L

  module _ (s : Moving) (low : ℕ) (g : Pair) (inv : LooseInv lay F A (closed_moving s low) g) (room : F.start + F.used ≤ g.limit) (es : s.memory.page_size ≡ size) (ec : s.memory.page_count ≡ count) where
    sizes_legal : legal_sizes s.memory.page_count s.memory.page_size ≡ true
    sizes_legal = rw (es, ec) legal

    within : extent s.memory ≡ count * size
    within = rw (es, ec)

    -- an object that was not forwarded can be
    ready : (q : ℕ) → F.here q ≡ true → is_forwarded s (F.addr q) ≡ false → Ready L s (F.addr q)
    ready q h e = elim (cases_Bool (g.live q)) [
      | inl t ↦ absurd (let w = inv.gone room q h t in both_ways (is_forwarded s (F.addr q)) e (eq-eqb (s.memory.word (F.addr q) % 2) 0 (omega arith)))
      | inr t ↦ (
          let w : slot_count L (s.memory.word (F.addr q)) ≡ slot_count L (F.old.hdr q) = ap (slot_count L) (inv.kept q h t) in
          let sp = space lay F ok A (closed_moving s low) g inv q room h t in
          let st = start_top lay F ok A (closed_moving s low) g inv in
          let o = ok.outside q h in
          let li = inv.limits in
          let x = within in
          record {
            within = omega (arith, found_inside q h, halves_inside count size);
            fits = omega arith;
            apart = or_le _ _ _ _ (omega arith);
          })
    ]

    pub forward_here : (q : ℕ) → F.here q ≡ true → ◌≡◌ {A = St × ℕ} (closed_moving (forwarded L s (F.addr q)) low, new_address s (F.addr q)) (forward lay size (closed_moving s low) (F.addr q))
    forward_here q h = forward_as L s low (F.addr q) sizes_legal (ready q h) ∙ ap (λ z. forward lay z (closed_moving s low) (F.addr q)) es

  module _ (x₀ : Roots) (low : ℕ) (g : Pair) (inv₀ : LooseInv lay F A (closed_moving x₀.moving low) g) (room : F.start + F.used ≤ g.limit)
      (regs : (j : ℕ) → j < F.regs → x₀.register j ≡ map_v F.addr (F.reg j)) (es : x₀.moving.memory.page_size ≡ size) (ec : x₀.moving.memory.page_count ≡ count) where
    abbrev closed_roots : Roots → St × (ℕ → Value)
    closed_roots x = (closed_moving x.moving low, x.register)

    -- one register more
    module _ (x : Roots) (n : ℕ) (l : n < F.regs) (o : Rooted lay size F A (closed_moving x₀.moving low) g x₀.register n (closed_roots x)) (es₁ : x.moving.memory.page_size ≡ size) (ec₁ : x.moving.memory.page_count ≡ count) where
      one : (v : Value) → F.reg n ≡ v → x.register n ≡ map_v F.addr v →
          ◌≡◌ {A = St × (ℕ → Value)} (closed_moving (value_forwarded L x.moving (map_v F.addr v)) low, changed x.register n (new_value x.moving (map_v F.addr v))) (forward_reg lay size (closed_moving x.moving low) x.register n (map_v F.addr v))
      one Nil e h = ap (λ f. (closed_moving x.moving low, f)) (changed_same x.register n Nil h)
      one (Number k) e h = ap (λ f. (closed_moving x.moving low, f)) (changed_same x.register n (Number k) h)
      one (Reference q) e h = ap (λ t. (t.0, changed x.register n (Reference t.1))) (forward_here x.moving low o.pair o.inv (rw o.grows.limit room) es₁ ec₁ q (ok.roots n q l e))

      held : x.register n ≡ map_v F.addr (F.reg n)
      held = o.rest n (le_refl _) ∙ regs n l

      next : closed_roots (root_forwarded L x n) ≡ forward_reg lay size (closed_moving x.moving low) x.register n (x.register n)
      next = subst (λ w. ◌≡◌ {A = St × (ℕ → Value)} (closed_moving (value_forwarded L x.moving w) low, changed x.register n (new_value x.moving w)) (forward_reg lay size (closed_moving x.moving low) x.register n w)) (sym held) (one (F.reg n) refl held)

    pub roots_as : (n : ℕ) → n ≤ F.regs → closed_roots (roots_forwarded L x₀ n) ≡ forward_regs lay size (closed_moving x₀.moving low) x₀.register n
    unfolding roots_forwarded forward_regs
    roots_as zero l = refl
    roots_as (suc n) l =
        let ih = roots_as n (omega arith) in
        let k = kept_roots L x₀ n in
        let o = roots_keep lay (closed_laws L lawful) size F ok A (closed_moving x₀.moving low) g inv₀ room x₀.register regs n (omega arith) in
        next (roots_forwarded L x₀ n) n (omega arith) (subst (Rooted lay size F A (closed_moving x₀.moving low) g x₀.register n) (sym ih) o) (k.page_size ∙ es) (k.page_count ∙ ec)
        ∙ ap (λ t. forward_reg lay size t.0 t.1 n (t.1 n)) ih
