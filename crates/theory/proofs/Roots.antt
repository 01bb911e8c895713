-- The registers, forwarded one after the other.
use Rattle.std.proofs.Common.{◌≡◌, ℕ, zero, suc, ◌+◌, ◌<◌, ◌≤◌, sym, refl, ap, ◌∙◌, inl, inr, le_refl, arith}
use Rattle.std.proofs.lemmas.Bool.{cases_eq}
use Rattle.theory.specs.Model.{map_v, Layout}
use Rattle.layouts.specs.declared.values.Value.{Value}
use Rattle.layouts.specs.declared.values.Value.TheVariants.{Nil, Number, Reference}
use Rattle.theory.specs.Collect.{Laws, Heap, Flip, Reached.root, FlipOk, St, Pair, Alive, LooseInv, Grows, forward, forward_reg, forward_regs, LooseSide}
use Rattle.theory.proofs.Basics.{upd_other, upd_at}
use Rattle.theory.proofs.Copy.{map_v_same, alive_more}
use Rattle.theory.proofs.Forward.{Forwarded, forward_keeps, grows_refl, grows_trans}

pub record Rooted (L : Layout) (P : ℕ) (F : Flip) (A : Heap) (s : St) (g : Pair) (reg : ℕ → Value) (n : ℕ) (r : St × (ℕ → Value)) : Type 0 where
  pub pair : Pair
  pub inv : LooseInv L F A r.0 pair
  pub grows : Grows g pair
  pub done : pair.done ≡ g.done
  pub side : LooseSide L P F A s g → LooseSide L P F A r.0 pair
  pub rises : s.top ≤ r.0.top
  pub past : (j : ℕ) → j < n → (r.1 j ≡ map_v pair.to (F.reg j)) × Alive pair.live (F.reg j)
  pub rest : (j : ℕ) → n ≤ j → r.1 j ≡ reg j

-- a register that follows the pairing still does where the pairing grows
pub follows : (g g' : Pair) → Grows g g' → (x v : Value) → (x ≡ map_v g.to v) × Alive g.live v → (x ≡ map_v g'.to v) × Alive g'.live v
follows g g' gr x v h = (h.0 ∙ sym (map_v_same g.live g.to g'.to v h.1 gr.to), alive_more g.live g'.live v h.1 gr.live)

module _ (L : Layout) (laws : Laws L) (P : ℕ) (F : Flip) (ok : FlipOk L F) (A : Heap) (s₀ : St) (g : Pair) (inv₀ : LooseInv L F A s₀ g) (room : F.start + F.used ≤ g.limit)
    (reg : ℕ → Value) (regs : (j : ℕ) → j < F.regs → reg j ≡ map_v F.addr (F.reg j)) where
  -- register n beyond those below it
  module _ (n : ℕ) (l : n < F.regs) (s : St) (r : ℕ → Value) (o : Rooted L P F A s₀ g reg n (s, r)) where
    plain : (v : Value) → F.reg n ≡ v → r n ≡ map_v o.pair.to v → Alive o.pair.live v → Rooted L P F A s₀ g reg (suc n) (s, r)
    plain v e x al = record {
      pair = o.pair;
      inv = o.inv;
      grows = o.grows;
      done = o.done;
      side = o.side;
      rises = o.rises;
      past = λ j b. elim (cases_eq j n) [ inl k ↦ rw (k, e) (x, al) | inr ne ↦ o.past j (omega arith) ];
      rest = λ j b. o.rest j (omega arith);
    }

    refers : (q : ℕ) → F.reg n ≡ Reference q → Forwarded L P F A s o.pair q (forward L P s (F.addr q)) → Rooted L P F A s₀ g reg (suc n) (forward_reg L P s r n (Reference (F.addr q)))
    refers q e fw = record {
      pair = fw.pair;
      inv = fw.inv;
      grows = grows_trans g o.pair fw.pair o.grows fw.grows;
      done = fw.done ∙ o.done;
      side = λ x. fw.side (o.side x);
      rises = omega (arith, fw.rises, o.rises);
      past = λ j b. elim (cases_eq j n) [
        | inl k ↦ rw (upd_at r n j (Reference (forward L P s (F.addr q)).1) k, k, e) (ap Reference fw.at, fw.live)
        | inr ne ↦ rw (upd_other r n j (Reference (forward L P s (F.addr q)).1) ne) (follows o.pair fw.pair fw.grows (r j) (F.reg j) (o.past j (omega arith)))
      ];
      rest = λ j b. upd_other r n j (Reference (forward L P s (F.addr q)).1) (omega arith) ∙ o.rest j (omega arith);
    }

    one : (v : Value) → F.reg n ≡ v → r n ≡ map_v F.addr v → Rooted L P F A s₀ g reg (suc n) (forward_reg L P s r n (map_v F.addr v))
    one Nil e x = plain Nil e x tt
    one (Number m) e x = plain (Number m) e x tt
    one (Reference q) e x = refers q e (forward_keeps L laws P F ok A s o.pair o.inv (rw o.grows.limit room) q (ok.roots n q l e) (root n l e))

    held : r n ≡ map_v F.addr (F.reg n)
    held = o.rest n (omega arith) ∙ regs n l

    next : Rooted L P F A s₀ g reg (suc n) (forward_reg L P s r n (r n))
    next = rw held (one (F.reg n) refl held)

  pub roots_keep : (n : ℕ) → n ≤ F.regs → Rooted L P F A s₀ g reg n (forward_regs L P s₀ reg n)
  unfolding forward_regs
  roots_keep zero l = record { pair = g; inv = inv₀; grows = grows_refl g; done = refl; side = λ x. x; rises = le_refl _; past = λ j b. absurd (omega arith); rest = λ j b. refl }
  roots_keep (suc n) l = next n l (forward_regs L P s₀ reg n).0 (forward_regs L P s₀ reg n).1 (roots_keep n (omega arith))
