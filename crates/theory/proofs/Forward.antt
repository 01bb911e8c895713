-- Forwarding keeps the invariant and answers the place's new address.
use Rattle.std.proofs.Common.{◌≡◌, ℕ, suc, ◌+◌, ◌*◌, ◌/◌, ◌%◌, ◌<◌, ◌≤◌, true, cond, ◌&&◌, leb, ◌≢◌, sym, refl, ap, ◌∙◌, inl, inr, le_refl, arith}
use Rattle.std.proofs.lemmas.Bool.Decides.{nat_tests}
use Rattle.std.proofs.lemmas.Bool.{eq-eqb, ne_eqb, cases_Bool}
use Rattle.theory.specs.Model.{Layout, upd, blit}
use Rattle.theory.specs.Collect.{Laws, Heap, Flip, Reached, Clear, FlipOk, St, Pair, LooseInv, Grows, Copies, copied, forward, shut, LooseSide}
use Rattle.theory.proofs.Basics.{upd_same, upd_other, blit_in, blit_out, or_le, div_mono}
use Rattle.theory.proofs.Copy.{paired, space, start_top, copy_keeps, copy_grows, copy_side}

pub shut_in : (P : ℕ) (right : ℕ → ℕ) (a b n : ℕ) → a / P ≤ n → n ≤ b / P → shut P right a b n ≡ 0
shut_in P right a b n l m = grind (arith, nat_tests)

pub shut_open : (P : ℕ) (right : ℕ → ℕ) (a b n : ℕ) → shut P right a b n ≢ 0 → shut P right a b n ≡ right n
shut_open P right a b n ne = grind (arith, nat_tests)

pub pick_in : (a b x y z : ℕ) → a ≤ x → x ≤ b → cond (leb a x && leb x b) y z ≡ y
pick_in a b x y z l m = grind (arith, nat_tests)

pub pick_out : (a b x y z : ℕ) → x < a → cond (leb a x && leb x b) y z ≡ z
pick_out a b x y z l = grind (arith, nat_tests)

-- what `copied` does, for an object that lies clear of the words copied to
pub copied_is : (L : Layout) (P : ℕ) (s : St) (a n : ℕ) → L.slots (s.mem a) ≡ n → Clear a (suc n) s.top (suc n) → Copies P s (copied L P s a) a (suc n)
copied_is L P s a n e cl = rw (sym e) (at (L.slots (s.mem a)) (rw (sym e) at cl))
  where
    at : (n : ℕ) → Clear a (suc n) s.top (suc n) → Copies P s (record { mem = upd (blit s.mem a s.top (suc n)) a (2 * s.top); top = s.top + suc n; low = s.low; right = shut P s.right s.top (s.top + n); cross = λ m. cond (leb s.top (m * P) && leb (m * P) (s.top + n)) s.top (s.cross m) }) a (suc n)
    at n cl = record {
      word = upd_same (blit s.mem a s.top (suc n)) a (2 * s.top);
      copy = λ j l. upd_other (blit s.mem a s.top (suc n)) a (s.top + j) (2 * s.top) (omega arith) ∙ blit_in s.mem a s.top (suc n) j l;
      rest = λ b ne o. upd_other (blit s.mem a s.top (suc n)) a b (2 * s.top) ne ∙ blit_out s.mem a s.top (suc n) b o;
      end = refl;
      low = refl;
      right = λ b l m. shut_in P s.right s.top (s.top + n) (b / P) (div_mono P s.top b l) (div_mono P b (s.top + n) (omega arith));
      shuts = λ m ne. shut_open P s.right s.top (s.top + n) m ne;
      cross = λ m l b. pick_in s.top (s.top + n) (m * P) s.top (s.cross m) l (omega arith);
      crosses = λ m l. pick_out s.top (s.top + n) (m * P) s.top (s.cross m) l;
    }

-- what holds after a forwarding of p
pub record Forwarded (L : Layout) (P : ℕ) (F : Flip) (A : Heap) (s : St) (g : Pair) (p : ℕ) (r : St × ℕ) : Type 0 where
  pub pair : Pair
  pub inv : LooseInv L F A r.0 pair
  pub grows : Grows g pair
  pub live : pair.live p ≡ true
  pub at : r.1 ≡ pair.to p
  pub done : pair.done ≡ g.done
  pub side : LooseSide L P F A s g → LooseSide L P F A r.0 pair
  pub rises : s.top ≤ r.0.top

pub grows_refl : (g : Pair) → Grows g g
grows_refl g = record { live = λ p l. l; to = λ p l. refl; limit = refl }

pub grows_trans : (g h k : Pair) → Grows g h → Grows h k → Grows g k
grows_trans g h k a b = record { live = λ p l. b.live p (a.live p l); to = λ p l. b.to p (a.live p l) ∙ a.to p l; limit = b.limit ∙ a.limit }

module _ (L : Layout) (laws : Laws L) (P : ℕ) (F : Flip) (ok : FlipOk L F) (A : Heap) (s : St) (g : Pair) (inv : LooseInv L F A s g) (room : F.start + F.used ≤ g.limit) where
  forward_even : (a : ℕ) → s.mem a % 2 ≡ 0 → forward L P s a ≡ (s, s.mem a / 2)
  forward_even a e = rw (eq-eqb (s.mem a % 2) 0 e)

  forward_odd : (a : ℕ) → s.mem a % 2 ≡ 1 → forward L P s a ≡ (copied L P s a, s.top)
  forward_odd a e = rw (ne_eqb (s.mem a % 2) 0 (omega arith))

  pub forward_keeps : (p : ℕ) → F.here p ≡ true → Reached L F p → Forwarded L P F A s g p (forward L P s (F.addr p))
  forward_keeps p h r = elim (cases_Bool (g.live p)) [
    | inl l ↦ (let w = inv.gone room p h l in
        rw (forward_even (F.addr p) (omega arith)) (record {
          pair = g;
          inv = inv;
          grows = grows_refl g;
          live = l;
          at = omega arith;
          done = refl;
          side = λ o. o;
          rises = le_refl _;
        }))
    | inr f ↦ (let w = inv.kept p h f in
        let o = ok.outside p h in
        let sp = space L F ok A s g inv p room h f in
        let st = start_top L F ok A s g inv in
        let en = inv.limits in
        let k : L.slots (s.mem (F.addr p)) ≡ L.slots (F.old.hdr p) = ap (λ n. L.slots n) w in
        let c = copied_is L P s (F.addr p) (L.slots (F.old.hdr p)) k (or_le _ _ _ _ (omega arith)) in
        rw (forward_odd (F.addr p) (rw w (laws.odd (F.old.hdr p) (ok.heads p h)))) (record {
          pair = paired g p s.top;
          inv = copy_keeps L F ok A s g inv p room h r f P (copied L P s (F.addr p)) c;
          grows = copy_grows L F ok A s g inv p room h r f P (copied L P s (F.addr p)) c;
          live = upd_same g.live p true;
          at = sym (upd_same g.to p s.top);
          done = refl;
          side = copy_side L F ok A s g inv p room h r f P (copied L P s (F.addr p)) c;
          rises = omega arith;
        }))
  ]
