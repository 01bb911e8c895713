-- Both heaps refuse alike.
use Rattle.std.proofs.Common.{◌≡◌, ℕ, suc, ◌+◌, ◌<◌, Bool, true, false, cond, not, ◌&&◌, ◌||◌, ltb, leb, sym, refl, ap, arith}
use Rattle.std.proofs.lemmas.Bool.{ltb-true, or_parts, and_parts, not-false}
use Rattle.theory.specs.Collect.{Laws, Flip}
use Rattle.theory.specs.Machine.{Shape, Machine, Never, view_m, view_a, closed_is_running, refusal, bad, at}
use Rattle.model.specs.declared.calls.Call.{Call}
use Rattle.model.specs.declared.calls.Call.TheVariants.{New, Load, Store, Copy, SetNumber, SetNil, Same, Tell, Count, Flip as Turn, Step, Take, Resolve, Mark, Save}
use Rattle.theory.proofs.World.{World, view_ref, view_slots, view_admits, view_full}

pub cond_same : {X : Type 0} (b c : Bool) (n x y : X) → b ≡ c → (b ≡ false → x ≡ y) → cond b n x ≡ cond c n y
cond_same true c n x y e f = rw (sym e)
cond_same false c n x y e f = rw (sym e) (f refl)

pub cond_zero : (b : Bool) (n x : ℕ) → 0 < n → cond b n x ≡ 0 → (b ≡ false) × (x ≡ 0)
cond_zero true n x l e = absurd (omega arith)
cond_zero false n x l e = (refl, e)

pub name_ok : (m r : ℕ) → bad m r ≡ false → (m < 4) × (r < 8) × (at m r < 32)
name_ok m r e =
    let t = and_parts (ltb m 4) (ltb r 8) (not-false (ltb m 4 && ltb r 8) e) in
    let a = ltb-true m 4 t.0 in
    let b = ltb-true r 8 t.1 in
    (a, b, omega arith)

module _ (H : Shape) (laws : Laws H.lay) (F : Flip) (m : Machine) (a : Never) (w : World H F m a) where
  runs : (k : ℕ) → not (closed_is_running (m.mut k)) ≡ not (closed_is_running (a.mut k))
  runs k = ap (λ f. not (closed_is_running (f k))) w.mut

  pub refuse_alike : (c : Call) → refusal (view_m H m) c ≡ refusal (view_a H a) c
  refuse_alike (New k d r x) = cond_same (bad k d) (bad k d) _ _ _ refl (λ e. cond_same (ltb 255 (r + x)) (ltb 255 (r + x)) _ _ _ refl (λ f. cond_same _ _ _ _ _ (runs k) (λ g. cond_same _ _ _ _ _ (view_full H F m a w (suc (r + x)) (omega arith)) (λ h. refl))))
  refuse_alike (Load k d s i) = cond_same (bad k d || bad k s) (bad k d || bad k s) _ _ _ refl (λ e.
      let n = (name_ok k s (or_parts (bad k d) (bad k s) e).1).2 in
      cond_same _ _ _ _ _ (runs k) (λ g. cond_same _ _ _ _ _ (ap not (view_ref H F m a w (at k s) n)) (λ h. cond_same _ _ _ _ _ (ap (λ z. leb z i) (view_slots H F m a w (at k s) n)) (λ j. refl))))
  refuse_alike (Store k s i x) = cond_same (bad k s || bad k x) (bad k s || bad k x) _ _ _ refl (λ e.
      let n = (name_ok k s (or_parts (bad k s) (bad k x) e).0).2 in
      let o = (name_ok k x (or_parts (bad k s) (bad k x) e).1).2 in
      cond_same _ _ _ _ _ (runs k) (λ g. cond_same _ _ _ _ _ (ap not (view_ref H F m a w (at k s) n)) (λ h. cond_same _ _ _ _ _ (ap (λ z. leb z i) (view_slots H F m a w (at k s) n)) (λ j. cond_same _ _ _ _ _ (ap not (view_admits H F m a w laws (at k s) i (at k x) n o)) (λ l. refl)))))
  refuse_alike (Copy k d f s) = cond_same (bad k d || bad f s) (bad k d || bad f s) _ _ _ refl (λ e. cond_same _ _ _ _ _ (runs k) (λ g. refl))
  refuse_alike (SetNil k d) = cond_same (bad k d) (bad k d) _ _ _ refl (λ e. cond_same _ _ _ _ _ (runs k) (λ g. refl))
  refuse_alike (SetNumber k d n) = cond_same (bad k d) (bad k d) _ _ _ refl (λ e. cond_same _ _ _ _ _ (runs k) (λ g. refl))
  refuse_alike (Same k x y) = cond_same (bad k x || bad k y) (bad k x || bad k y) _ _ _ refl (λ e. cond_same _ _ _ _ _ (runs k) (λ g. refl))
  refuse_alike (Tell k s) = cond_same (bad k s) (bad k s) _ _ _ refl (λ e. cond_same _ _ _ _ _ (runs k) (λ g. refl))
  refuse_alike Count = refl
  refuse_alike Turn = rw (w.mut, w.phase)
  refuse_alike Step = rw w.phase
  refuse_alike (Take k) = rw w.mut
  refuse_alike (Resolve k p n) = rw w.mut
  refuse_alike (Mark n) = rw w.phase
  refuse_alike (Save n) = rw w.phase
