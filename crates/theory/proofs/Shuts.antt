-- What copying and scanning do to the rights: pages at or above the copy end, and those wholly below where it was, keep theirs.
use Rattle.std.proofs.Common.{◌≡◌, ℕ, zero, suc, ◌+◌, ◌-◌, ◌*◌, ◌/◌, ◌%◌, ◌<◌, ◌≤◌, min, Bool, true, false, cond, eqb, ltb, ◌⊎◌, refl, ◌∙◌, inl, inr, le_refl, div-lt_iff_lt-mul, le-div_iff_mul-le, arith}
use Rattle.std.proofs.lemmas.Bool.Decides.{nat_tests}
use Rattle.theory.specs.Model.{Layout}
use Rattle.layouts.specs.declared.values.Value.{Value}
use Rattle.layouts.specs.declared.values.Value.TheVariants.{Nil, Number, Reference}
use Rattle.theory.specs.Collect.{St, shut, copied, forward, rescan, scan_slot, scan_at, closed_head_at, scan_run, forward_reg, forward_regs}

pub record Shuts (P : ℕ) (s s' : St) : Type 0 where
  pub rises : s.top ≤ s'.top
  pub beyond : (n : ℕ) → s'.top ≤ n * P → s'.right n ≡ s.right n
  pub below : (n : ℕ) → n * P + P ≤ s.top → s'.right n ≡ s.right n
  pub same : s'.top ≡ s.top → (n : ℕ) → s'.right n ≡ s.right n

shut_out : (P : ℕ) (right : ℕ → ℕ) (a b n : ℕ) → (b / P < n) ⊎ (n < a / P) → shut P right a b n ≡ right n
shut_out P right a b n h = grind (arith, nat_tests)

module _ (L : Layout) (P : ℕ) (pos : 0 < P) where
  pub shuts_refl : (s : St) → Shuts P s s
  shuts_refl s = record { rises = le_refl _; beyond = λ n l. refl; below = λ n l. refl; same = λ e n. refl }

  pub shuts_trans : (s t u : St) → Shuts P s t → Shuts P t u → Shuts P s u
  shuts_trans s t u x y = record {
    rises = omega (arith, x.rises, y.rises);
    beyond = λ n l. y.beyond n l ∙ x.beyond n (omega (arith, y.rises));
    below = λ n l. y.below n (omega (arith, x.rises)) ∙ x.below n l;
    same = λ e n. y.same (omega (arith, x.rises, y.rises)) n ∙ x.same (omega (arith, x.rises, y.rises)) n;
  }

  shuts_copied : (s : St) (a : ℕ) → Shuts P s (copied L P s a)
  shuts_copied s a = record {
    rises = omega arith;
    beyond = λ n l. shut_out P s.right s.top (s.top + L.slots (s.mem a)) n (inl ((div-lt_iff_lt-mul {k = P} {x = s.top + L.slots (s.mem a)} {y = n} pos).1 (omega arith)));
    below = λ n l. shut_out P s.right s.top (s.top + L.slots (s.mem a)) n (inr ((le-div_iff_mul-le {k = P} {x = suc n} {y = s.top} pos).1 (omega arith)));
    same = λ e n. absurd (omega arith);
  }

  pub shuts_forward : (s : St) (a : ℕ) → Shuts P s (forward L P s a).0
  shuts_forward s a = go (eqb (s.mem a % 2) 0)
    where
      go : (t : Bool) → Shuts P s (cond {A = St × ℕ} t (s, s.mem a / 2) (copied L P s a, s.top)).0
      go true = shuts_refl s
      go false = shuts_copied s a

  shuts_rescan : (s : St) (h i a : ℕ) (v : Value) → Shuts P s (rescan L P s h i a v)
  shuts_rescan s h i a Nil = shuts_refl s
  shuts_rescan s h i a (Number n) = shuts_refl s
  shuts_rescan s h i a (Reference b) = let o = shuts_forward s b in record { rises = o.rises; beyond = o.beyond; below = o.below; same = o.same }

  shuts_scan : (s : St) (hd a : ℕ) → Shuts P s (scan_at L P s hd a)
  shuts_scan s hd a = go (eqb a hd)
    where
      go : (t : Bool) → Shuts P s (cond {A = St} t s (scan_slot L P s (s.mem hd) (a - suc hd) a))
      go true = shuts_refl s
      go false = shuts_rescan s (s.mem hd) (a - suc hd) a (L.unpack (s.mem hd) (a - suc hd) (s.mem a))

  pub shuts_run : (e k : ℕ) (s : St) (hd a : ℕ) → Shuts P s (scan_run L P e k s hd a).0
  shuts_run e zero s hd a = shuts_refl s
  shuts_run e (suc k) s hd a = go (ltb a (min e s.top)) (shuts_trans s (scan_at L P s (closed_head_at L s hd a) a) (scan_run L P e k (scan_at L P s (closed_head_at L s hd a) a) (closed_head_at L s hd a) (suc a)).0 (shuts_scan s (closed_head_at L s hd a) a) (shuts_run e k (scan_at L P s (closed_head_at L s hd a) a) (closed_head_at L s hd a) (suc a)))
    where
      go : (t : Bool) → Shuts P s (scan_run L P e k (scan_at L P s (closed_head_at L s hd a) a) (closed_head_at L s hd a) (suc a)).0 → Shuts P s (cond {A = St × ℕ} t (scan_run L P e k (scan_at L P s (closed_head_at L s hd a) a) (closed_head_at L s hd a) (suc a)) (s, a)).0
      go true ih = ih
      go false ih = shuts_refl s

  shuts_reg : (s : St) (reg : ℕ → Value) (k : ℕ) (v : Value) → Shuts P s (forward_reg L P s reg k v).0
  shuts_reg s reg k Nil = shuts_refl s
  shuts_reg s reg k (Number n) = shuts_refl s
  shuts_reg s reg k (Reference a) = shuts_forward s a

  pub shuts_regs : (s : St) (reg : ℕ → Value) (n : ℕ) → Shuts P s (forward_regs L P s reg n).0
  unfolding forward_regs
  shuts_regs s reg zero = shuts_refl s
  shuts_regs s reg (suc n) = shuts_trans s (forward_regs L P s reg n).0 (forward_reg L P (forward_regs L P s reg n).0 (forward_regs L P s reg n).1 n ((forward_regs L P s reg n).1 n)).0 (shuts_regs s reg n) (shuts_reg (forward_regs L P s reg n).0 (forward_regs L P s reg n).1 n ((forward_regs L P s reg n).1 n))
