-- Copying and scanning leave the new objects' low end.
use Rattle.std.proofs.Common.{◌≡◌, ℕ, zero, suc, ◌-◌, ◌/◌, ◌%◌, min, Bool, true, false, cond, eqb, ltb, refl, ◌∙◌}
use Rattle.theory.specs.Model.{Layout}
use Rattle.layouts.specs.declared.values.Value.{Value}
use Rattle.layouts.specs.declared.values.Value.TheVariants.{Nil, Number, Reference}
use Rattle.theory.specs.Collect.{St, copied, forward, rescan, scan_slot, scan_at, closed_head_at, scan_run, forward_reg, forward_regs}

pub forward_low : (L : Layout) (P : ℕ) (s : St) (a : ℕ) → (forward L P s a).0.low ≡ s.low
forward_low L P s a = go (eqb (s.mem a % 2) 0)
  where
    go : (t : Bool) → (cond {A = St × ℕ} t (s, s.mem a / 2) (copied L P s a, s.top)).0.low ≡ s.low
    go true = refl
    go false = refl

rescan_low : (L : Layout) (P : ℕ) (s : St) (h i a : ℕ) (v : Value) → (rescan L P s h i a v).low ≡ s.low
rescan_low L P s h i a Nil = refl
rescan_low L P s h i a (Number n) = refl
rescan_low L P s h i a (Reference b) = forward_low L P s b

scan_low : (L : Layout) (P : ℕ) (s : St) (hd a : ℕ) → (scan_at L P s hd a).low ≡ s.low
scan_low L P s hd a = go (eqb a hd)
  where
    go : (t : Bool) → (cond {A = St} t s (scan_slot L P s (s.mem hd) (a - suc hd) a)).low ≡ s.low
    go true = refl
    go false = rescan_low L P s (s.mem hd) (a - suc hd) a (L.unpack (s.mem hd) (a - suc hd) (s.mem a))

pub run_low : (L : Layout) (P e k : ℕ) (s : St) (hd a : ℕ) → (scan_run L P e k s hd a).0.low ≡ s.low
run_low L P e zero s hd a = refl
run_low L P e (suc k) s hd a = go (ltb a (min e s.top)) (run_low L P e k (scan_at L P s (closed_head_at L s hd a) a) (closed_head_at L s hd a) (suc a) ∙ scan_low L P s (closed_head_at L s hd a) a)
  where
    go : (t : Bool) → (scan_run L P e k (scan_at L P s (closed_head_at L s hd a) a) (closed_head_at L s hd a) (suc a)).0.low ≡ s.low → (cond {A = St × ℕ} t (scan_run L P e k (scan_at L P s (closed_head_at L s hd a) a) (closed_head_at L s hd a) (suc a)) (s, a)).0.low ≡ s.low
    go true ih = ih
    go false ih = refl

reg_low : (L : Layout) (P : ℕ) (s : St) (reg : ℕ → Value) (k : ℕ) (v : Value) → (forward_reg L P s reg k v).0.low ≡ s.low
reg_low L P s reg k Nil = refl
reg_low L P s reg k (Number n) = refl
reg_low L P s reg k (Reference a) = forward_low L P s a

pub regs_low : (L : Layout) (P : ℕ) (s : St) (reg : ℕ → Value) (n : ℕ) → (forward_regs L P s reg n).0.low ≡ s.low
unfolding forward_regs
regs_low L P s reg zero = refl
regs_low L P s reg (suc n) = reg_low L P (forward_regs L P s reg n).0 (forward_regs L P s reg n).1 n ((forward_regs L P s reg n).1 n) ∙ regs_low L P s reg n
