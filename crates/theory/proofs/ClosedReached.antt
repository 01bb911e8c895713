-- What the registers reach among the objects is what they reach in closed form.
use Rattle.std.proofs.Common.{◌≡◌, ℕ, zero, suc, ◌<◌, Bool, true, cond, ◌&&◌, ◌||◌, List, length, sym, refl, ap, ◌∙◌, ap₂, arith}
use Rattle.layouts.specs.Layouts.{Rules}
use Rattle.layouts.specs.declared.values.Value.{Value}
use Rattle.layouts.specs.declared.values.Value.TheVariants.{Reference}
use Rattle.model.specs.Objects.{some_or_0, slot_count}
use Rattle.model.specs.Reaching.{Object, object_at, slot_at, words_of, any_below, refers_to, reached_within, is_reached, reached_words, Reached, Reached.held, Reached.in_slot}
use Rattle.theory.specs.Model.{Layout}
use Rattle.theory.specs.Collect.{Flip, FlipOk, Reached as ClosedReached, Reached.root, Reached.step}
use Rattle.theory.specs.Reach.{within, reaches, closed_reached_words}
use Rattle.theory.specs.Closed.{closed_layout}
use Rattle.theory.proofs.Basics.{sum_same}
use Rattle.theory.proofs.Scan.{reached_here}
use Rattle.theory.proofs.Reach.{reaches_all, reaches_only}
use Rattle.theory.proofs.ClosedNever.{placed, Headed, has_slots}

any_same : (n : ℕ) (f g : ℕ → Bool) → ((k : ℕ) → k < n → f k ≡ g k) → any_below n f ≡ any_below n g
any_same zero f g h = refl
any_same (suc n) f g h = ap₂ ◌||◌ (any_same n f g (λ k l. h k (omega arith))) (h n (omega arith))

module _ (L : Rules) (xs : List Object) (headed : Headed L xs) where
  abbrev lay : Layout
  lay = closed_layout L

  -- an object's slots
  pub slots_told : (p : ℕ) → p < length xs → length (object_at xs p).slots ≡ slot_count L (object_at xs p).header
  slots_told p l = sym (ap some_or_0 (headed p l))

  module _ (register : ℕ → Value) where
    within_as : (r p : ℕ) → reached_within xs register r p ≡ within lay (placed xs) 32 register r p
    unfolding reached_within within
    within_as zero p = refl
    within_as (suc r) p = ap₂ ◌||◌ (within_as r p) (any_same (length xs) _ _ (λ q l. ap₂ ◌&&◌ (within_as r q) (ap (λ n. any_below n (λ i. refers_to p (slot_at xs q i))) (slots_told q l))))

    pub words_as : reached_words xs register ≡ closed_reached_words lay (placed xs) 32 register
    words_as = sum_same (λ p. cond (is_reached xs register p) (words_of xs p) 0) _ (length xs) (λ p l. ap₂ (λ t n. cond t (suc n) 0) (within_as (length xs) p) (slots_told p l))

    -- by what FLIP fixed, from these objects and registers
    module _ (F : Flip) (ok : FlipOk lay F) (old : F.old ≡ placed xs) (regs : F.regs ≡ 32) (reg : F.reg ≡ register) where
      next_reached : (p i q : ℕ) → ClosedReached lay F p → Reached xs register p → i < slot_count L (F.old.hdr p) → F.old.val p i ≡ Reference q → Reached xs register q
      next_reached p i q c r l e =
          let k : p < length xs = omega (arith, ok.below p (reached_here lay F ok c), ap (λ A. A.many) old) in
          in_slot i r (rw (slots_told p k, ← (ap (λ A. A.hdr p) old)) l) (ap (λ A. A.val p i) (sym old) ∙ e)

      pub reached_back : {p : ℕ} → ClosedReached lay F p → Reached xs register p
      reached_back (root k l e) = held k (rw regs at l) (ap (λ f. f k) (sym reg) ∙ e)
      reached_back (step {p = p} i q r l e) = next_reached p i q r (reached_back r) l e

      pub reached_on : {p : ℕ} → Reached xs register p → ClosedReached lay F p
      reached_on (held k l e) = root k (rw regs l) (ap (λ f. f k) reg ∙ e)
      reached_on (in_slot {p = p} {q = q} i r l e) = step i q (reached_on r) (rw (ap (λ A. A.hdr p) old, ← (slots_told p (has_slots xs p i l))) l) (ap (λ A. A.val p i) old ∙ e)

      pub reaches_as : (p : ℕ) → (reaches lay (placed xs) 32 register p ≡ true → Reached xs register p) × (Reached xs register p → reaches lay (placed xs) 32 register p ≡ true)
      reaches_as p = (λ e. reached_back (reaches_only lay F ok p (rw (old, regs, reg) e)), λ r. rw (old, regs, reg) at (reaches_all lay F ok (reached_on r)))
