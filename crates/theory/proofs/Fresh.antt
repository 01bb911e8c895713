-- The heap as after MAKE, paired with the never-moving one.
use Rattle.std.proofs.Common.{ℕ, false, refl, le_refl, arith}
use Rattle.std.proofs.lemmas.Bool.{false≢true}
use Rattle.layouts.specs.declared.values.Value.TheVariants.{Nil}
use Rattle.theory.specs.Collect.{Flip, FlipOk, Pair, LooseInv}
use Rattle.theory.specs.Machine.{Shape, half}
use Rattle.theory.specs.Steps.{fresh_m, fresh_a}
use Rattle.theory.proofs.World.{World}
use Rattle.theory.proofs.Scan.{reached_here}

module _ (H : Shape) where
  abbrev pub F : Flip
  F = record { old = fresh_a.heap; here = λ p. false; addr = λ p. 0; start = 0; last = half H; used = 0; regs = 0; reg = λ k. Nil }

  abbrev pub g : Pair
  g = record { live = λ p. false; to = λ p. 0; done = λ a. false; limit = 0 }

  ok : FlipOk H.lay F
  ok = record {
    below = λ p h. absurd (false≢true h);
    heads = λ p h. absurd (false≢true h);
    closed = λ p i q h l e. absurd (false≢true h);
    fits = λ p i h l. absurd (false≢true h);
    apart = λ p q h k d. absurd (false≢true h);
    outside = λ p h. absurd (false≢true h);
    total = le_refl _;
    roots = λ k p l e. absurd (omega arith);
    near = λ p h. absurd (false≢true h);
    small = omega (arith, H.small);
  }

  inv : LooseInv H.lay F fresh_a.heap (fresh_m H (λ j. 0)).st g
  inv = record {
    many = le_refl _;
    heads = λ p l. refl;
    below = λ p t. absurd (false≢true t);
    came = λ p t m. absurd (false≢true t);
    news = λ p m k. absurd (omega arith);
    valid = λ p t. absurd (false≢true t);
    fits = λ p i t k. absurd (false≢true t);
    limits = omega arith;
    total = omega arith;
    ends = refl;
    within = λ p t m. absurd (false≢true t);
    beyond = λ p t m. absurd (false≢true t);
    apart = λ p q t m d. absurd (false≢true t);
    cover = λ a l m. absurd (omega arith);
    cover_new = λ a l m. absurd (omega arith);
    gone = λ ro p h t. absurd (false≢true t);
    kept = λ p h t. absurd (false≢true h);
    kept_slot = λ p i h t k. absurd (false≢true h);
    kept_same = λ p i h t k. absurd (false≢true h);
    head = λ p t. absurd (false≢true t);
    raw = λ p i t m k d. absurd (false≢true t);
    ready = λ p i t k d. absurd (false≢true t);
    traced = λ p i q t m k d v. absurd (false≢true t);
    fresh = λ a l m. refl;
    new = λ p i t m k. absurd (false≢true t);
  }

  pub fresh_world : (lent : ℕ → ℕ) → World H F (fresh_m H lent) fresh_a
  fresh_world lent = record {
    body = record {
      pair = g;
      ok = ok;
      inv = inv;
      side = record { opens = λ x a c e. absurd (omega arith); cross = λ ro n a c. absurd (omega arith) };
      regs = λ k l. (refl, tt);
      which = omega arith;
      start = omega arith;
      last = omega arith;
      low = omega arith;
      inside = λ p t. absurd (false≢true t);
      phased = record { all = λ p i t k. absurd (false≢true t); every = λ x a c. absurd (omega arith); limit = refl; words = refl; complete = λ p h. absurd (false≢true (reached_here H.lay F ok h)) };
    };
    mut = refl;
    phase = refl;
    count = refl;
  }
