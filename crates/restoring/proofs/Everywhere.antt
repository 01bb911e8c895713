-- A test of every number below another, as `all` makes it over a range.
use Rattle.std.proofs.Common.{◌≡◌, ℕ, zero, suc, ◌+◌, Bool, true, false, ◌&&◌, List, Option, refl, sym, ap, ◌∙◌, arith}
use denote.Param.Members.{Mut}
use Rattle.std.specs.declared.ops.Range.{Range}
use Rattle.std.proofs.iter.Yields.{nat_range_steps}
use Rattle.std.specs.Fn.{Called}
use Rattle.std.specs.Iterator.{YieldsThen}
use Rattle.std.specs.List.{FoldsTo, list_all, range_with_len}
use Rattle.std.specs.Option.{MatchOption}
use Rattle.std.proofs.lemmas.Iterator.{YieldsList-from_range}
use Rattle.std.proofs.lemmas.Iterator.Search.{all_from_yields_List}
use Rattle.std.proofs.Math.Bool.{and_assoc}
use Rattle.model.specs.Restoring.{every_below}

and_true : (b : Bool) → (b && true) ≡ b
and_true true = refl
and_true false = refl

-- one number more at the end of a range
range_more : (f : ℕ → Bool) (n a : ℕ) → list_all f (range_with_len a (suc n)) ≡ (list_all f (range_with_len a n) && f (a + n))
range_more f zero a = and_true (f a) ∙ ap f (omega arith)
range_more f (suc n) a =
    let last : a + 1 + n ≡ a + suc n = omega arith in
    ap (λ t. f a && t) (range_more f n (a + 1) ∙ ap (λ j. list_all f (range_with_len (a + 1) n) && f j) last)
    ∙ sym (and_assoc (f a) (list_all f (range_with_len (a + 1) n)) (f (a + suc n)))

every_range : (f : ℕ → Bool) (n : ℕ) → list_all f (range_with_len 0 n) ≡ every_below n f
unfolding every_below
every_range f zero = refl
every_range f (suc n) =
    let last : 0 + n ≡ n = omega arith in
    range_more f n 0 ∙ ap (λ j. list_all f (range_with_len 0 n) && f j) last ∙ ap (λ t. t && f n) (every_range f n)

-- `all` over the numbers below n, by a closure that computes the test
pub every_from_all : {F : Type 0} {g : Mut F (ℕ × Unit {0}) Bool} (test : ℕ → Bool) (n : ℕ) (s u : Range ℕ) (f : F) (r : Bool)
    → (xs : List ℕ) × (o : Option ℕ) × (j : F) × YieldsThen nat_range_steps s xs o u × FoldsTo (λ p x q. Called g p (x, tt) true q) f xs j × MatchOption o (r ≡ true) (λ x. (r ≡ false) × ((h : F) × Called g j (x, tt) false h))
    → s ≡ record { start = 0; end = n }
    → ((x : ℕ) (b : Bool) (q : F) → Called g f (x, tt) b q → (q ≡ f) × (b ≡ test x))
    → r ≡ every_below n test
every_from_all test n s u f r ran is_s computes = all_from_yields_List test u f r ran (YieldsList-from_range 0 n n is_s (omega arith)) computes ∙ every_range test n
