-- One turn of a loop that looks for the lowest number that passes, from p on and before t.
use Rattle.std.proofs.Common.{◌≡◌, ℕ, zero, suc, ◌+◌, ◌-◌, ◌<◌, ◌≤◌, Bool, true, false, cond, Option, Some, None, refl, sym, ap, ◌∙◌, add-one, arith}
use Rattle.std.proofs.iter.Yields.{nat_range_steps}
use Rattle.std.proofs.lemmas.Iterator.{YieldsList-from_range}
use Rattle.std.proofs.lemmas.Iterator.Adapters.{option_map_id}
use Rattle.std.proofs.lemmas.Iterator.Search.{find_from_yields_List}
use Rattle.std.specs.Fn.{CalledAt}
use Rattle.std.specs.Iterator.{FindsItem}
use Rattle.std.specs.List.{find, range_with_len}
use Rattle.std.specs.declared.ops.Range.{Range}
use denote.Param.Members.{Mut}
use denote.Ref.{Bor}
use Rattle.model.specs.Scanning.{lowest}

pub lowest_next : (t p : ℕ) (f : ℕ → Bool) → p < t → f p ≡ false → lowest (t - (p + 1)) (p + 1) f ≡ lowest (t - p) p f
unfolding lowest
lowest_next t p f h e =
    let fuel : t - p ≡ suc (t - (p + 1)) = omega arith in
    let next : p + 1 ≡ suc p = omega arith in
    rw (fuel, e, next)

pub lowest_found : (t p : ℕ) (f : ℕ → Bool) → p < t → f p ≡ true → lowest (t - p) p f ≡ Some p
unfolding lowest
lowest_found t p f h e = let fuel : t - p ≡ suc (t - (p + 1)) = omega arith in rw (fuel, e)

pub lowest_past : (t p : ℕ) (f : ℕ → Bool) → t ≤ p → lowest (t - p) p f ≡ None
unfolding lowest
lowest_past t p f h = let fuel : t - p ≡ 0 = omega arith in rw fuel

-- the first of n numbers from a on that passes is the lowest that does
pub find_is_lowest : (n a : ℕ) (f : ℕ → Bool) → find f (range_with_len a n) ≡ lowest n a f
unfolding lowest
find_is_lowest zero a f = refl
find_is_lowest (suc n) a f = ap (cond (f a) (Some a)) (find_is_lowest n (a + 1) f ∙ ap (λ p. lowest n p f) (add-one a))

-- `find` over a range, with a closure that computes f
pub lowest-from_find : {F : Type 0} {g : Mut F (Bor ℕ × Unit {0}) Bool} (a b : ℕ) (f : ℕ → Bool) (u : Range ℕ) (c : F) (r : Option ℕ) → FindsItem nat_range_steps g (record { start = a; end = b }) c r u → ((x : ℕ) (y : Bool) (q : F) → CalledAt g c x y q → (q ≡ c) × (y ≡ f x)) → r ≡ lowest (b - a) a f
lowest-from_find a b f u c r ran computes =
    sym (option_map_id r) ∙ find_from_yields_List f u c r ran (YieldsList-from_range a b (b - a) refl refl) computes ∙ find_is_lowest (b - a) a f
