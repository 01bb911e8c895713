-- A list of the mutators' calls as a list of all calls.
use native.Mathlib.Omega.{arith}
use Rattle.std.proofs.Common.{◌≡◌, ℕ, suc, ◌<◌, List, [], ◌∷◌, length, refl, ap, ◌∙◌, slice_index_or}
use Rattle.model.specs.declared.calls.Call.{Call}
use Rattle.runs.specs.Lists.{as_call, as_calls}
use Rattle.runs.specs.declared.lists.MutatorCall.{MutatorCall}

pub mapped : (xs : List MutatorCall) (ys : List Call) → length ys ≡ length xs → ((i : ℕ) (d : MutatorCall) (e : Call) → i < length xs → slice_index_or ys i e ≡ as_call (slice_index_or xs i d)) → ys ≡ as_calls xs
mapped [] [] long at = refl
mapped [] (y ∷ ys) long at = grind arith
mapped (x ∷ xs) [] long at = grind arith
mapped (x ∷ xs) (y ∷ ys) long at =
    let first : y ≡ as_call x = at 0 x y (omega arith) in
    let rest : ys ≡ as_calls xs = mapped xs ys (omega (arith, long)) (λ i d e l. at (suc i) d e (omega (arith, l))) in
    ap (λ z. z ∷ ys) first ∙ ap (λ zs. as_call x ∷ zs) rest
