-- The answers so far and those still to come are those of the whole list.
use Rattle.std.proofs.Common.{◌≡◌, ℕ, ◌+◌, ◌<◌, ◌≤◌, List, [], ◌∷◌, ◌++◌, map, length, get_or, take, drop, set, sym, refl, ap, ◌∙◌, append_assoc, append-nil, arith}
use Rattle.std.proofs.lemmas.List.{at_drop_more, at_drop_all, take_more_set, drop-set-lt}
use Rattle.layouts.specs.Layouts.{Rules}
use Rattle.model.specs.Heap.{Heap as Model}
use Rattle.model.specs.Outcomes.{Machine, outcome}
use Rattle.model.specs.Calls.{call, after, answers}
use Rattle.model.specs.declared.calls.Answer.{Answer}
use Rattle.model.specs.declared.calls.Call.{Call}

abbrev pub machine : Model → (ℕ → ℕ) → Machine
machine h b = record { heap = h; buffer = b }

-- A list of calls, each of which the definitions have as f says
module _ {C : Type 0} (L : Rules) (f : C → Call) where
  -- the answers still to give
  abbrev pub rest : Machine → List C → List Answer
  rest x cs = answers L x (map f cs)

  -- where the calls lead
  abbrev pub goal : Machine → List C → Machine
  goal x cs = after L x (map f cs)

  -- After i calls: the first i places have their answers, the others are as they were, and what is left leads to the end
  pub record Reached (cs : List C) (start : Machine) (old : List Answer) (i : ℕ) (x : Machine) (new : List Answer) : Type 0 where
    pub said : take i new ++ rest x (drop i cs) ≡ rest start cs
    pub goes : goal x (drop i cs) ≡ goal start cs
    pub others : (n : ℕ) → i ≤ n → drop n new ≡ drop n old

  pub at_start : (cs : List C) (start : Machine) (old : List Answer) → Reached cs start old 0 start old
  at_start cs start old = record { said = refl; goes = refl; others = λ n h. refl }

  pub one_more : (cs : List C) (start : Machine) (old : List Answer) (i : ℕ) (x y : Machine) (new : List Answer) (d : C) (a : Answer) → i < length cs → i < length new → call L x (f (get_or cs i d)) ≡ outcome y a → Reached cs start old i x new → Reached cs start old (i + 1) y (set new i a)
  one_more cs start old i x y new d a lt in_row did so_far =
      let more = drop (i + 1) cs in
      record {
        said =
            let here : rest x (drop i cs) ≡ rest x (get_or cs i d ∷ more) = at_drop_more (rest x) cs i d lt in
            let step : rest x (get_or cs i d ∷ more) ≡ a ∷ rest y more = ap (λ o. o.answer ∷ answers L o.left (map f more)) did in
            ap (λ xs. xs ++ rest y more) (take_more_set new i a in_row) ∙ append_assoc (take i new) (a ∷ []) _ ∙ sym (ap (λ xs. take i new ++ xs) (here ∙ step)) ∙ so_far.said;
        goes =
            let here : goal x (drop i cs) ≡ goal x (get_or cs i d ∷ more) = at_drop_more (goal x) cs i d lt in
            let step : goal x (get_or cs i d ∷ more) ≡ goal y more = ap (λ o. after L o.left (map f more)) did in
            sym (here ∙ step) ∙ so_far.goes;
        others = λ n h. drop-set-lt n new i a (omega arith) ∙ so_far.others n (omega arith);
      }

  -- after all calls
  module _ (cs : List C) (start : Machine) (old : List Answer) (x : Machine) (new : List Answer) (so_far : Reached cs start old (length cs) x new) where
    pub all_said : take (length cs) new ≡ rest start cs
    all_said = sym (ap (λ xs. take (length cs) new ++ xs) (at_drop_all (rest x) cs (length cs) (omega arith)) ∙ append-nil (take (length cs) new)) ∙ so_far.said

    pub all_gone : x ≡ goal start cs
    all_gone = sym (at_drop_all (goal x) cs (length cs) (omega arith)) ∙ so_far.goes
