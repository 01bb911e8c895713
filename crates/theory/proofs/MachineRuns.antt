-- Lists of calls on the moving heap, and the same on its closed form.
use Rattle.std.proofs.Common.{◌≡◌, ℕ, ◌%◌, Bool, true, List, [], ◌∷◌, sym, refl, ap, ◌∙◌, subst}
use Rattle.memory.specs.Memory.{legal_sizes}
use Rattle.layouts.specs.Layouts.{Rules, Lawful}
use Rattle.model.specs.declared.calls.Answer.TheVariants.{Trapped}
use Rattle.model.specs.declared.calls.Call.{Call}
use Rattle.model.specs.Outcomes.{Machine, without_counts}
use Rattle.model.specs.Calls.{call, after}
use Rattle.model.specs.Never.{Never}
use Rattle.model.specs.Runs.{Accepted, NoneAccepted}
use Rattle.theory.specs.Machine.{Shape, view_m, refusal as closed_refusal}
use Rattle.theory.specs.Steps.{call as closed_call}
use Rattle.theory.specs.Runs.{after as closed_after, Quiet}
use Rattle.theory.specs.Closed.{closed, closed_never}
use Rattle.theory.proofs.ClosedMutators.{Meets}
use Rattle.theory.proofs.Rights.{Good}
use Rattle.theory.proofs.Related.{accepted_as, as_accepted}
use Rattle.theory.proofs.CollectionsPaired.{shape, Tied, met_at, tied_next}

module _ (L : Rules) (lawful : Lawful L) (count size : ℕ) (legal : legal_sizes count size ≡ true) (even : count % 2 ≡ 0) where
  abbrev pub H : Shape
  H = shape L lawful count size legal even

  -- a state of the moving heap, with a never-moving heap beside it
  pub record Runs (x : Machine) : Type 0 where
    pub never : Never
    pub tied : Tied L lawful count size legal even (record { moving = x; never = never })

  pub good : (x : Machine) → Runs x → Good H (closed x)
  good x o = record { flip = o.tied.flip; never = closed_never o.never; world = o.tied.world; rights = o.tied.rights }

  module _ (x : Machine) (o : Runs x) (c : Call) where
    pub met : Meets x (call L x c) (closed_call H (closed x) c)
    met = met_at L lawful count size legal even (record { moving = x; never = o.never }) o.tied c

    pub next : Runs (call L x c).left
    next = record { never = _; tied = tied_next L lawful count size legal even (record { moving = x; never = o.never }) o.tied c }

    pub accepted : Accepted L x c → closed_refusal (view_m H (closed x)) c ≡ 0
    accepted e = accepted_as L lawful count size legal even x o.never o.tied c e

    pub is_accepted : closed_refusal (view_m H (closed x)) c ≡ 0 → Accepted L x c
    is_accepted e = as_accepted L lawful count size legal even x o.never o.tied c e

    -- a trap is one in closed form, and the other way round
    pub traps : (p : ℕ) → (call L x c).answer ≡ Trapped p → (closed_call H (closed x) c).answer ≡ Trapped p
    traps p e = sym met.answer ∙ ap without_counts e

  pub runs_after : (x : Machine) → Runs x → (cs : List Call) → Runs (after L x cs)
  runs_after x o [] = o
  runs_after x o (c ∷ cs) = runs_after (call L x c).left (next x o c) cs

  pub after_as : (x : Machine) → Runs x → (cs : List Call) → closed (after L x cs) ≡ closed_after H (closed x) cs
  after_as x o [] = refl
  after_as x o (c ∷ cs) = after_as (call L x c).left (next x o c) cs ∙ ap (λ m. closed_after H m cs) (met x o c).left

  pub quiet_as : (f : Call → Bool) (x : Machine) → Runs x → (cs : List Call) → NoneAccepted L f x cs → Quiet H f (closed x) cs
  quiet_as f x o [] k = tt
  quiet_as f x o (c ∷ cs) k = ((λ t e. k.0 t (is_accepted x o c e)), subst (λ m. Quiet H f m cs) (met x o c).left (quiet_as f (call L x c).left (next x o c) cs k.1))

  -- the states after a call c and then the calls ys
  module _ (x : Machine) (o : Runs x) (c : Call) (ys : List Call) where
    pub later : (y : Machine) → y ≡ after L (call L x c).left ys → Runs y
    later y e = subst Runs (sym e) (runs_after (call L x c).left (next x o c) ys)

    pub later_as : (y : Machine) → y ≡ after L (call L x c).left ys → closed y ≡ closed_after H (closed_call H (closed x) c).next ys
    later_as y e = ap closed e ∙ after_as (call L x c).left (next x o c) ys ∙ ap (λ k. closed_after H k ys) (met x o c).left

    pub later_quiet : (f : Call → Bool) → NoneAccepted L f (call L x c).left ys → Quiet H f (closed_call H (closed x) c).next ys
    later_quiet f n = subst (λ k. Quiet H f k ys) (met x o c).left (quiet_as f (call L x c).left (next x o c) ys n)

  -- a call c right after a call r
  pub again : (y : Machine) (o : Runs y) (r c : Call) (q : ℕ) → (call L (call L y r).left c).answer ≡ Trapped q → (closed_call H (closed_call H (closed y) r).next c).answer ≡ Trapped q
  again y o r c q e = ap (λ k. (closed_call H k c).answer) (sym (met y o r).left) ∙ traps (call L y r).left (next y o r) c q e

  -- from a start x₀
  module _ (x₀ : Machine) (o : Runs x₀) (xs : List Call) (x : Machine) (e : x ≡ after L x₀ xs) where
    pub from_start : Runs x
    from_start = subst Runs (sym e) (runs_after x₀ o xs)

    pub start_as : closed x ≡ closed_after H (closed x₀) xs
    start_as = ap closed e ∙ after_as x₀ o xs
