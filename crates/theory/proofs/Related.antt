-- Both heaps side by side: what relates them, at the start and after each call.
use Rattle.std.proofs.Common.{◌≡◌, ℕ, ◌*◌, ◌/◌, ◌%◌, ◌≤◌, Bool, true, false, cond, ltb, List, [], ◌∷◌, sym, refl, ap, ◌∙◌, subst, ap₂, arith}
use mathlib.Core.Path.{fun_ext}
use Rattle.std.proofs.lemmas.Bool.{lt-ltb, le-ltb}
use Rattle.memory.specs.Rights.{rank}
use Rattle.memory.specs.Memory.{legal_sizes}
use Rattle.memory.specs.declared.rights.Right.TheVariants.{None, All}
use Rattle.layouts.specs.Layouts.{Rules, Lawful}
use Rattle.layouts.specs.declared.values.Value.TheVariants.{Reference}
use Rattle.model.specs.declared.calls.Call.{Call}
use Rattle.model.specs.Outcomes.{Machine, Told, told, without_counts}
use Rattle.model.specs.Calls.{call, answers}
use Rattle.model.specs.Never.{Never, never_call, never_made, never_answers}
use Rattle.model.specs.Runs.{Accepted, tellings, without_all_counts}
use Rattle.theory.specs.Collect.{Flip as Flipping, Alive}
use Rattle.theory.specs.Machine.{Shape, view_m, refusal as closed_refusal, Machine as Closed, Never as ClosedNeverMoving}
use Rattle.theory.specs.Steps.{fresh_m, call as closed_call, n_call}
use Rattle.theory.specs.Closed.{both_halves, closed_shape, closed, closed_never}
use Rattle.theory.specs.Mutating.{made_with}
use Rattle.theory.proofs.World.{World}
use Rattle.theory.proofs.Rights.{RightsOf, rights_call}
use Rattle.theory.proofs.Sim.{simulate}
use Rattle.theory.proofs.Fresh
use Rattle.theory.proofs.ClosedLaws.{closed_laws, sizes_small, size_positive}
use Rattle.theory.proofs.ClosedNever.{Headed}
use Rattle.theory.proofs.ClosedNeverCalls.{NeverMeets, InRange, sizes, never_meets}
use Rattle.theory.proofs.ClosedMutators.{Meets}
use Rattle.theory.proofs.ClosedCalls.{meets_call, accepted_closed, closed_accepted}

-- In every phase: the sizes stay, no page past the last has a right, the closed forms are paired with the rights that the phase
-- calls for, and every header tells its object's slots
pub record Related (L : Rules) (count size : ℕ) (small : both_halves count size ≤ 16384) (x : Machine) (a : Never) : Type 0 where
  pub page_size : x.heap.memory.page_size ≡ size
  pub page_count : x.heap.memory.page_count ≡ count
  pub past : (p : ℕ) → count ≤ p → rank (x.heap.memory.right p) ≡ 0
  -- what the last FLIP fixed
  pub flip : Flipping
  pub world : World (closed_shape L count size small) flip (closed x) (closed_never a)
  pub rights : RightsOf (closed_shape L count size small) (closed x)
  pub headed : Headed L a.objects

module _ (L : Rules) (lawful : Lawful L) (count size : ℕ) (legal : legal_sizes count size ≡ true) (even : count % 2 ≡ 0) where
  pub small : both_halves count size ≤ 16384
  small = sizes_small count size legal

  abbrev pub H : Shape
  H = closed_shape L count size small

  -- The start

  pub made_as : (b : ℕ → ℕ) → closed (made_with count size b) ≡ fresh_m H b
  made_as b = λ i. record {
    st = record { mem = λ a. 0; top = 0; low = count / 2 * size; right = fun_ext (λ p. right_as (ltb p (count / 2))) i; cross = λ p. 0 };
    scan = λ p. cond (ltb p 64) 0 (p * size);
    pend = λ p. false;
    side = 0;
    used = 0;
    reg = (fresh_m H b).reg;
    mut = (fresh_m H b).mut;
    phase = (fresh_m H b).phase;
    count = 0;
    buf = b;
    mark = 0;
  }
    where
      right_as : (t : Bool) → rank (cond t All None) ≡ cond t 2 0
      right_as true = refl
      right_as false = refl

  pub related_made : (b : ℕ → ℕ) → Related L count size small (made_with count size b) never_made
  related_made b = record {
    page_size = refl;
    page_count = refl;
    past = λ p l. rw (le-ltb p (count / 2) (omega arith));
    flip = Fresh.F H;
    world = subst (λ c. World H (Fresh.F H) c (closed_never never_made)) (sym (made_as b)) (Fresh.fresh_world H b);
    rights = subst (λ c. RightsOf H c) (sym (made_as b)) (λ n i. rw (lt-ltb n (count / 2) (omega arith)));
    headed = λ p l. absurd (omega arith);
  }

  -- A call

  module _ (x : Machine) (a : Never) (r : Related L count size small x a) where
    within : InRange a
    within k p l e =
        let al : Alive r.world.body.pair.live (Reference p) = subst (λ v. Alive r.world.body.pair.live v) e (r.world.body.regs k l).1 in
        r.world.body.inv.below p al

    -- from the closed forms' next states to those of the heaps
    next_related : (y : Machine) (b : Never) (m : Closed) (n : ClosedNeverMoving) (F : Flipping) → closed y ≡ m → closed_never b ≡ n → World H F m n → RightsOf H m →
        y.heap.memory.page_size ≡ size → y.heap.memory.page_count ≡ count → ((p : ℕ) → count ≤ p → rank (y.heap.memory.right p) ≡ 0) → Headed L b.objects → Related L count size small y b
    next_related y b m n F em en w g es ec past h = record {
      page_size = es;
      page_count = ec;
      past = past;
      flip = F;
      world = subst (λ c. World H F c (closed_never b)) (sym em) (subst (λ d. World H F m d) (sym en) w);
      rights = subst (λ c. RightsOf H c) (sym em) g;
      headed = h;
    }

    module _ (c : Call) where
      -- what the closed form does is what the heap does
      pub met : Meets x (call L x c) (closed_call H (closed x) c)
      met = meets_call L lawful x count size r.page_count r.page_size small legal even r.past r.flip (closed_never a) r.world r.rights c

      abbrev t : Told
      t = told (call L x c).answer

      never_met : NeverMeets L (never_call L (sizes L lawful count size small) a c t) (n_call H (closed_never a) c t)
      never_met = never_meets L lawful count size small a r.headed within c t

      pub related_answer : (never_call L (sizes L lawful count size small) a c t).answer ≡ without_counts (call L x c).answer
      related_answer =
          let s = simulate H (closed_laws L lawful) (size_positive count size legal) r.flip (closed x) (closed_never a) r.world c in
          never_met.answer ∙ ap (λ z. (n_call H (closed_never a) c z).answer) met.told_same ∙ s.answer ∙ sym met.answer

      -- the never-moving heap, as its closed form leaves it
      pub never_next : closed_never (never_call L (sizes L lawful count size small) a c t).left ≡ (n_call H (closed_never a) c (closed_call H (closed x) c).told).next
      never_next = never_met.left ∙ ap (λ z. (n_call H (closed_never a) c z).next) met.told_same

      pub related_next : Related L count size small (call L x c).left (never_call L (sizes L lawful count size small) a c t).left
      related_next =
          let pos = size_positive count size legal in
          let s = simulate H (closed_laws L lawful) pos r.flip (closed x) (closed_never a) r.world c in
          next_related _ _ (closed_call H (closed x) c).next (n_call H (closed_never a) c (closed_call H (closed x) c).told).next s.flip
          met.left never_next
          s.world (rights_call H (closed_laws L lawful) pos r.flip (closed x) (closed_never a) r.world r.rights c s.flip _ s.world)
          (met.kept.page_size ∙ r.page_size) (met.kept.page_count ∙ r.page_count)
          (λ p l. ap rank (met.kept.past p (rw r.page_count l)) ∙ r.past p l) never_met.headed

    pub accepted_as : (c : Call) → Accepted L x c → closed_refusal (view_m H (closed x)) c ≡ 0
    accepted_as c e = accepted_closed L lawful count size small legal x r.page_size r.page_count r.flip (closed_never a) r.world r.rights c e

    pub as_accepted : (c : Call) → closed_refusal (view_m H (closed x)) c ≡ 0 → Accepted L x c
    as_accepted c e = closed_accepted L lawful count size small legal x r.page_size r.page_count r.flip (closed_never a) r.world r.rights c e

  -- Lists of calls
  pub answers_related : (x : Machine) (a : Never) → Related L count size small x a → (cs : List Call) → never_answers L (sizes L lawful count size small) a cs (tellings (answers L x cs)) ≡ without_all_counts (answers L x cs)
  answers_related x a r [] = refl
  answers_related x a r (c ∷ cs) = ap₂ ◌∷◌ (related_answer x a r c) (answers_related (call L x c).left _ (related_next x a r c) cs)
