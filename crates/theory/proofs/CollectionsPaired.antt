-- From a FLIP to the STEP that ends it, by what holds in closed form.
use Rattle.std.proofs.Common.{◌≡◌, ℕ, ◌+◌, ◌*◌, ◌%◌, ◌<◌, ◌≤◌, max, true, List, [], ◌∷◌, length, sym, refl, ap, ◌∙◌, subst, arith}
use Rattle.memory.specs.Memory.{legal_sizes}
use Rattle.layouts.specs.Layouts.{Rules, Lawful}
use Rattle.model.specs.declared.calls.Call.{Call}
use Rattle.model.specs.declared.calls.Call.TheVariants.{Flip, Step}
use Rattle.model.specs.declared.states.Phase.TheVariants.{Collecting}
use Rattle.model.specs.Outcomes.{told, Told.ended}
use Rattle.model.specs.Calls.{call}
use Rattle.model.specs.Never.{Sizes}
use Rattle.model.specs.Collections.{Tally, tallied, SinceFlip, SinceFlip.flips, SinceFlip.goes_on, Paired, Complete, pages_for}
use Rattle.model.specs.Runs.{Both, both_after, both_after_all, Accepted}
use Rattle.theory.specs.Machine.{Shape, Machine as Closed, Never as ClosedNeverMoving}
use Rattle.theory.specs.Steps.{call as closed_call, n_call}
use Rattle.theory.specs.Pairing.{SinceFrom, SinceFrom.flips, Paired as ClosedPaired, Ends}
use Rattle.theory.specs.Bounds.{SteppingFrom, SteppingFrom.flips}
use Rattle.theory.specs.Closed.{closed, closed_never}
use Rattle.theory.proofs.Collects.{SimOf, Lasts, lasts, collects}
use Rattle.theory.proofs.StepBound.{step_bound}
use Rattle.theory.proofs.ClosedLaws.{closed_laws, size_positive}
use Rattle.theory.proofs.ClosedMutators.{Meets, ends_inside}
use Rattle.theory.proofs.ClosedNeverCalls.{sizes}
use Rattle.theory.proofs.ClosedPairing.{paired_as, complete_as}
use Rattle.theory.proofs.AnswerKinds.{steps_as, stepless, ends_by_step}
use Rattle.theory.proofs.Related.{Related, small, H, accepted_as, met, never_next, related_next}

module _ (L : Rules) (lawful : Lawful L) (count size : ℕ) (legal : legal_sizes count size ≡ true) (even : count % 2 ≡ 0) where
  abbrev pub shape : Shape
  shape = H L lawful count size legal even

  abbrev pub fed : Sizes
  fed = sizes L lawful count size (small L lawful count size legal even)

  abbrev pub Tied : Both → Type 0
  Tied y = Related L count size (small L lawful count size legal even) y.moving y.never

  -- the next moment
  module _ (y : Both) (o : Tied y) (c : Call) where
    pub met_at : Meets y.moving (call L y.moving c) (closed_call shape (closed y.moving) c)
    met_at = met L lawful count size legal even y.moving y.never o c

    pub never_at : closed_never (both_after L fed y c).never ≡ (n_call shape (closed_never y.never) c (closed_call shape (closed y.moving) c).told).next
    never_at = never_next L lawful count size legal even y.moving y.never o c

    pub tied_next : Tied (both_after L fed y c)
    tied_next = related_next L lawful count size legal even y.moving y.never o c

  pub tied_after : (y : Both) → Tied y → (cs : List Call) → Tied (both_after_all L fed y cs)
  tied_after y o [] = o
  tied_after y o (c ∷ cs) = tied_after (both_after L fed y c) (tied_next y o c) cs

  -- A collection, from its FLIP at y
  module _ (y : Both) (o : Tied y) where
    abbrev turning : Closed
    turning = closed y.moving

    abbrev before : ClosedNeverMoving
    before = closed_never y.never

    paired_before : SimOf shape turning before
    paired_before = record { flip = o.flip; world = o.world }

    pub record Moment (t : Tally) (x : Both) : Type 0 where
      pub tied : Tied x
      pub since : SinceFrom shape turning before t.copied t.scanned (closed x.moving) (closed_never x.never)
      pub stepping : SteppingFrom shape turning before t.steps (closed x.moving) (closed_never x.never)

    since_as : (co co₂ sc sc₂ : ℕ) (m m₂ : Closed) (n n₂ : ClosedNeverMoving) → co ≡ co₂ → sc ≡ sc₂ → m ≡ m₂ → n ≡ n₂ → SinceFrom shape turning before co sc m n → SinceFrom shape turning before co₂ sc₂ m₂ n₂
    since_as co co₂ sc sc₂ m m₂ n n₂ ec es em en s =
        subst (λ z. SinceFrom shape turning before co₂ sc₂ m₂ z) en (subst (λ z. SinceFrom shape turning before co₂ sc₂ z n) em (subst (λ z. SinceFrom shape turning before co₂ z m n) es (subst (λ z. SinceFrom shape turning before z sc m n) ec s)))

    stepping_as : (k k₂ : ℕ) (m m₂ : Closed) (n n₂ : ClosedNeverMoving) → k ≡ k₂ → m ≡ m₂ → n ≡ n₂ → SteppingFrom shape turning before k m n → SteppingFrom shape turning before k₂ m₂ n₂
    stepping_as k k₂ m m₂ n n₂ ek em en s = subst (λ z. SteppingFrom shape turning before k₂ m₂ z) en (subst (λ z. SteppingFrom shape turning before k₂ z n) em (subst (λ z. SteppingFrom shape turning before z m n) ek s))

    flip_moment : Accepted L y.moving Flip → Moment (tallied (record { copied = 0; scanned = 0; steps = 0 }) (call L y.moving Flip).answer) (both_after L fed y Flip)
    flip_moment e =
        let met = met_at y o Flip in
        let f = accepted_as L lawful count size legal even y.moving y.never o Flip e in
        record {
          tied = tied_next y o Flip;
          since = since_as _ _ _ _ _ _ _ _ (omega (arith, met.copied_same)) (omega (arith, met.scanned_same)) (sym met.left) (sym (never_at y o Flip)) (SinceFrom.flips f);
          stepping = stepping_as _ _ _ _ _ _ (omega (arith, stepless L y.moving Flip refl)) (sym met.left) (sym (never_at y o Flip)) (SteppingFrom.flips f);
        }

    next_moment : (t : Tally) (x : Both) → Moment t x → x.moving.heap.phase ≡ Collecting → (c : Call) → Moment (tallied t (call L x.moving c).answer) (both_after L fed x c)
    next_moment t x s busy c =
        let met = met_at x s.tied c in
        record {
          tied = tied_next x s.tied c;
          since = since_as _ _ _ _ _ _ _ _ (ap (λ n. t.copied + n) (sym met.copied_same)) (ap (λ n. t.scanned + n) (sym met.scanned_same)) (sym met.left) (sym (never_at x s.tied c)) (SinceFrom.goes s.since busy c);
          stepping = stepping_as _ _ _ _ _ _ (ap (λ n. t.steps + n) (sym (steps_as L x.moving busy c))) (sym met.left) (sym (never_at x s.tied c)) (SteppingFrom.goes s.stepping busy c);
        }

    pub moment : {t : Tally} {x : Both} → SinceFlip L fed y t x → Moment t x
    moment (flips e) = flip_moment e
    moment (goes_on {t = t} {x = x} s busy c) = next_moment t x (moment s) busy c

    -- what FLIP fixed, at each moment
    kept_at : (t : Tally) (x : Both) → Moment t x → Lasts shape before t.copied t.scanned (closed x.moving) (closed_never x.never)
    kept_at t x s = lasts shape (closed_laws L lawful) (size_positive count size legal) paired_before s.since

    module _ (t : Tally) (x : Both) (s : Moment t x) (k : Lasts shape before t.copied t.scanned (closed x.moving) (closed_never x.never)) where
      grown : length y.never.objects ≤ length x.never.objects
      grown = omega (arith, k.world.body.inv.many, ap (λ A. A.many) k.old)

      ends : x.moving.heap.space.copy_end ≤ count * size
      ends = let l = k.world.body.inv.limits in omega (arith, k.world.body.last, k.world.body.start, ends_inside count size (closed x.moving).side k.world.body.which)

      pairs : ClosedPaired shape before (closed x.moving) (closed_never x.never) → Paired L y.never x.moving.heap x.never
      pairs = paired_as L count size (small L lawful count size legal even) legal y.never x.moving x.never s.tied.page_size s.tied.page_count ends
          o.headed s.tied.headed grown k.flip k.world.body.ok k.old k.regs k.reg

      completes : Ends shape before t.copied t.scanned (closed x.moving) (closed_never x.never) → Complete L y.never t x.moving.heap x.never
      completes = complete_as L count size (small L lawful count size legal even) legal y.never x.moving x.never s.tied.page_size s.tied.page_count ends
          o.headed s.tied.headed grown k.flip k.world.body.ok k.old k.regs k.reg t

    ends_as : (co co₂ sc sc₂ : ℕ) (m m₂ : Closed) (n n₂ : ClosedNeverMoving) → co ≡ co₂ → sc ≡ sc₂ → m ≡ m₂ → n ≡ n₂ → Ends shape before co sc m n → Ends shape before co₂ sc₂ m₂ n₂
    ends_as co co₂ sc sc₂ m m₂ n n₂ ec es em en s =
        subst (λ z. Ends shape before co₂ sc₂ m₂ z) en (subst (λ z. Ends shape before co₂ sc₂ z n) em (subst (λ z. Ends shape before co₂ z m n) es (subst (λ z. Ends shape before z sc m n) ec s)))

    module _ (t : Tally) (x : Both) (s : Moment t x) (busy : x.moving.heap.phase ≡ Collecting) where
      pub paired_now : Paired L y.never x.moving.heap x.never
      paired_now = pairs t x s (kept_at t x s) (collects shape (closed_laws L lawful) (size_positive count size legal) turning before paired_before t.copied t.scanned (closed x.moving) (closed_never x.never) s.since busy).0

      pub few_steps : t.steps < max 1 (pages_for x.moving.heap.memory.page_size x.never.reached)
      few_steps = rw s.tied.page_size (step_bound shape (closed_laws L lawful) (size_positive count size legal) turning before paired_before t.steps (closed x.moving) (closed_never x.never) s.stepping busy)

      at_end : told (call L x.moving Step).answer ≡ ended → Complete L y.never (tallied t (call L x.moving Step).answer) (call L x.moving Step).left.heap (both_after L fed x Step).never
      at_end e =
          let met = met_at x s.tied Step in
          let n = next_moment t x s busy Step in
          let f : (closed_call shape (closed x.moving) Step).told ≡ ended = sym met.told_same ∙ e in
          let last = (collects shape (closed_laws L lawful) (size_positive count size legal) turning before paired_before t.copied t.scanned (closed x.moving) (closed_never x.never) s.since busy).1 f in
          completes _ _ n (kept_at _ _ n) (ends_as _ _ _ _ _ _ _ _ (ap (λ k. t.copied + k) (sym met.copied_same)) (ap (λ k. t.scanned + k) (sym met.scanned_same)) (sym met.left)
          (ap (λ z. (n_call shape (closed_never x.never) Step z).next) (sym f) ∙ sym (never_at x s.tied Step)) last)

      pub complete_at_end : (c : Call) → told (call L x.moving c).answer ≡ ended → Complete L y.never (tallied t (call L x.moving c).answer) (call L x.moving c).left.heap (both_after L fed x c).never
      complete_at_end c e =
          subst (λ k. told (call L x.moving k).answer ≡ ended → Complete L y.never (tallied t (call L x.moving k).answer) (call L x.moving k).left.heap (both_after L fed x k).never) (sym (ends_by_step L x.moving c e)) at_end e
