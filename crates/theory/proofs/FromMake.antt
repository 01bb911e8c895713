-- The promises one by one, over lists of calls that begin at MAKE.
use Rattle.std.proofs.Common.{◌≡◌, ℕ, ◌<◌, List, [], ◌∷◌, refl, ap₂, arith}
use Rattle.std.proofs.lemmas.Bool.{lt-ltb}
use Rattle.model.specs.declared.calls.Call.{Call}
use Rattle.model.specs.Starts.{both_made, Start.at_make}
use Rattle.theory.specs.Collect.{Laws, Flip, Heap, St, Pair, Room, Inv, LooseInv, Side, LooseSide}
use Rattle.theory.specs.Model.{Layout}
use Rattle.theory.specs.Machine.{Shape, Machine, Never}
use Rattle.theory.specs.Steps.{call, n_call, fresh_m, fresh_a, run_m, run_a, answers}
use Rattle.theory.specs.Pairing.{Comes, Comes.made, Comes.called, Since, Since.flips, Since.goes, SinceFrom, SinceFrom.flips as flips_from, SinceFrom.goes as goes_from, Collects}
use Rattle.theory.specs.Bounds.{Stepping, Stepping.flips as step_flips, Stepping.goes as step_goes, SteppingFrom, SteppingFrom.flips as step_flips_from, SteppingFrom.goes as step_goes_from, StepBound}
use Rattle.theory.specs.Image.{ImageSealed}
use Rattle.theory.specs.Restore.{ImageRestores}
use Rattle.theory.specs.Runs.{AccessRepeats, NewRepeats, TrapsWhen}
use Rattle.theory.specs.Mutating.{MutatorsAnswerAsIfNothingMoved}
use Rattle.theory.specs.Promises.{HeapsAnswerAsIfNothingMoved, CollectionsCopyTheReached, CallsGoOn, AllImagesAreSealed, AllImagesRestoreTheirMoment}
use Rattle.theory.specs.Theorems.{RunsAgree, AllCollect, StepsBounded, AllRepeat, AllSealed, AllAgain, AllRestore, AllTrap}
use Rattle.theory.proofs.World.{World}
use Rattle.theory.proofs.Sim.{simulate}
use Rattle.theory.proofs.Fresh
use Rattle.theory.proofs.Collects.{SimOf, collects}
use Rattle.theory.proofs.StepBound.{step_bound}
use Rattle.theory.proofs.Rights.{Good}
use Rattle.theory.proofs.Repeats.{access_repeats}
use Rattle.theory.proofs.NewRepeats.{new_repeats}
use Rattle.theory.proofs.Sealed.{image_sealed, seal_bound}
use Rattle.theory.proofs.Restores.{image_restores}
use Rattle.theory.proofs.Again.{image_again, image_again_whole}
use Rattle.theory.proofs.Traps.{traps_when}
use Rattle.theory.proofs.Promises.{heaps_keep_their_promises}

-- Where copies have room for all that was in use at FLIP, the loose invariant is the whole one.

pub inv_tight : (L : Layout) (F : Flip) (A : Heap) (s : St) (g : Pair) → Room F g → LooseInv L F A s g → Inv L F A s g
inv_tight L F A s g room i = record {
  many = i.many;
  heads = i.heads;
  below = i.below;
  came = i.came;
  news = i.news;
  valid = i.valid;
  fits = i.fits;
  limits = i.limits;
  total = i.total;
  ends = i.ends;
  within = i.within;
  beyond = i.beyond;
  apart = i.apart;
  cover = i.cover;
  cover_new = i.cover_new;
  gone = i.gone room;
  kept = i.kept;
  kept_slot = i.kept_slot;
  kept_same = i.kept_same;
  head = i.head;
  raw = i.raw;
  ready = i.ready;
  traced = i.traced;
  fresh = i.fresh;
  new = i.new;
}

pub side_tight : (L : Layout) (P : ℕ) (F : Flip) (A : Heap) (s : St) (g : Pair) → Room F g → LooseSide L P F A s g → Side L P F A s g
side_tight L P F A s g room i = record { opens = i.opens; cross = i.cross room }

module _ (H : Shape) (laws : Laws H.lay) (pos : 0 < H.page) where
  pub comes : {m : Machine} {a : Never} → Comes H m a → SimOf H m a
  comes (made lent) = record { flip = Fresh.F H; world = Fresh.fresh_world H lent }
  comes (called {m = m} {a = a} c k) =
      let s = comes c in
      let o = simulate H laws pos s.flip m a s.world k in
      record { flip = o.flip; world = o.world }

  pub good_fresh : (lent : ℕ → ℕ) → Good H (fresh_m H lent)
  good_fresh lent = record { flip = Fresh.F H; never = fresh_a; world = Fresh.fresh_world H lent; rights = λ n i. rw (lt-ltb n H.pages (omega arith)) }

  -- a collection since MAKE is one from some FLIP
  since_from : {a₀ : Never} {co sc : ℕ} {m : Machine} {a : Never} → Since H a₀ co sc m a → (m₀ : Machine) × (Comes H m₀ a₀) × (SinceFrom H m₀ a₀ co sc m a)
  since_from (flips {m = m} c e) = (m, c, flips_from e)
  since_from (goes s pc c) = let b = since_from s in (b.0, b.1, goes_from b.2 pc c)

  stepping_from : {n : ℕ} {m : Machine} {a : Never} → Stepping H n m a → (m₀ : Machine) × ((a₀ : Never) × (Comes H m₀ a₀) × (SteppingFrom H m₀ a₀ n m a))
  stepping_from (step_flips {m = m} {a = a} c e) = (m, (a, c, step_flips_from e))
  stepping_from (step_goes s pc c) = let b = stepping_from s in (b.0, (b.1.0, b.1.1, step_goes_from b.1.2 pc c))

  pub collects_made : Collects H
  collects_made a₀ co sc m a s pc = let b = since_from s in collects H laws pos b.0 a₀ (comes b.1) co sc m a b.2 pc

  pub step_bound_made : StepBound H
  step_bound_made n m a s pc = let b = stepping_from s in step_bound H laws pos b.0 b.1.0 (comes b.1.1) n m a b.1.2 pc

  -- over any list of calls
  run_agrees : (F : Flip) (m : Machine) (a : Never) → World H F m a → (cs : List Call) → run_a H a cs (run_m H m cs) ≡ answers (run_m H m cs)
  run_agrees F m a w [] = refl
  run_agrees F m a w (c ∷ cs) =
      let o = simulate H laws pos F m a w c in
      ap₂ ◌∷◌ o.answer (run_agrees o.flip (call H m c).next (n_call H a c (call H m c).told).next o.world cs)

  pub runs_agree_made : (lent : ℕ → ℕ) (cs : List Call) → run_a H fresh_a cs (run_m H (fresh_m H lent) cs) ≡ answers (run_m H (fresh_m H lent) cs)
  runs_agree_made lent cs = run_agrees (Fresh.F H) (fresh_m H lent) fresh_a (Fresh.fresh_world H lent) cs

  pub access_repeats_made : AccessRepeats H
  access_repeats_made lent = access_repeats H laws pos (fresh_m H lent) (good_fresh lent)

  pub new_repeats_made : NewRepeats H
  new_repeats_made lent = new_repeats H laws pos (fresh_m H lent) (good_fresh lent)

  pub image_sealed_made : ImageSealed H
  image_sealed_made lent = image_sealed H laws pos (fresh_m H lent) (good_fresh lent)

  pub image_restores_made : ImageRestores H
  image_restores_made lent = image_restores H laws pos (fresh_m H lent) (good_fresh lent)

  pub traps_when_made : TrapsWhen H
  traps_when_made lent = traps_when H laws pos (fresh_m H lent) (good_fresh lent)

-- The theorems of the closed form

pub runs_agree : RunsAgree
runs_agree H laws pos lent cs = runs_agree_made H laws pos lent cs

pub all_collect : AllCollect
all_collect H laws pos = collects_made H laws pos

pub steps_bounded : StepsBounded
steps_bounded H laws pos = step_bound_made H laws pos

pub all_repeat : AllRepeat
all_repeat H laws pos = (access_repeats_made H laws pos, new_repeats_made H laws pos)

pub all_sealed : AllSealed
all_sealed H laws pos some = (image_sealed_made H laws pos, seal_bound H laws pos some)

pub all_again : AllAgain
all_again H laws pos some = (image_again H laws pos, image_again_whole H laws pos some)

pub all_restore : AllRestore
all_restore H laws pos = image_restores_made H laws pos

pub all_trap : AllTrap
all_trap H laws pos = traps_when_made H laws pos

-- The promises

pub heaps_answer_as_if_nothing_moved : HeapsAnswerAsIfNothingMoved
heaps_answer_as_if_nothing_moved L lawful count size legal even b = (heaps_keep_their_promises L lawful (both_made count size b) (at_make count size legal even b)).answers

pub mutators_answer_as_if_nothing_moved : MutatorsAnswerAsIfNothingMoved
mutators_answer_as_if_nothing_moved L lawful count size legal even b cs o = heaps_answer_as_if_nothing_moved L lawful count size legal even b cs

pub collections_copy_the_reached : CollectionsCopyTheReached
collections_copy_the_reached L lawful count size legal even b = (heaps_keep_their_promises L lawful (both_made count size b) (at_make count size legal even b)).collection

pub calls_go_on : CallsGoOn
calls_go_on L lawful count size legal even b = (heaps_keep_their_promises L lawful (both_made count size b) (at_make count size legal even b)).repeats

pub all_images_are_sealed : AllImagesAreSealed
all_images_are_sealed L lawful count size legal even b = (heaps_keep_their_promises L lawful (both_made count size b) (at_make count size legal even b)).sealed

pub all_images_restore_their_moment : AllImagesRestoreTheirMoment
all_images_restore_their_moment L lawful count size legal even b = (heaps_keep_their_promises L lawful (both_made count size b) (at_make count size legal even b)).images
