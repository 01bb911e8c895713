-- A list of calls carried out from a start.
use Rattle.std.proofs.Common.{◌≡◌, ℕ, ◌%◌, false, Ok, eqb, List, length, take, Option, sym, ap, ◌∙◌, subst, arith}
use Rattle.std.proofs.lemmas.List.{length-map}
use Rattle.memory.specs.Memory.{Memory}
use Rattle.memory.specs.declared.refusals.Refusal.{Refusal}
use Rattle.memory.specs.declared.refusals.Refusal.TheVariants.{Size, Short}
use Rattle.layouts.specs.Layouts.{Rules, Lawful}
use Rattle.model.specs.Heap.{Heap as Model}
use Rattle.model.specs.Never.{never_answers}
use Rattle.model.specs.Outcomes.{Machine}
use Rattle.model.specs.Refusing.{refuse_if}
use Rattle.model.specs.Runs.{Both, sizes_of, tellings, without_all_counts}
use Rattle.model.specs.Starts.{Start}
use Rattle.model.specs.declared.calls.Answer.{Answer}
use Rattle.model.specs.declared.calls.Call.{Call}
use Rattle.theory.proofs.Promises.{heaps_keep_their_promises}
use Rattle.runs.specs.Lists.{lacks_places}
use Rattle.runs.proofs.Places.{enough}
use Rattle.runs.proofs.Turns.{Reached, all_said, all_gone}
use Rattle.whole_runs.specs.Calls.{within, all_within}
use Rattle.whole_runs.specs.Lists.{with_buffer, CarriedOn, make_refusal, unless_places, Ran}

-- after all calls of a list, with a buffer of n words
pub all_carried : (L : Rules) (n : ℕ) (cs : List Call) (start : Machine) (old : List Answer) (h : Model) (xs : List ℕ) (new : List Answer) → Reached L (within n) cs start old (length cs) (with_buffer h xs) new → (m : Memory) → m ≡ h.memory → CarriedOn L start (all_within n cs) old new xs m
all_carried L n cs start old h xs new so_far m is =
    let long : length (all_within n cs) ≡ length cs = length-map cs (within n) in
    let gone = all_gone L (within n) cs start old (with_buffer h xs) new so_far in
    record {
      answered = ap (λ k. take k new) long ∙ all_said L (within n) cs start old (with_buffer h xs) new so_far;
      others = so_far.others (length (all_within n cs)) (omega (arith, long));
      buffer_left = ap (λ x. x.buffer) gone;
      memory = is ∙ ap (λ x. x.heap.memory) gone;
    }

-- Refusals

pub not_refused : (m : Memory) (places calls : ℕ) (rest : Option Refusal) → lacks_places m places calls ≡ false → unless_places m places calls rest ≡ rest
not_refused m places calls rest lacks = ap (λ b. refuse_if b Short rest) lacks

pub made_when_even : (m : Memory) → m.page_count % 2 ≡ 0 → make_refusal m ≡ Option.None
made_when_even m even = ap (λ n. refuse_if (eqb n 1) Size Option.None) even

-- a list carried out from a start that nothing refuses
pub ran : {H K : Type 0} (L : Rules) (means : H → Memory) (refused : Option Refusal) (start : Both) (host : H) (layout : K) (cs : List Call) (old new : List Answer) (xs ys : List ℕ) (h : Model) (p : H × K) → Lawful L → Start L start → lacks_places (means host) (length old) (length cs) ≡ false → (means host).page_count % 2 ≡ 0 → refused ≡ Option.None → with_buffer h xs ≡ start.moving → CarriedOn L (with_buffer h xs) (all_within (length xs) cs) old new ys (means p.0) → p.1 ≡ layout → Ran L means refused start host layout cs old new xs ys (Ok p)
ran L means refused start host layout cs old new xs ys h p lawful starts enough_places even fits is on back =
    let kept = heaps_keep_their_promises L lawful start starts in
    let all = all_within (length xs) cs in
    let carried = subst (λ x. CarriedOn L x all old new ys (means p.0)) is on in
    let Agree : List Answer → Type 0 = λ zs. never_answers L (sizes_of start.moving) start.never all (tellings zs) ≡ without_all_counts zs in (
      not_refused (means host) (length old) (length cs) refused enough_places ∙ fits,
      record {
        places = omega (arith, length-map cs (within (length xs)), enough (means host) (length old) (length cs) even enough_places);
        carried = carried;
        as_if_nothing_moved = subst Agree (sym carried.answered) (kept.answers all);
        promises = kept;
      },
      back,
    )
