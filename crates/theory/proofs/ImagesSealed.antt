-- An image is sealed in time, by what holds in closed form.
use Rattle.std.proofs.Common.{◌≡◌, ℕ, ◌+◌, ◌/◌, ◌%◌, ◌<◌, ◌≤◌, Bool, true, false, cond, eqb, sym, refl, ap, ◌∙◌, subst, inl, inr, arith}
use Rattle.std.proofs.lemmas.Bool.{cases_eq, eq-eqb, ne_eqb}
use Rattle.std.proofs.lemmas.Bool.Decides.{nat_tests}
use Rattle.memory.specs.Memory.{legal_sizes}
use Rattle.layouts.specs.Layouts.{Rules, Lawful}
use Rattle.model.specs.declared.calls.Call.{Call}
use Rattle.model.specs.declared.calls.Call.TheVariants.{New, Load, Store, Copy, SetNumber, SetNil, Same, Tell, Count, Flip, Step, Take, Resolve, Mark, Save}
use Rattle.model.specs.declared.states.Phase.TheVariants.{Imaging}
use Rattle.model.specs.Outcomes.{Machine}
use Rattle.model.specs.Calls.{call}
use Rattle.model.specs.Checkpoints.{save_in, SinceMark, SinceMark.marks, SinceMark.goes_on, ImagesAreSealed}
use Rattle.theory.specs.Machine.{Shape, view_m, refusal as closed_refusal, Machine as Closed}
use Rattle.theory.specs.Image.{saves, Saving}
use Rattle.theory.specs.Closed.{closed}
use Rattle.theory.proofs.Sealed.{seal_bound}
use Rattle.theory.proofs.ClosedLaws.{closed_laws, size_positive}
use Rattle.theory.proofs.AnswerKinds.{call_kind, saves_accepted, saves_refused}
use Rattle.theory.proofs.MachineRuns.{H, Runs, met, next, accepted, is_accepted, from_start}

saves_by_kind : (S : Shape) (m : Closed) (c : Call) → saves S m c ≡ cond (eqb (call_kind c) 2) (cond (eqb (closed_refusal (view_m S m) c) 0) 1 0) 0
saves_by_kind S m (New k d r w) = refl
saves_by_kind S m (Load k d s i) = refl
saves_by_kind S m (Store k s i x) = refl
saves_by_kind S m (Copy k d f s) = refl
saves_by_kind S m (SetNumber k d n) = refl
saves_by_kind S m (SetNil k d) = refl
saves_by_kind S m (Same k a b) = refl
saves_by_kind S m (Tell k s) = refl
saves_by_kind S m Count = refl
saves_by_kind S m Flip = refl
saves_by_kind S m Step = refl
saves_by_kind S m (Take k) = refl
saves_by_kind S m (Resolve k p n) = refl
saves_by_kind S m (Mark n) = refl
saves_by_kind S m (Save n) = refl

never_counts : (t : Bool) → ◌≡◌ {A = ℕ} (cond t (cond false 1 0) 0) 0
never_counts true = refl
never_counts false = refl

module _ (L : Rules) (lawful : Lawful L) (count size : ℕ) (legal : legal_sizes count size ≡ true) (even : count % 2 ≡ 0) where
  abbrev shape : Shape
  shape = H L lawful count size legal even

  saves_as : (y : Machine) → Runs L lawful count size legal even y → (c : Call) → save_in (call L y c).answer ≡ saves shape (closed y) c
  saves_as y o c = elim (cases_eq (closed_refusal (view_m shape (closed y)) c) 0) [
    | inl e ↦ saves_accepted L y c (is_accepted L lawful count size legal even y o c e) ∙ sym (saves_by_kind shape (closed y) c ∙ ap (λ t. cond (eqb (call_kind c) 2) (cond t 1 0) 0) (eq-eqb (closed_refusal (view_m shape (closed y)) c) 0 e))
    | inr ne ↦ saves_refused L y c (λ e. ne (accepted L lawful count size legal even y o c e)) ∙ sym (saves_by_kind shape (closed y) c ∙ ap (λ t. cond (eqb (call_kind c) 2) (cond t 1 0) 0) (ne_eqb (closed_refusal (view_m shape (closed y)) c) 0 ne) ∙ never_counts (eqb (call_kind c) 2))
  ]

  -- a moment of an image, in closed form
  record Moment (k : ℕ) (y : Machine) : Type 0 where
    pub runs : Runs L lawful count size legal even y
    pub saving : Saving shape k (closed y)

  next_moment : (k : ℕ) (y : Machine) → Moment k y → y.heap.phase ≡ Imaging → (c : Call) → Moment (k + save_in (call L y c).answer) (call L y c).left
  next_moment k y s imaging c = record {
    runs = next L lawful count size legal even y s.runs c;
    saving = subst (λ z. Saving shape z (closed (call L y c).left)) (ap (λ z. k + z) (sym (saves_as y s.runs c))) (subst (λ m. Saving shape (k + saves shape (closed y) c) m) (sym (met L lawful count size legal even y s.runs c).left) (Saving.goes s.saving imaging c));
  }

  moment : (x : Machine) → Runs L lawful count size legal even x → {k : ℕ} {y : Machine} → SinceMark L x k y → Moment k y
  moment x o (marks n e) = record {
    runs = next L lawful count size legal even x o (Mark n);
    saving = subst (λ m. Saving shape 0 m) (sym (met L lawful count size legal even x o (Mark n)).left) (Saving.begun (closed x) n (accepted L lawful count size legal even x o (Mark n) e));
  }
  moment x o (goes_on {k = k} {y = y} s imaging c) = next_moment k y (moment x o s) imaging c

  -- a half has a page, as the number of pages is even and not 0
  some_pages : 0 < count / 2
  some_pages = let k : 1 ≤ count = grind (arith, nat_tests, legal) in omega arith

  pub sealed_in_time : (x₀ : Machine) → Runs L lawful count size legal even x₀ → ImagesAreSealed L x₀
  sealed_in_time x₀ o xs k x y ex s imaging =
      let n = moment x (from_start L lawful count size legal even x₀ o xs x ex) s in
      rw n.runs.tied.page_count (seal_bound shape (closed_laws L lawful) (size_positive count size legal) some_pages k (closed y) n.saving imaging)
