-- The refusals of both heaps, by number, are those of their closed forms.
use Rattle.std.proofs.Common.{◌≡◌, ℕ, suc, ◌+◌, ◌<◌, ◌≤◌, Bool, true, false, cond, not, ◌&&◌, ◌||◌, ltb, leb, ◌≢◌, Some, None, Option, refl, ap, ◌∙◌, arith}
use Rattle.std.proofs.lemmas.Bool.{false≢true, not-false, or_parts, ltb-false, leb-false}
use Rattle.std.proofs.lemmas.Bool.Decides.{nat_tests}
use Rattle.memory.specs.Refusals.{number}
use Rattle.memory.specs.declared.refusals.Refusal.{Refusal}
use Rattle.memory.specs.declared.refusals.Refusal.TheVariants.{Size, Outside, Name, Shape, Short, OtherImage, BadImage, Frames, Waits, NoReference, Slot, Misfit, NoSpace, Busy, FaultStands, Nothing, NoFault}
use Rattle.layouts.specs.declared.values.Value.{Value}
use Rattle.layouts.specs.declared.values.Value.TheVariants.{Nil, Number, Reference}
use Rattle.model.specs.declared.calls.Call.{Call}
use Rattle.model.specs.declared.calls.Call.TheVariants.{New, Load, Store, Copy, SetNumber, SetNil, Same, Tell, Count, Flip, Step, Take, Resolve, Mark, Save}
use Rattle.model.specs.Heap.{register_number}
use Rattle.model.specs.Objects.{is_reference, referred}
use Rattle.model.specs.Refusing.{View, refuse_if, refusal, no_mutator, no_register, is_in_hand, is_running, is_waiting, is_idle, is_collecting, is_imaging, all_running}
use Rattle.theory.specs.Machine.{View as ClosedView, refusal as closed_refusal, bad, head_of, refusal_of}

-- the number of a refusal, 0 if there is none
abbrev pub code : Option Refusal → ℕ
code None = 0
code (Some e) = number e

-- every refusal has a number
pub some_number : (x : Refusal) → number x ≢ 0
some_number Size e = omega arith
some_number Outside e = omega arith
some_number Name e = omega arith
some_number Shape e = omega arith
some_number Short e = omega arith
some_number OtherImage e = omega arith
some_number BadImage e = omega arith
some_number Frames e = omega arith
some_number Waits e = omega arith
some_number NoReference e = omega arith
some_number Slot e = omega arith
some_number Misfit e = omega arith
some_number NoSpace e = omega arith
some_number Busy e = omega arith
some_number FaultStands e = omega arith
some_number Nothing e = omega arith
some_number NoFault e = omega arith

pub code_none : (o : Option Refusal) → code o ≡ 0 → o ≡ None
code_none None e = refl
code_none (Some x) e = absurd (some_number x e)

pub refusal_of_number : (e : Refusal) → refusal_of (number e) ≡ e
refusal_of_number Size = refl
refusal_of_number Outside = refl
refusal_of_number Name = refl
refusal_of_number Shape = refl
refusal_of_number Short = refl
refusal_of_number OtherImage = refl
refusal_of_number BadImage = refl
refusal_of_number Frames = refl
refusal_of_number Waits = refl
refusal_of_number NoReference = refl
refusal_of_number Slot = refl
refusal_of_number Misfit = refl
refusal_of_number NoSpace = refl
refusal_of_number Busy = refl
refusal_of_number FaultStands = refl
refusal_of_number Nothing = refl
refusal_of_number NoFault = refl

-- one test
refuses : (b c : Bool) (e : Refusal) (rest : Option Refusal) (n : ℕ) → b ≡ c → (b ≡ false → code rest ≡ n) → code (refuse_if b e rest) ≡ cond c (number e) n
refuses true c e rest n q f = rw (← q)
refuses false c e rest n q f = rw (← q) (f refl)

-- tests one after the other
test_1 : (e₁ : Refusal) (b₁ c₁ : Bool) → b₁ ≡ c₁ → code (refuse_if b₁ e₁ None) ≡ cond c₁ (number e₁) 0
test_1 e₁ b₁ c₁ q₁ = refuses b₁ c₁ e₁ None 0 q₁ (λ f. refl)

test_2 : (e₁ e₂ : Refusal) (b₁ c₁ b₂ c₂ : Bool) → b₁ ≡ c₁ → (b₁ ≡ false → b₂ ≡ c₂) → code (refuse_if b₁ e₁ (refuse_if b₂ e₂ None)) ≡ cond c₁ (number e₁) (cond c₂ (number e₂) 0)
test_2 e₁ e₂ b₁ c₁ b₂ c₂ q₁ q₂ = refuses b₁ c₁ e₁ (refuse_if b₂ e₂ None) (cond c₂ (number e₂) 0) q₁ (λ f. test_1 e₂ b₂ c₂ (q₂ f))

test_3 : (e₁ e₂ e₃ : Refusal) (b₁ c₁ b₂ c₂ b₃ c₃ : Bool) → b₁ ≡ c₁ → (b₁ ≡ false → b₂ ≡ c₂) → (b₁ ≡ false → b₂ ≡ false → b₃ ≡ c₃) → code (refuse_if b₁ e₁ (refuse_if b₂ e₂ (refuse_if b₃ e₃ None))) ≡ cond c₁ (number e₁) (cond c₂ (number e₂) (cond c₃ (number e₃) 0))
test_3 e₁ e₂ e₃ b₁ c₁ b₂ c₂ b₃ c₃ q₁ q₂ q₃ = refuses b₁ c₁ e₁ (refuse_if b₂ e₂ (refuse_if b₃ e₃ None)) (cond c₂ (number e₂) (cond c₃ (number e₃) 0)) q₁ (λ f. test_2 e₂ e₃ b₂ c₂ b₃ c₃ (q₂ f) (q₃ f))

test_4 : (e₁ e₂ e₃ e₄ : Refusal) (b₁ c₁ b₂ c₂ b₃ c₃ b₄ c₄ : Bool) → b₁ ≡ c₁ → (b₁ ≡ false → b₂ ≡ c₂) → (b₁ ≡ false → b₂ ≡ false → b₃ ≡ c₃) → (b₁ ≡ false → b₂ ≡ false → b₃ ≡ false → b₄ ≡ c₄) →
    code (refuse_if b₁ e₁ (refuse_if b₂ e₂ (refuse_if b₃ e₃ (refuse_if b₄ e₄ None)))) ≡ cond c₁ (number e₁) (cond c₂ (number e₂) (cond c₃ (number e₃) (cond c₄ (number e₄) 0)))
test_4 e₁ e₂ e₃ e₄ b₁ c₁ b₂ c₂ b₃ c₃ b₄ c₄ q₁ q₂ q₃ q₄ = refuses b₁ c₁ e₁ (refuse_if b₂ e₂ (refuse_if b₃ e₃ (refuse_if b₄ e₄ None))) (cond c₂ (number e₂) (cond c₃ (number e₃) (cond c₄ (number e₄) 0))) q₁ (λ f. test_3 e₂ e₃ e₄ b₂ c₂ b₃ c₃ b₄ c₄ (q₂ f) (q₃ f) (q₄ f))

test_5 : (e₁ e₂ e₃ e₄ e₅ : Refusal) (b₁ c₁ b₂ c₂ b₃ c₃ b₄ c₄ b₅ c₅ : Bool) → b₁ ≡ c₁ → (b₁ ≡ false → b₂ ≡ c₂) → (b₁ ≡ false → b₂ ≡ false → b₃ ≡ c₃) → (b₁ ≡ false → b₂ ≡ false → b₃ ≡ false → b₄ ≡ c₄) → (b₁ ≡ false → b₂ ≡ false → b₃ ≡ false → b₄ ≡ false → b₅ ≡ c₅) →
    code (refuse_if b₁ e₁ (refuse_if b₂ e₂ (refuse_if b₃ e₃ (refuse_if b₄ e₄ (refuse_if b₅ e₅ None))))) ≡ cond c₁ (number e₁) (cond c₂ (number e₂) (cond c₃ (number e₃) (cond c₄ (number e₄) (cond c₅ (number e₅) 0))))
test_5 e₁ e₂ e₃ e₄ e₅ b₁ c₁ b₂ c₂ b₃ c₃ b₄ c₄ b₅ c₅ q₁ q₂ q₃ q₄ q₅ = refuses b₁ c₁ e₁ (refuse_if b₂ e₂ (refuse_if b₃ e₃ (refuse_if b₄ e₄ (refuse_if b₅ e₅ None)))) (cond c₂ (number e₂) (cond c₃ (number e₃) (cond c₄ (number e₄) (cond c₅ (number e₅) 0)))) q₁ (λ f. test_4 e₂ e₃ e₄ e₅ b₂ c₂ b₃ c₃ b₄ c₄ b₅ c₅ (q₂ f) (q₃ f) (q₄ f) (q₅ f))

-- names
one_name : (m d : ℕ) → (no_mutator m || no_register d) ≡ bad m d
one_name m d = grind (arith, nat_tests)

two_names : (m d s : ℕ) → (no_mutator m || no_register d || no_register s) ≡ (bad m d || bad m s)
two_names m d s = grind (arith, nat_tests)

four_names : (m d f s : ℕ) → (no_mutator m || no_register d || no_mutator f || no_register s) ≡ (bad m d || bad f s)
four_names m d f s = grind (arith, nat_tests)

no_mutator_as : (m : ℕ) → no_mutator m ≡ not (ltb m 4)
no_mutator_as m = grind (arith, nat_tests)

-- one of the four mutators
pub mutator_as : (m : ℕ) → not (no_mutator m) ≡ ltb m 4
mutator_as m = grind (arith, nat_tests)

-- a fault that goes back for want of a buffer
pub back_as : {A : Type 0} (a b t : Bool) (f g : A) → cond (a && (not b && t)) f g ≡ cond a (cond (not b && t) f g) g
back_as true b t f g = refl
back_as false b t f g = refl

holds_as : (m : ℕ) (t : Bool) → not (not (no_mutator m) && t) ≡ not (ltb m 4 && t)
holds_as m t = ap (λ z. not (z && t)) (grind (arith, nat_tests))

-- a register's number
pub named : (m r : ℕ) → (no_mutator m || no_register r) ≡ false → register_number m r < 32
named m r e =
    let p = or_parts (no_mutator m) (no_register r) e in
    omega (arith, ltb-false 3 m p.0, ltb-false 7 r p.1)

two_registers : (m d s : ℕ) → (no_mutator m || no_register d || no_register s) ≡ false → (register_number m d < 32) × (register_number m s < 32)
two_registers m d s e =
    let p = or_parts (no_mutator m || no_register d) (no_register s) e in
    let q = or_parts (no_mutator m) (no_register d) p.0 in
    let a = ltb-false 3 m q.0 in
    let b = ltb-false 7 d q.1 in
    let c = ltb-false 7 s p.1 in
    (omega arith, omega arith)

-- the object in a register that holds a reference
pub head_referred : (f : ℕ → ℕ) (v : Value) → is_reference v ≡ true → head_of f v ≡ f (referred v)
head_referred f Nil e = absurd (false≢true e)
head_referred f (Number n) e = absurd (false≢true e)
head_referred f (Reference a) e = refl

-- What two views must share
pub record SameView (v : View) (w : ClosedView) : Type 0 where
  pub states : v.state ≡ w.mut
  pub phases : v.phase ≡ w.phase
  pub refers : (k : ℕ) → v.refers k ≡ w.is_ref k
  pub slots : (k : ℕ) → k < 32 → v.refers k ≡ true → v.slots k ≡ w.slots k
  pub admits : (k i x : ℕ) → k < 32 → v.refers k ≡ true → v.admits k i x ≡ w.admits k i x
  pub room : (z : ℕ) → not (v.room (suc z)) ≡ w.full (suc z)
  pub image_words : v.image_words ≡ w.need

module _ (v : View) (w : ClosedView) (s : SameView v w) where
  runs : (m : ℕ) → not (is_running (v.state m)) ≡ not (is_running (w.mut m))
  runs m = ap (λ f. not (is_running (f m))) s.states

  pub refusals_same : (c : Call) → code (refusal v c) ≡ closed_refusal w c
  refusals_same (New m d r x) = test_4 Name Shape Waits NoSpace (no_mutator m || no_register d) (bad m d) (ltb 255 (r + x)) (ltb 255 (r + x)) (not (is_running (v.state m))) (not (is_running (w.mut m))) (not (v.room (suc (r + x)))) (w.full (suc (r + x))) (one_name m d) (λ e₁. refl) (λ e₁ e₂. runs m) (λ e₁ e₂ e₃. s.room (r + x))
  refusals_same (Load m d o i) = test_4 Name Waits NoReference Slot (no_mutator m || no_register d || no_register o) (bad m d || bad m o) (not (is_running (v.state m))) (not (is_running (w.mut m))) (not (v.refers (register_number m o))) (not (w.is_ref (register_number m o))) (leb (v.slots (register_number m o)) i) (leb (w.slots (register_number m o)) i) (two_names m d o) (λ e₁. runs m)
      (λ e₁ e₂. ap not (s.refers (register_number m o)))
      (λ e₁ e₂ e₃. ap (λ z. leb z i) (s.slots (register_number m o) (two_registers m d o e₁).1 (not-false (v.refers (register_number m o)) e₃)))
  refusals_same (Store m o i x) = test_5 Name Waits NoReference Slot Misfit (no_mutator m || no_register o || no_register x) (bad m o || bad m x) (not (is_running (v.state m))) (not (is_running (w.mut m))) (not (v.refers (register_number m o))) (not (w.is_ref (register_number m o))) (leb (v.slots (register_number m o)) i) (leb (w.slots (register_number m o)) i) (not (v.admits (register_number m o) i (register_number m x))) (not (w.admits (register_number m o) i (register_number m x))) (two_names m o x) (λ e₁. runs m)
      (λ e₁ e₂. ap not (s.refers (register_number m o)))
      (λ e₁ e₂ e₃. ap (λ z. leb z i) (s.slots (register_number m o) (two_registers m o x e₁).0 (not-false (v.refers (register_number m o)) e₃)))
      (λ e₁ e₂ e₃ e₄. ap not (s.admits (register_number m o) i (register_number m x) (two_registers m o x e₁).0 (not-false (v.refers (register_number m o)) e₃)))
  refusals_same (Copy m d f o) = test_2 Name Waits (no_mutator m || no_register d || no_mutator f || no_register o) (bad m d || bad f o) (not (is_running (v.state m))) (not (is_running (w.mut m))) (four_names m d f o) (λ e₁. runs m)
  refusals_same (SetNumber m d n) = test_2 Name Waits (no_mutator m || no_register d) (bad m d) (not (is_running (v.state m))) (not (is_running (w.mut m))) (one_name m d) (λ e₁. runs m)
  refusals_same (SetNil m d) = test_2 Name Waits (no_mutator m || no_register d) (bad m d) (not (is_running (v.state m))) (not (is_running (w.mut m))) (one_name m d) (λ e₁. runs m)
  refusals_same (Same m x y) = test_2 Name Waits (no_mutator m || no_register x || no_register y) (bad m x || bad m y) (not (is_running (v.state m))) (not (is_running (w.mut m))) (two_names m x y) (λ e₁. runs m)
  refusals_same (Tell m o) = test_2 Name Waits (no_mutator m || no_register o) (bad m o) (not (is_running (v.state m))) (not (is_running (w.mut m))) (one_name m o) (λ e₁. runs m)
  refusals_same Count = refl
  refusals_same Flip = test_2 Busy FaultStands (not (is_idle v.phase)) (not (is_idle w.phase)) (not (all_running v)) (not (is_running (w.mut 0) && is_running (w.mut 1) && is_running (w.mut 2) && is_running (w.mut 3))) (ap (λ z. not (is_idle z)) s.phases) (λ e₁. ap (λ f. not (is_running (f 0) && is_running (f 1) && is_running (f 2) && is_running (f 3))) s.states)
  refusals_same Step = test_1 Nothing (not (is_collecting v.phase)) (not (is_collecting w.phase)) (ap (λ z. not (is_collecting z)) s.phases)
  refusals_same (Take m) = test_2 Name NoFault (no_mutator m) (not (ltb m 4)) (not (is_waiting (v.state m))) (not (is_waiting (w.mut m))) (no_mutator_as m) (λ e₁. ap (λ f. not (is_waiting (f m))) s.states)
  refusals_same (Resolve m p n) = test_2 Short NoFault (ltb n v.image_words) (ltb n w.need) (not (not (no_mutator m) && is_in_hand p (v.state m))) (not (ltb m 4 && is_in_hand p (w.mut m))) (ap (ltb n) s.image_words) (λ e₁. holds_as m (is_in_hand p (v.state m)) ∙ ap (λ f. not (ltb m 4 && is_in_hand p (f m))) s.states)
  refusals_same (Mark n) = test_2 Short Busy (ltb n v.image_words) (ltb n w.need) (not (is_idle v.phase)) (not (is_idle w.phase)) (ap (ltb n) s.image_words) (λ e₁. ap (λ z. not (is_idle z)) s.phases)
  refusals_same (Save n) = test_2 Short Nothing (ltb n v.image_words) (ltb n w.need) (not (is_imaging v.phase)) (not (is_imaging w.phase)) (ap (ltb n) s.image_words) (λ e₁. ap (λ z. not (is_imaging z)) s.phases)

-- What a call that is not refused is known to have

pub passes : (b : Bool) (e : Refusal) (rest : Option Refusal) → refuse_if b e rest ≡ None → (b ≡ false) × (rest ≡ None)
passes true e rest q = absurd (let z : ◌≡◌ {A = ℕ} 0 1 = cc in omega arith)
passes false e rest q = (refl, q)

pub new_accepted : (v : View) (m d r x : ℕ) → refusal v (New m d r x) ≡ None → (r + x ≤ 255) × (v.room (suc (r + x)) ≡ true)
new_accepted v m d r x e =
    let e₁ = passes (no_mutator m || no_register d) Name _ e in
    let e₂ = passes (ltb 255 (r + x)) Shape _ e₁.1 in
    let e₃ = passes (not (is_running (v.state m))) Waits _ e₂.1 in
    let e₄ = passes (not (v.room (suc (r + x)))) NoSpace None e₃.1 in
    (ltb-false 255 (r + x) e₂.0, not-false (v.room (suc (r + x))) e₄.0)

-- the object's register and its slot
pub record SlotAccepted (v : View) (m o i : ℕ) : Type 0 where
  pub named : register_number m o < 32
  pub refers : v.refers (register_number m o) ≡ true
  pub slot : i < v.slots (register_number m o)

pub load_accepted : (v : View) (m d o i : ℕ) → refusal v (Load m d o i) ≡ None → SlotAccepted v m o i
load_accepted v m d o i e =
    let e₁ = passes (no_mutator m || no_register d || no_register o) Name _ e in
    let e₂ = passes (not (is_running (v.state m))) Waits _ e₁.1 in
    let e₃ = passes (not (v.refers (register_number m o))) NoReference _ e₂.1 in
    let e₄ = passes (leb (v.slots (register_number m o)) i) Slot None e₃.1 in
    record {
      named = (two_registers m d o e₁.0).1;
      refers = not-false (v.refers (register_number m o)) e₃.0;
      slot = leb-false (v.slots (register_number m o)) i e₄.0;
    }

pub store_accepted : (v : View) (m o i x : ℕ) → refusal v (Store m o i x) ≡ None → SlotAccepted v m o i × (register_number m x < 32) × (v.admits (register_number m o) i (register_number m x) ≡ true)
store_accepted v m o i x e =
    let e₁ = passes (no_mutator m || no_register o || no_register x) Name _ e in
    let e₂ = passes (not (is_running (v.state m))) Waits _ e₁.1 in
    let e₃ = passes (not (v.refers (register_number m o))) NoReference _ e₂.1 in
    let e₄ = passes (leb (v.slots (register_number m o)) i) Slot _ e₃.1 in
    let e₅ = passes (not (v.admits (register_number m o) i (register_number m x))) Misfit None e₄.1 in (
      record {
        named = (two_registers m o x e₁.0).0;
        refers = not-false (v.refers (register_number m o)) e₃.0;
        slot = leb-false (v.slots (register_number m o)) i e₄.0;
      },
      (two_registers m o x e₁.0).1,
      not-false (v.admits (register_number m o) i (register_number m x)) e₅.0,
    )
