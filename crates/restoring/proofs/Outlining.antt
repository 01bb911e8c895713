-- The tests by an outline are the tests of the restored heap.
use Rattle.std.proofs.Common.{◌≡◌, ℕ, ◌+◌, ◌-◌, ◌%◌, Bool, true, false, cond, ◌&&◌, ◌||◌, ltb, leb, Option, sym, refl, ap, ◌∙◌, arith}
use Rattle.std.proofs.lemmas.Bool.{eqb-false}
use Rattle.memory.specs.Memory.{Memory}
use Rattle.memory.specs.declared.refusals.Refusal.{Refusal}
use Rattle.memory.specs.declared.refusals.Refusal.TheVariants.{Size}
use Rattle.layouts.specs.Layouts.{Rules}
use Rattle.layouts.specs.declared.values.Value.{Value}
use Rattle.layouts.specs.declared.values.Value.TheVariants.{Nil, Number, Reference}
use Rattle.model.specs.Heap.{Heap}
use Rattle.model.specs.Refusing.{refuse_if}
use Rattle.model.specs.Restoring.{every_below, is_row, heads_row, slots_pass, is_object, refers_well, is_written_well, is_made_of_objects, restored, restore_refusal}
use Rattle.restoring.specs.Restored.{image_view}
use Rattle.restoring.specs.Outlines.{IsOutline, word_in, object_in, refers_in, made_in}
use Rattle.restoring.specs.declared.objects.Objects.{Objects}

module _ {A : Type 0} (m : Memory) (o : Objects A) (is_o : IsOutline m (image_view o.image.words.now) o.outline) where
  abbrev b : ℕ → ℕ
  b = image_view o.image.words.now

  abbrev h : Heap
  h = restored m b

  pub word_same : word_in o ≡ h.memory.word
  word_same = λ i a. cond (leb (is_o.start i) a && ltb a (is_o.start i + is_o.words i)) (b (70 + (a - is_o.start i))) 0

  module _ (L : Rules) where
    object_same : (a : ℕ) → object_in L o a ≡ is_object L h a
    object_same a = λ i.
        heads_row L (word_same i) (is_o.words i) (is_o.start i) (is_o.copy_end i) a
        || heads_row L (word_same i) (is_o.words i) (is_o.new_start i) (is_o.start i + is_o.words i) a

    refers_same : (v : Value) → refers_in L o v ≡ refers_well L h v
    refers_same Nil = refl
    refers_same (Number n) = refl
    refers_same (Reference a) = object_same a

    made_same : made_in L o ≡ is_made_of_objects L h
    made_same = λ i.
        is_row L (word_same i) (is_o.words i) (is_o.start i) (is_o.copy_end i)
        && is_row L (word_same i) (is_o.words i) (is_o.new_start i) (is_o.start i + is_o.words i)
        && slots_pass L (word_same i) (λ v. refers_same v i) (is_o.words i) (is_o.start i) (is_o.copy_end i)
        && slots_pass L (word_same i) (λ v. refers_same v i) (is_o.words i) (is_o.new_start i) (is_o.start i + is_o.words i)
        && every_below 32 (λ k. refers_same (h.register k) i)

    -- the tests of an image that is written well
    pub heap_tested : (r : Bool) → true ≡ is_written_well m b → r ≡ made_in L o → r ≡ (is_written_well m b && is_made_of_objects L h)
    heap_tested r well is_r = is_r ∙ made_same ∙ ap (λ x. x && is_made_of_objects L h) well

not_refused : (t : Bool) (e : Refusal) (rest : Option Refusal) → refuse_if t e rest ≡ Option.None → t ≡ false
not_refused true e rest h = let z : ◌≡◌ {A = ℕ} 0 1 = cc in absurd (omega arith)
not_refused false e rest h = refl

-- an image is accepted only on an even page count
pub even_pages : (L : Rules) (m : Memory) (n : ℕ) (b : ℕ → ℕ) → Option.None ≡ restore_refusal L m n b → m.page_count % 2 ≡ 0
even_pages L m n b e = let odd = eqb-false (m.page_count % 2) 1 (not_refused _ Size _ (sym e)) in omega (arith, odd)
