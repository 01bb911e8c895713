-- MARK and SAVE where they are not refused.
use Rattle.std.proofs.Common.{◌≡◌, ℕ, Bool, true, false, cond, not, ltb, List, length, Some, None, Option, sym, refl, ap, ◌∙◌}
use Rattle.std.proofs.lemmas.Bool.{cond-true, cond-false}
use Rattle.memory.specs.Memory.{Memory, changed, with_right, after_unprot}
use Rattle.memory.specs.Rights.{greater}
use Rattle.memory.specs.declared.refusals.Refusal.{Refusal}
use Rattle.memory.specs.declared.refusals.Refusal.TheVariants.{Short, Busy, Nothing}
use Rattle.memory.specs.declared.rights.Right.{Right}
use Rattle.memory.specs.declared.rights.Right.TheVariants.{All}
use Rattle.layouts.specs.Layouts.{Rules}
use Rattle.model.specs.Heap.{Heap as Model, with_phase}
use Rattle.model.specs.Refusing.{is_idle, is_imaging, refuse_if, refusal}
use Rattle.model.specs.Outcomes.{Machine, outcome, unless}
use Rattle.model.specs.Images.{image_words, marked, marked_buffer, saved_buffer, page_saved, lowest_unsaved, save_on, save_left}
use Rattle.model.specs.Calls.{moving_view, carried_out, turned_down}
use Rattle.model.specs.declared.calls.Answer.TheVariants as Answer
use Rattle.model.specs.declared.calls.Call.TheVariants.{Mark, Save}
use Rattle.model.specs.declared.states.Phase.TheVariants.{Idle, Imaging}
use Rattle.images.specs.Lent.{machine, Rewritten, Writes, saved_if_unsaved}
use Rattle.images.specs.Saving.{is_none, page_reopened, next_saved}

-- The refusals

free : (short busy : Bool) (e : Refusal) → false ≡ short → busy ≡ false → refuse_if short Short (refuse_if busy e None) ≡ None
free short busy e enough idle = cond-false short (Some Short) (refuse_if busy e None) (sym enough) ∙ cond-false busy (Some e) None idle

module _ (L : Rules) (h : Model) (old : List ℕ) (enough : false ≡ ltb (length old) (image_words h.memory)) where
  mark_free : h.phase ≡ Idle → refusal (moving_view L h) (Mark (length old)) ≡ None
  mark_free idle = free (ltb (length old) (image_words h.memory)) (not (is_idle h.phase)) Busy enough (ap (λ x. not (is_idle x)) idle)

  save_free : h.phase ≡ Imaging → refusal (moving_view L h) (Save (length old)) ≡ None
  save_free imaging = free (ltb (length old) (image_words h.memory)) (not (is_imaging h.phase)) Nothing enough (ap (λ x. not (is_imaging x)) imaging)

  pub mark_accepted : (g : Model) (new : List ℕ) → h.phase ≡ Idle → g ≡ marked h → Rewritten (marked_buffer L h) old new → Writes L h old (Mark (length old)) g new Answer.Done
  mark_accepted g new idle is_g is_new b =
      ap (λ o. unless o (turned_down L (machine h old b) (Mark (length old))) (carried_out L (machine h old b) (Mark (length old)))) (mark_free idle)
      ∙ (λ i. outcome (record { heap = sym is_g i; buffer = sym (is_new b) i }) Answer.Done)

  pub save_accepted : (x : (ℕ → ℕ) → Machine) (g : Model) (new : List ℕ) (s : Bool) → h.phase ≡ Imaging → ((b : ℕ → ℕ) → x b ≡ next_saved (machine h old b) (lowest_unsaved h)) → ((b : ℕ → ℕ) → save_left (x b) (lowest_unsaved (x b).heap) ≡ outcome (machine g new b) (Answer.Saved s)) → Writes L h old (Save (length old)) g new (Answer.Saved s)
  save_accepted x g new s imaging is_x is_left b =
      ap (λ o. unless o (turned_down L (machine h old b) (Save (length old))) (carried_out L (machine h old b) (Save (length old)))) (save_free imaging)
      ∙ next (machine h old b) (lowest_unsaved h) refl
      ∙ ap (λ y. save_left y (lowest_unsaved y.heap)) (sym (is_x b))
      ∙ is_left b
    where
      next : (y : Machine) (o : Option ℕ) → lowest_unsaved y.heap ≡ o → save_on y o ≡ save_left (next_saved y o) (lowest_unsaved (next_saved y o).heap)
      next y None e = ap (save_left y) (sym e)
      next y (Some p) e = refl

-- A page, saved

module _ (h g : Model) (old new : List ℕ) (p : ℕ) where
  saved : g ≡ page_reopened h p → Rewritten (saved_buffer h p) old new → (b : ℕ → ℕ) → machine g new b ≡ page_saved (machine h old b) p
  saved is_g is_new b = λ i. record { heap = is_g i; buffer = is_new b i }

  pub saved_unsaved : true ≡ h.unsaved p → g ≡ page_reopened h p → Rewritten (saved_buffer h p) old new → (b : ℕ → ℕ) → machine g new b ≡ saved_if_unsaved (machine h old b) p
  saved_unsaved unsaved is_g is_new b = saved is_g is_new b ∙ sym (cond-true (h.unsaved p) (page_saved (machine h old b) p) (machine h old b) (sym unsaved))

  pub saved_next : Some p ≡ lowest_unsaved h → g ≡ page_reopened h p → Rewritten (saved_buffer h p) old new → (b : ℕ → ℕ) → machine g new b ≡ next_saved (machine h old b) (lowest_unsaved h)
  saved_next lowest is_g is_new b = saved is_g is_new b ∙ ap (next_saved (machine h old b)) lowest

pub size_kept : (m s n : Memory) (p : ℕ) → s ≡ m → n ≡ after_unprot s p All → image_words n ≡ image_words m
size_kept m s n p is_s is_n = ap image_words (is_n ∙ ap (λ x. after_unprot x p All) is_s) ∙ kept (ltb p m.page_count) (greater (m.right p) All)
  where
    kept : (t : Bool) (r : Right) → image_words (cond t (with_right m p r) m) ≡ image_words m
    kept true r = refl
    kept false r = refl

-- The image, sealed

left_none : (o : Option ℕ) → true ≡ is_none o → o ≡ None
left_none None e = refl
left_none (Some p) e = cc

left_some : (x : Machine) (o : Option ℕ) → false ≡ is_none o → save_left x o ≡ outcome x (Answer.Saved false)
left_some x None e = cc
left_some x (Some p) e = refl

pub going_left : (h : Model) (old : List ℕ) → false ≡ is_none (lowest_unsaved h) → (b : ℕ → ℕ) → save_left (machine h old b) (lowest_unsaved h) ≡ outcome (machine h old b) (Answer.Saved false)
going_left h old some b = left_some (machine h old b) (lowest_unsaved h) some

pub sealed_left : (h g : Model) (old new : List ℕ) → true ≡ is_none (lowest_unsaved h) → g ≡ with_phase h Idle → Rewritten (λ b. changed b 0 h.memory.page_size) old new → (b : ℕ → ℕ) → save_left (machine h old b) (lowest_unsaved h) ≡ outcome (machine g new b) (Answer.Saved true)
sealed_left h g old new none is_g is_new b = ap (save_left (machine h old b)) (left_none (lowest_unsaved h) none) ∙ (λ i. outcome (record { heap = sym is_g i; buffer = sym (is_new b) i }) (Answer.Saved true))
