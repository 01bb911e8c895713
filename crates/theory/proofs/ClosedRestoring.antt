-- RESTORE is that of the closed form: when it refuses, and the heap that it makes.
use Rattle.std.proofs.Common.{◌≡◌, ℕ, zero, suc, ◌+◌, ◌-◌, ◌*◌, ◌%◌, ◌≤◌, Bool, true, false, cond, not, ◌&&◌, ◌||◌, eqb, ltb, leb, Option, refl, ap, ◌∙◌, ap₂, arith}
use Rattle.std.proofs.lemmas.Bool.{and_parts, or_parts, not-false, leb-true, ne_eqb, eqb-false}
use Rattle.memory.specs.Memory.{Memory}
use Rattle.memory.specs.declared.refusals.Refusal.TheVariants.{Size, Short, OtherImage, BadImage}
use Rattle.memory.specs.declared.rights.Right.TheVariants as Right
use Rattle.layouts.specs.Layouts.{Rules}
use Rattle.layouts.specs.declared.values.Value.{Value}
use Rattle.layouts.specs.declared.values.Value.TheVariants.{Nil, Number, Reference}
use Rattle.model.specs.declared.states.Half.{Half}
use Rattle.model.specs.declared.states.Half.TheVariants.{Lower, Upper}
use Rattle.model.specs.declared.states.Phase.TheVariants.{Idle}
use Rattle.model.specs.declared.states.State.TheVariants.{Running}
use Rattle.model.specs.Heap.{Heap as MovingHeap, half_number, half_pages, half_words, first_word}
use Rattle.model.specs.Objects.{slot_count, object_words, is_header}
use Rattle.model.specs.Refusing.{refuse_if}
use Rattle.model.specs.Images.{image_words}
use Rattle.model.specs.Outcomes.{Machine}
use Rattle.model.specs.Restoring.{every_below, is_row, heads_row, slots_pass, half_of, restored, register_fits, unused_is_0, is_written_well, refers_well, is_made_of_objects, is_of_this, restore_refusal}
use Rattle.theory.specs.Model.{Layout}
use Rattle.theory.specs.Machine.{Shape, half}
use Rattle.theory.specs.Restore.{every, row, closed_header_in, slots_in, reg_from, restored as closed_restored, closed_with_buffer, closed_refers_well, closed_well_made, reg_well, word_well, closed_well_written, closed_restore_refusal}
use Rattle.theory.specs.Closed.{closed_layout, both_halves, closed_shape, closed}
use Rattle.theory.proofs.ClosedRights.{rank_all}
use Rattle.theory.proofs.ClosedRefusals.{code, passes}

every_as : (n : ℕ) (f g : ℕ → Bool) → ((k : ℕ) → f k ≡ g k) → every_below n f ≡ every n g
unfolding every_below every
every_as zero f g h = refl
every_as (suc n) f g h = ap₂ ◌&&◌ (every_as n f g h) (h n)

and_assoc : (a b c : Bool) → ((a && b) && c) ≡ (a && (b && c))
and_assoc true b c = refl
and_assoc false b c = refl

-- Rows of objects

module _ (L : Rules) (word : ℕ → ℕ) where
  abbrev lay : Layout
  lay = closed_layout L

  row_as : (n a stop : ℕ) → is_row L word n a stop ≡ row lay word n a stop
  row_as zero a stop = refl
  row_as (suc n) a stop = ap (cond (eqb a stop) true) (and_assoc (is_header L (word a)) (leb (a + object_words L (word a)) stop) (is_row L word n (a + object_words L (word a)) stop) ∙ ap (λ t. is_header L (word a) && (leb (a + object_words L (word a)) stop && t)) (row_as n (a + object_words L (word a)) stop))

  heads_as : (n a stop x : ℕ) → heads_row L word n a stop x ≡ closed_header_in lay word n a stop x
  heads_as zero a stop x = refl
  heads_as (suc n) a stop x = ap (λ t. ltb a stop && (eqb x a || t)) (heads_as n (a + object_words L (word a)) stop x)

  slots_as : (ok good : Value → Bool) → ((v : Value) → ok v ≡ good v) → (n a stop : ℕ) → slots_pass L word ok n a stop ≡ slots_in lay word good n a stop
  slots_as ok good h zero a stop = refl
  slots_as ok good h (suc n) a stop = ap₂ (λ t u. cond (ltb a stop) (t && u) true) (every_as (slot_count L (word a)) _ _ (λ i. h (L.unpacked (word a) i (word (a + suc i))))) (slots_as ok good h n (a + object_words L (word a)) stop)

-- a heap's objects
module _ (L : Rules) (x : Machine) (small : both_halves x.heap.memory.page_count x.heap.memory.page_size ≤ 16384) where
  abbrev h : MovingHeap
  h = x.heap

  abbrev S : Shape
  S = closed_shape L h.memory.page_count h.memory.page_size small

  refers_as : (v : Value) → refers_well L h v ≡ closed_refers_well S (closed x) v
  refers_as Nil = refl
  refers_as (Number n) = refl
  refers_as (Reference a) = ap₂ ◌||◌ (heads_as L h.memory.word (half_words h.memory) (first_word h.memory h.half) h.space.copy_end a) (heads_as L h.memory.word (half_words h.memory) h.new_start (first_word h.memory h.half + half_words h.memory) a)

  regrouped : (a b c d e : Bool) → (a && b && c && d && e) ≡ ((a && b) && ((c && d) && e))
  regrouped true true c d e = refl
  regrouped true false c d e = refl
  regrouped false b c d e = refl

  pub objects_as : is_made_of_objects L h ≡ closed_well_made S (closed x)
  objects_as =
      let w = h.memory.word in
      let n = half_words h.memory in
      let lo = first_word h.memory h.half in
      regrouped (is_row L w n lo h.space.copy_end) (is_row L w n h.new_start (lo + n)) (slots_pass L w (refers_well L h) n lo h.space.copy_end) (slots_pass L w (refers_well L h) n h.new_start (lo + n)) (every_below 32 (λ k. refers_well L h (h.register k)))
      ∙ ap₂ ◌&&◌ (ap₂ ◌&&◌ (row_as L w n lo h.space.copy_end) (row_as L w n h.new_start (lo + n)))
      (ap₂ ◌&&◌ (ap₂ ◌&&◌ (slots_as L w (refers_well L h) (closed_refers_well S (closed x)) refers_as n lo h.space.copy_end) (slots_as L w (refers_well L h) (closed_refers_well S (closed x)) refers_as n h.new_start (lo + n)))
      (every_as 32 (λ k. refers_well L h (h.register k)) (λ k. closed_refers_well S (closed x) (h.register k)) (λ k. refers_as (h.register k))))

-- The heap of an image

pub half_small : (s : Half) → half_number s ≤ 1
half_small Lower = omega arith
half_small Upper = omega arith

-- what acceptance says: the number of pages is even, and the image is well written and made of objects
pub accepted_says : (L : Rules) (m : Memory) (b : ℕ → ℕ) (n : ℕ) → restore_refusal L m n b ≡ Option.None → (m.page_count % 2 ≡ 0) × (is_written_well m b ≡ true) × (is_made_of_objects L (restored m b) ≡ true)
accepted_says L m b n e =
    let e₁ = passes (eqb (m.page_count % 2) 1) Size _ e in
    let e₂ = passes (ltb n (image_words m)) Short _ e₁.1 in
    let e₃ = passes (not (eqb (b 0) 0) && not (is_of_this L m b)) OtherImage _ e₂.1 in
    let e₄ = passes (eqb (b 0) 0 || not (is_written_well m b && is_made_of_objects L (restored m b))) BadImage Option.None e₃.1 in
    let w = not-false (is_written_well m b && is_made_of_objects L (restored m b)) (or_parts (eqb (b 0) 0) (not (is_written_well m b && is_made_of_objects L (restored m b))) e₄.0).1 in
    let t = and_parts (is_written_well m b) (is_made_of_objects L (restored m b)) w in
    let ne = eqb-false (m.page_count % 2) 1 e₁.0 in
    (omega arith, t.0, t.1)

-- half 0 or 1, and the copied and the new words fit
pub written_fits : (m : Memory) (b : ℕ → ℕ) → is_written_well m b ≡ true → (b 3 ≤ 1) × (b 4 + b 5 ≤ half_words m)
written_fits m b w =
    let t = and_parts (leb (b 3) 1) (leb (b 4 + b 5) (half_words m)) (and_parts (leb (b 3) 1 && leb (b 4 + b 5) (half_words m)) _ (and_parts _ _ w).0).0 in
    (leb-true (b 3) 1 t.0, leb-true (b 4 + b 5) (half_words m) t.1)

pub side_as : (n : ℕ) → n ≤ 1 → half_number (half_of n) ≡ n
side_as zero l = refl
side_as (suc n) l = omega arith

module _ (L : Rules) (m : Memory) (small : both_halves m.page_count m.page_size ≤ 16384) (b : ℕ → ℕ) where
  abbrev H : Shape
  H = closed_shape L m.page_count m.page_size small

  abbrev made_of : (ℕ → ℕ) → Machine
  made_of other = record { heap = restored m b; buffer = other }

  pub restored_as : b 3 ≤ 1 → (other : ℕ → ℕ) → closed (made_of other) ≡ closed_with_buffer (closed_restored H b) other
  restored_as l other = λ i. let sd = side_as (b 3) l i in record {
    st = record {
      mem = λ a. cond (leb (sd * half H) a && ltb a (sd * half H + half H)) (b (70 + (a - sd * half H))) 0;
      top = sd * half H + b 4;
      low = sd * half H + half H - b 5;
      right = λ p. (rank_all (leb (half_number (half_of (b 3)) * half_pages m) p && ltb p (half_number (half_of (b 3)) * half_pages m + half_pages m)) Right.None ∙ ap (λ z. cond (leb (z * half_pages m) p && ltb p (z * half_pages m + half_pages m)) 2 0) (side_as (b 3) l)) i;
      cross = λ p. 0;
    };
    scan = λ p. cond (ltb p 64) 0 (p * m.page_size);
    pend = λ p. false;
    side = sd;
    used = 0;
    reg = λ k. cond (ltb k 32) (reg_from (b (6 + 2 * k)) (b (7 + 2 * k))) Nil;
    mut = λ k. Running;
    phase = Idle;
    count = 0;
    buf = other;
    mark = 0;
  }

  written_as : is_written_well m b ≡ closed_well_written H b
  written_as =
      and_assoc (leb (b 3) 1 && leb (b 4 + b 5) (half_words m)) (every_below 32 (register_fits b)) (every_below (half_words m) (unused_is_0 m b))
      ∙ ap (λ t. (leb (b 3) 1 && leb (b 4 + b 5) (half_words m)) && t) (ap₂ ◌&&◌ (every_as 32 (register_fits b) (reg_well b) (λ k. refl)) (every_as (half_words m) (unused_is_0 m b) (word_well H b) (λ j. refl)))

  made_as : b 3 ≤ 1 → is_made_of_objects L (restored m b) ≡ closed_well_made H (closed_restored H b)
  made_as l = objects_as L (made_of b) small ∙ ap (closed_well_made H) (restored_as l b)

  well_as : (is_written_well m b && is_made_of_objects L (restored m b)) ≡ (closed_well_written H b && closed_well_made H (closed_restored H b))
  well_as = ap (λ t. t && is_made_of_objects L (restored m b)) written_as ∙ by (closed_well_written H b) refl
    where
      by : (t : Bool) → closed_well_written H b ≡ t → (t && is_made_of_objects L (restored m b)) ≡ (t && closed_well_made H (closed_restored H b))
      by false e = refl
      by true e = made_as (leb-true (b 3) 1 (and_parts (leb (b 3) 1) (leb (b 4 + b 5) (half H)) (and_parts (leb (b 3) 1 && leb (b 4 + b 5) (half H)) _ e).0).0)

  -- Refusals

  three : (s t u : Bool) → code (refuse_if s Short (refuse_if t OtherImage (refuse_if u BadImage Option.None))) ≡ cond s 5 (cond t 6 (cond u 7 0))
  three true t u = refl
  three false true u = refl
  three false false true = refl
  three false false false = refl

  either : (z q : Bool) → (z || not q) ≡ not (not z && q)
  either true q = refl
  either false q = refl

  pub refusals_as : (n : ℕ) → m.page_count % 2 ≡ 0 → code (restore_refusal L m n b) ≡ closed_restore_refusal H n b
  refusals_as n even =
      ap (λ t. code (refuse_if t Size (refuse_if (ltb n (image_words m)) Short (refuse_if (not (eqb (b 0) 0) && not (is_of_this L m b)) OtherImage (refuse_if (eqb (b 0) 0 || not (is_written_well m b && is_made_of_objects L (restored m b))) BadImage Option.None))))) (ne_eqb (m.page_count % 2) 1 (omega arith))
      ∙ three (ltb n (image_words m)) (not (eqb (b 0) 0) && not (is_of_this L m b)) (eqb (b 0) 0 || not (is_written_well m b && is_made_of_objects L (restored m b)))
      ∙ ap₂ (λ t u. cond (ltb n (70 + half H)) 5 (cond (not (eqb (b 0) 0) && not t) 6 (cond u 7 0))) (and_assoc (eqb (b 0) m.page_size) (eqb (b 1) (half_pages m)) (eqb (b 2) L.number))
      (ap (λ t. eqb (b 0) 0 || not t) well_as ∙ either (eqb (b 0) 0) (closed_well_written H b && closed_well_made H (closed_restored H b)))
