-- A heap that RESTORE made of an image, and the never-moving heap of that image, are related.
use Rattle.std.proofs.Common.{◌≡◌, ℕ, ◌+◌, ◌-◌, ◌%◌, ◌^◌, ◌<◌, ◌≤◌, Bool, true, false, cond, ◌&&◌, ltb, leb, sym, refl, ap, ◌∙◌, arith}
use Rattle.std.proofs.lemmas.Bool.{le-ltb, leb-true, ltb-true, and_parts, and_right, cond-true, cond-false}
use Rattle.std.specs.declared.option.Option.TheVariants as Option
use Rattle.memory.specs.Memory.{Memory, legal_sizes}
use Rattle.memory.specs.Rights.{rank}
use Rattle.memory.specs.declared.rights.Right.TheVariants.{None, All}
use Rattle.layouts.specs.Layouts.{Rules, Lawful}
use Rattle.model.specs.Heap.{half_number, half_pages, half_words, first_page, first_word}
use Rattle.model.specs.Images.{image_words}
use Rattle.model.specs.Outcomes.{Machine}
use Rattle.model.specs.Never.{Never}
use Rattle.model.specs.Restoring.{half_of, restored, restore_refusal}
use Rattle.model.specs.ImageHeap.{never_restored}
use Rattle.theory.specs.Collect.{Flip}
use Rattle.theory.specs.Restore.{closed_well_made}
use Rattle.theory.specs.Machine.{Shape}
use Rattle.theory.specs.Closed.{both_halves, closed_shape, closed, closed_never}
use Rattle.theory.proofs.Basics.{twice}
use Rattle.theory.proofs.BodyNew.{in_range}
use Rattle.theory.proofs.World.{World}
use Rattle.theory.proofs.Rights.{RightsOf}
use Rattle.theory.proofs.ClosedLaws.{closed_laws}
use Rattle.theory.proofs.ClosedRestoring.{half_small, accepted_says, written_fits, objects_as}
use Rattle.theory.proofs.RestWorld.{Objects, F, rest_body}
use Rattle.theory.proofs.RestoredObjects.{A, to, copied, objects, registers, headed}
use Rattle.theory.proofs.Related.{Related, small}

-- a word, or 0
word_or_0 : (t : Bool) (w : ℕ) → (t ≡ true → w < 2 ^ 32) → cond t w 0 < 2 ^ 32
word_or_0 true w l = l refl
word_or_0 false w l = omega arith

module _ (L : Rules) (lawful : Lawful L) (m : Memory) (legal : legal_sizes m.page_count m.page_size ≡ true) (b other : ℕ → ℕ) (n : ℕ) (words : (j : ℕ) → j < image_words m → b j < 2 ^ 32) (e : restore_refusal L m n b ≡ Option.None) where
  pub even : m.page_count % 2 ≡ 0
  even = (accepted_says L m b n e).0

  abbrev halves_small : both_halves m.page_count m.page_size ≤ 16384
  halves_small = small L lawful m.page_count m.page_size legal even

  abbrev H : Shape
  H = closed_shape L m.page_count m.page_size halves_small

  abbrev x : Machine
  x = record { heap = restored m b; buffer = other }

  abbrev a : Never
  a = never_restored L m b

  which : (closed x).side ≤ 1
  which = half_small (half_of (b 3))

  fits : b 4 + b 5 ≤ half_words m
  fits = (written_fits m b (accepted_says L m b n e).1).1

  abbrev start : ℕ
  start = first_word m (half_of (b 3))

  bounds : (start ≤ start + b 4) × (start + b 4 ≤ start + half_words m - b 5) × (start + half_words m - b 5 ≤ start + half_words m)
  bounds = omega (arith, fits)

  memory_words : (z : ℕ) → (restored m b).memory.word z < 2 ^ 32
  memory_words z = word_or_0 (leb start z && ltb z (start + half_words m)) (b (70 + (z - start))) (λ t.
      let u = and_parts (leb start z) (ltb z (start + half_words m)) t in
      words (70 + (z - start)) (omega (arith, leb-true start z u.0, ltb-true z (start + half_words m) u.1)))

  made : closed_well_made H (closed x) ≡ true
  made = sym (objects_as L x halves_small) ∙ (accepted_says L m b n e).2

  -- the objects of the image, in the order of their places
  found : Objects H.lay (closed x).st.mem (A L lawful x halves_small) (copied L lawful x halves_small) (to L lawful x halves_small) start (start + b 4) (start + half_words m - b 5) (start + half_words m)
  found = objects L lawful x halves_small which bounds memory_words made

  -- as if a FLIP had found its copied objects
  abbrev flip : Flip
  flip = F H (closed_laws L lawful) (closed x).side which (closed x).st (A L lawful x halves_small) (copied L lawful x halves_small) (to L lawful x halves_small) found

  world : World H flip (closed x) (closed_never a)
  world = record {
    body = rest_body H (closed_laws L lawful) (closed x).side which (closed x).st (A L lawful x halves_small) (copied L lawful x halves_small) (to L lawful x halves_small) found
        (closed x).scan 0 (closed x).reg a.register (b 4) (b 5) 0 (registers L lawful x halves_small which bounds memory_words made) refl (omega (arith, fits));
    mut = refl;
    phase = refl;
    count = refl;
  }

  -- to-space: its first page, and the page behind its last
  abbrev first : ℕ
  first = first_page m (half_of (b 3))

  abbrev behind : ℕ
  behind = first + half_pages m

  past : (p : ℕ) → m.page_count ≤ p → rank ((restored m b).memory.right p) ≡ 0
  past p l =
      let t = twice (half_pages m) (half_number (half_of (b 3))) which in
      ap rank (cond-false (leb first p && ltb p behind) All None (and_right (leb first p) (ltb p behind) (le-ltb p behind (omega arith))))

  rights : RightsOf H (closed x)
  rights p i = ap rank (cond-true (leb first p && ltb p behind) All None (in_range first behind p i.0 i.1))

  pub related_restored : Related L m.page_count m.page_size halves_small x a
  related_restored = record {
    page_size = refl;
    page_count = refl;
    past = past;
    flip = flip;
    world = world;
    rights = rights;
    headed = headed L lawful x halves_small which bounds memory_words made;
  }
