-- A pairing in closed form is a pairing.
use Rattle.std.proofs.Common.{◌≡◌, ℕ, suc, ◌+◌, ◌*◌, ◌/◌, ◌<◌, ◌≤◌, true, ◌⊎◌, length, sym, ap, subst, inl, inr, mul-le-mul_right, arith}
use Rattle.std.proofs.lemmas.Bool.{cases_lt, lt-ltb}
use Rattle.std.proofs.lemmas.Nat.{div_below}
use Rattle.memory.specs.Memory.{legal_sizes}
use Rattle.layouts.specs.Layouts.{Rules}
use Rattle.model.specs.Heap.{Heap as MovingHeap, to_start, to_stop}
use Rattle.model.specs.Outcomes.{Machine}
use Rattle.model.specs.Never.{Never}
use Rattle.model.specs.Reaching.{object_at, words_of}
use Rattle.model.specs.Collections.{Apart, IsScanned, Paired, Tally, Complete}
use Rattle.theory.specs.Model.{Layout}
use Rattle.theory.specs.Collect.{Flip as Flipping, FlipOk, size as size_of}
use Rattle.theory.specs.Machine.{Shape, half}
use Rattle.theory.specs.Pairing.{Paired as ClosedPaired, Ends}
use Rattle.theory.specs.Closed.{closed_layout, both_halves, closed_shape, closed, closed_never}
use Rattle.theory.proofs.ClosedLaws.{size_positive, count_few}
use Rattle.theory.proofs.ClosedNever.{placed, Headed}
use Rattle.theory.proofs.ClosedReached.{slots_told, reaches_as}

module _ (L : Rules) (count size : ℕ) (small : both_halves count size ≤ 16384) (legal : legal_sizes count size ≡ true) (y : Never) (x : Machine) (a : Never)
    (es : x.heap.memory.page_size ≡ size) (ec : x.heap.memory.page_count ≡ count) (ends : x.heap.space.copy_end ≤ count * size)
    (headed_before : Headed L y.objects) (headed : Headed L a.objects) (grown : length y.objects ≤ length a.objects)
    (F : Flipping) (ok : FlipOk (closed_layout L) F) (old : F.old ≡ placed y.objects) (regs : F.regs ≡ 32) (reg : F.reg ≡ y.register) where
  abbrev H : Shape
  H = closed_shape L count size small

  abbrev lay : Layout
  lay = closed_layout L

  abbrev h : MovingHeap
  h = x.heap

  start_as : to_start h ≡ (closed x).side * half H
  start_as = rw (es, ec)

  stop_as : to_stop h ≡ (closed x).side * half H + half H
  stop_as = rw (es, ec)

  words_same : (p : ℕ) → p < length a.objects → size_of lay (closed_never a).heap p ≡ words_of a.objects p
  words_same p l = ap suc (sym (slots_told L a.objects headed p l))

  module _ (c : ClosedPaired H (closed_never y) (closed x) (closed_never a)) where
    -- every paired place is one of an object
    is_place : (p : ℕ) → c.live p ≡ true → p < length a.objects
    is_place p l = elim (cases_lt p (length y.objects)) [ inl k ↦ omega arith | inr k ↦ (c.news p k).0 l ]

    words_at : (p : ℕ) → c.live p ≡ true → size_of lay (closed_never a).heap p ≡ words_of a.objects p
    words_at p l = words_same p (is_place p l)

    -- an address below the copy end lies on one of the 64 pages
    scan_as : (z : ℕ) → z < h.space.copy_end → IsScanned h z → z < (closed x).scan (z / size)
    scan_as z l s =
        let few = mul-le-mul_right size (count_few count size legal) in
        let q = div_below z size 64 (size_positive count size legal) (omega arith) in
        rw (lt-ltb (z / size) 64 q) (rw es at s)

    scanned_slot : (p i : ℕ) → c.live p ≡ true → i < length (object_at a.objects p).slots → (length y.objects ≤ p) ⊎ IsScanned h (c.to p + suc i) → (length y.objects ≤ p) ⊎ (c.to p + suc i < (closed x).scan ((c.to p + suc i) / size))
    scanned_slot p i l k (inl n) = inl n
    scanned_slot p i l k (inr s) = elim (cases_lt p (length y.objects)) [
      | inl o ↦ inr (scan_as (c.to p + suc i) (omega (arith, (c.copied p l o).2, words_at p l)) s)
      | inr o ↦ inl o
    ]

    pub paired_as : Paired L y h a
    paired_as = record {
      is_paired = c.live;
      address = c.to;
      copied = λ p l k. let o = c.copied p l k in ((reaches_as L y.objects headed_before y.register F ok old regs reg p).0 o.0, omega (arith, start_as, o.1), omega (arith, o.2, words_at p l));
      covered = λ z l k. let o = c.covered z (omega (arith, start_as)) k in (o.0, o.1, o.2, o.3, omega (arith, o.4, words_at o.0 o.1));
      news = c.news;
      new = λ p l k. let o = c.new p l k in (o.0, omega (arith, o.1, stop_as, words_at p l));
      apart = λ p q l k ne. subst (λ n. Apart (c.to p) (words_of a.objects p) (c.to q) n) (words_at q k) (subst (λ n. Apart (c.to p) n (c.to q) (size_of lay (closed_never a).heap q)) (words_at p l) (c.apart p q l k ne));
      headers = c.header;
      registers = c.registers;
      slots = λ p i l k s. c.slots p i l (rw (slots_told L a.objects headed p (is_place p l)) at k) (scanned_slot p i l k s);
    }

  pub complete_as : (t : Tally) → Ends H (closed_never y) t.copied t.scanned (closed x) (closed_never a) → Complete L y t h a
  unfolding paired_as
  complete_as t e = record {
    pairing = paired_as e.paired;
    all_paired = λ p r. e.all p ((reaches_as L y.objects headed_before y.register F ok old regs reg p).1 r);
    copied = e.copied;
    scanned = e.scanned;
  }
