-- What every promise asks of the start of a list of calls: legal sizes, an even number of pages, and both heaps related.
use Rattle.std.proofs.Common.{◌≡◌, ℕ, ◌%◌, ◌^◌, ◌<◌, true}
use Rattle.std.specs.declared.option.Option.TheVariants as Option
use Rattle.memory.specs.Memory.{Memory, legal_sizes}
use Rattle.layouts.specs.Layouts.{Rules, Lawful}
use Rattle.model.specs.Images.{image_words}
use Rattle.model.specs.Restoring.{restore_refusal}
use Rattle.model.specs.Runs.{Both}
use Rattle.model.specs.Starts.{both_made, both_restored, Start, Start.at_make, Start.at_restore}
use Rattle.theory.proofs.Related.{related_made}
use Rattle.theory.proofs.RestoredStart.{even, related_restored}
use Rattle.theory.proofs.CollectionsPaired.{Tied}
use Rattle.theory.proofs.MachineRuns.{Runs}

abbrev pub count_of : Both → ℕ
count_of y = y.moving.heap.memory.page_count

abbrev pub size_of : Both → ℕ
size_of y = y.moving.heap.memory.page_size

pub record Begins (L : Rules) (lawful : Lawful L) (y : Both) : Type 0 where
  pub legal : legal_sizes (count_of y) (size_of y) ≡ true
  pub even : count_of y % 2 ≡ 0
  pub tied : Tied L lawful (count_of y) (size_of y) legal even y

module _ (L : Rules) (lawful : Lawful L) where
  pub runs_from : (y : Both) (s : Begins L lawful y) → Runs L lawful (count_of y) (size_of y) s.legal s.even y.moving
  runs_from y s = record { never = y.never; tied = s.tied }

  begins_made : (count size : ℕ) (legal : legal_sizes count size ≡ true) (even : count % 2 ≡ 0) (b : ℕ → ℕ) → Begins L lawful (both_made count size b)
  begins_made count size legal even b = record { legal = legal; even = even; tied = related_made L lawful count size legal even b }

  begins_restored : (m : Memory) (legal : legal_sizes m.page_count m.page_size ≡ true) (b other : ℕ → ℕ) (n : ℕ) (words : (j : ℕ) → j < image_words m → b j < 2 ^ 32) (e : restore_refusal L m n b ≡ Option.None) → Begins L lawful (both_restored L m b other)
  begins_restored m legal b other n words e = record { legal = legal; even = even L lawful m legal b other n words e; tied = related_restored L lawful m legal b other n words e }

  pub begins : (y : Both) → Start L y → Begins L lawful y
  begins y (at_make count size legal even b) = begins_made count size legal even b
  begins y (at_restore m legal b other n words e) = begins_restored m legal b other n words e
