-- Where lists of calls begin: a heap as MAKE leaves it, or one that RESTORE made of an image that it accepted.
use Rattle.std.specs.Prelude.{◌≡◌, ℕ, ◌%◌, ◌^◌, ◌<◌, true}
use Rattle.memory.specs.Memory.{Memory, legal_sizes}
use Rattle.layouts.specs.Layouts.{Rules}
use Rattle.std.specs.declared.option.Option.TheVariants as Option
use Rattle.model.specs.Images.{image_words}
use Rattle.model.specs.Calls.{made}
use Rattle.model.specs.Never.{never_made}
use Rattle.model.specs.Restoring.{restored, restore_refusal}
use Rattle.model.specs.ImageHeap.{never_restored}
use Rattle.model.specs.Runs.{Both}

-- MAKE on a host of these sizes, with a buffer that holds these words
abbrev pub both_made : ℕ → ℕ → (ℕ → ℕ) → Both
both_made count size b = record { moving = record { heap = made count size; buffer = b }; never = never_made }

-- RESTORE of the image b on a host, and then another buffer, or the same
abbrev pub both_restored : Rules → Memory → (ℕ → ℕ) → (ℕ → ℕ) → Both
both_restored L m b other = record { moving = record { heap = restored m b; buffer = other }; never = never_restored L m b }

-- on a host of legal sizes: MAKE, which wants an even number of pages, or RESTORE of an image, of 32-bit words, that it accepts
pub data Start (L : Rules) : Both → Type 0 where
  at_make : (count size : ℕ) → legal_sizes count size ≡ true → count % 2 ≡ 0 → (b : ℕ → ℕ) → Start L (both_made count size b)
  at_restore : (m : Memory) → legal_sizes m.page_count m.page_size ≡ true → (b other : ℕ → ℕ) (n : ℕ) → ((j : ℕ) → j < image_words m → b j < 2 ^ 32) → restore_refusal L m n b ≡ Option.None → Start L (both_restored L m b other)
