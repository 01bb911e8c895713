-- What MAKE and RESTORE do.
use Rattle.std.specs.Prelude.{◌≡◌, ℕ, ◌%◌, List, length, Ok, Err, Result}
use Rattle.memory.specs.Memory.{Memory, extent, after_protn}
use Rattle.memory.specs.declared.refusals.Refusal.TheVariants.{Size}
use Rattle.memory.specs.declared.refusals.Rejected.{Rejected}
use Rattle.memory.specs.declared.rights.Right.TheVariants.{None}
use Rattle.layouts.specs.Layouts.{Rules}
use Rattle.std.specs.declared.option.Option.TheVariants as Option
use Rattle.words.specs.Words.{zeroed}
use Rattle.model.specs.Heap.{half_pages}
use Rattle.model.specs.Collecting.{opened}
use Rattle.model.specs.Calls.{made}
use Rattle.model.specs.Restoring.{restored, restore_refusal}
use Rattle.restoring.specs.Restored.{image_view}
use Rattle.heap.specs.View.{view}
use Rattle.heap.specs.declared.heap_state.Heap.{Heap}

-- the words cleared one by one, then the rights of the halves
abbrev pub cleared : Memory → Memory
cleared m = after_protn (opened (half_pages m) (zeroed (extent m) m) 0) (half_pages m) (half_pages m) None

module _ {H L : Type 0} (means : H → Memory) where
  -- a heap with no objects on a host with an even page count; or host and layout back
  abbrev pub Made : H → L → Result (Heap H L) (Rejected (H × L)) → Type 0
  Made host layout (Ok h) = ((means host).page_count % 2 ≡ 0) × (view means h ≡ made (means host).page_count (means host).page_size) × (h.layout ≡ layout)
  Made host layout (Err e) = ((means host).page_count % 2 ≡ 1) × (e.refusal ≡ Size) × (e.given ≡ (host, layout))

module _ {H L : Type 0} (rules : Rules) (means : H → Memory) where
  -- the heap of an image; or why the image is refused, with host and layout back
  abbrev pub Restored : H → L → List ℕ → Result (Heap H L) (Rejected (H × L)) → Type 0
  Restored host layout image (Ok h) = (restore_refusal rules (means host) (length image) (image_view image) ≡ Option.None) × (view means h ≡ restored (means host) (image_view image)) × (h.layout ≡ layout)
  Restored host layout image (Err e) = (restore_refusal rules (means host) (length image) (image_view image) ≡ Option.Some e.refusal) × (e.given ≡ (host, layout))
