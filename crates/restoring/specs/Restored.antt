-- What RESTORE does.
use Rattle.std.specs.Prelude.{◌≡◌, ℕ, List, length, Ok, Err, Result, slice_index}
use Rattle.memory.specs.Memory.{Memory}
use Rattle.memory.specs.declared.refusals.Rejected.{Rejected}
use Rattle.layouts.specs.Layouts.{Rules}
use Rattle.std.specs.declared.option.Option.TheVariants as Option
use Rattle.model.specs.Restoring.{restore_refusal, restored}
use Rattle.state.specs.View.{state_of}
use Rattle.state.specs.declared.plain_state.Plain.{Plain}

-- image word j, 0 past the end
abbrev pub image_view : List ℕ → ℕ → ℕ
image_view xs j = slice_index xs j

module _ {H L : Type 0} (rules : Rules) (means : H → Memory) where
  -- the heap of an accepted image; or why it is refused, with host and layout back
  abbrev pub Restores : H → L → List ℕ → Result (H × L × Plain) (Rejected (H × L)) → Type 0
  Restores host layout image (Ok x) = (restore_refusal rules (means host) (length image) (image_view image) ≡ Option.None) × (state_of (means x.0) x.2 ≡ restored (means host) (image_view image)) × (x.1 ≡ layout)
  Restores host layout image (Err e) = (restore_refusal rules (means host) (length image) (image_view image) ≡ Option.Some e.refusal) × (e.given ≡ (host, layout))
