-- What scanning pages answers.
use Rattle.std.specs.Prelude.{ℕ, ◌<◌, Bool, true, false, cond, Some, None, Option}
use Rattle.layouts.specs.Layouts.{Rules}
use Rattle.model.specs.Heap.{Heap as Model}
use Rattle.model.specs.Scanning.{has_unscanned, page_scanned, page_counts}
use Rattle.collector.specs.declared.pages.Progress.{Progress}
use Rattle.collector.specs.declared.pages.Progress.TheVariants.{Going, Ended}

-- a page, if one is found, is one of 64
abbrev pub Few : Option ℕ → Type 0
Few None = Unit {0}
Few (Some p) = p < 64

abbrev pub has_ended : Progress → Bool
has_ended Going = false
has_ended Ended = true

-- page p scanned if it has an unscanned word, and the words then scanned and copied
abbrev pub scanned_if : Rules → Model → ℕ → Model
scanned_if L h p = cond (has_unscanned h p) (page_scanned L h p) h

abbrev pub counts_if : Rules → Model → ℕ → ℕ × ℕ
counts_if L h p = cond (has_unscanned h p) (page_counts L h p) (0, 0)
