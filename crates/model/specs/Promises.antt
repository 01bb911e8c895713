-- The whole promise of a heap, from a start on: the four promises, over every list of calls.
use Rattle.layouts.specs.Layouts.{Rules}
use Rattle.model.specs.Runs.{Both, AnswersAsIfNothingMoved}
use Rattle.model.specs.Collections.{CollectionCopiesTheReached}
use Rattle.model.specs.Repeats.{ResolvedCallsGoOn}
use Rattle.model.specs.Checkpoints.{ImagesAreSealed, ImagesRestoreTheirMoment}

pub record KeepsItsPromises (L : Rules) (y : Both) : Type 0 where
  -- answers are those of a heap that never moves an object
  pub answers : AnswersAsIfNothingMoved L y
  -- a collection copies exactly what FLIP's registers reached, and ends in time
  pub collection : CollectionCopiesTheReached L y
  -- a call whose fault was resolved goes on
  pub repeats : ResolvedCallsGoOn L y.moving
  -- an image is sealed in time, and restores its moment
  pub sealed : ImagesAreSealed L y.moving
  pub images : ImagesRestoreTheirMoment L y.moving
