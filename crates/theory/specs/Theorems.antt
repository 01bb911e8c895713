use Rattle.std.specs.Prelude.{◌≡◌, ℕ, ◌<◌, List}
use Rattle.theory.specs.Collect.{Laws}
use Rattle.theory.specs.Machine.{Shape}
use Rattle.model.specs.declared.calls.Call.{Call}
use Rattle.theory.specs.Pairing.{Collects}
use Rattle.theory.specs.Bounds.{StepBound}
use Rattle.theory.specs.Runs.{AccessRepeats, NewRepeats, TrapsWhen}
use Rattle.theory.specs.Image.{ImageSealed, SealBound}
use Rattle.theory.specs.Restore.{ImageRestores, ImageAgain, ImageAgainWhole}
use Rattle.theory.specs.Steps.{run_m, run_a, answers, fresh_m, fresh_a}

-- for every layout with the laws, every page size and count, and every list of calls, the heap answers as the never-moving one,
-- which is told only what trapped, on which page, and which STEP ended
abbrev pub RunsAgree : Type 0
RunsAgree = (H : Shape) → Laws H.lay → 0 < H.page → (lent : ℕ → ℕ) (cs : List Call) → run_a H fresh_a cs (run_m H (fresh_m H lent) cs) ≡ answers (run_m H (fresh_m H lent) cs)

-- and from each FLIP to the STEP that ends it the copied objects pair one to one with places that the registers reached, and so on
abbrev pub AllCollect : Type 0
AllCollect = (H : Shape) → Laws H.lay → 0 < H.page → Collects H

-- and with n STEPs accepted since FLIP and still collecting, n is less than the pages that the reached words take, or 0
abbrev pub StepsBounded : Type 0
StepsBounded = (H : Shape) → Laws H.lay → 0 < H.page → StepBound H

-- a LOAD or STORE repeated next after its RESOLVE does not trap; a NEW so repeated does not trap twice running, unless a MARK was accepted since its first trap
abbrev pub AllRepeat : Type 0
AllRepeat = (H : Shape) → Laws H.lay → 0 < H.page → AccessRepeats H × NewRepeats H

-- a sealed buffer holds the image of the state at its MARK, and the SAVE that seals is no later than the K-th accepted
abbrev pub AllSealed : Type 0
AllSealed = (H : Shape) → Laws H.lay → 0 < H.page → 0 < H.pages → ImageSealed H × SealBound H

-- MARK and SAVEs right after RESTORE write the accepted image again
abbrev pub AllAgain : Type 0
AllAgain = (H : Shape) → Laws H.lay → 0 < H.page → 0 < H.pages → ImageAgain H × ImageAgainWhole H

-- a sealed image is accepted by RESTORE on every heap of its size and layout, which then has the used words, half, L, N and registers of the heap at MARK
abbrev pub AllRestore : Type 0
AllRestore = (H : Shape) → Laws H.lay → 0 < H.page → ImageRestores H

-- LOAD traps only while collecting, STORE while collecting or imaging, NEW while imaging, and a trap's page lies in to-space
abbrev pub AllTrap : Type 0
AllTrap = (H : Shape) → Laws H.lay → 0 < H.page → TrapsWhen H
