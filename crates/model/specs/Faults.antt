-- What TAKE and RESOLVE do, where they are not refused.
use Rattle.std.specs.Prelude.{ℕ, Bool, cond, ◌&&◌}
use Rattle.layouts.specs.Layouts.{Rules}
use Rattle.model.specs.declared.calls.Answer.TheVariants as Answer
use Rattle.model.specs.declared.states.State.{State}
use Rattle.model.specs.declared.states.State.TheVariants.{Running, Waiting, InHand}
use Rattle.model.specs.Heap.{Heap, with_state}
use Rattle.model.specs.Scanning.{page_scanned, page_counts, has_unscanned}
use Rattle.model.specs.Images.{page_saved}
use Rattle.model.specs.Refusing.{is_collecting, is_imaging}
use Rattle.model.specs.Outcomes.{Machine, Outcome, outcome, with_heap}

abbrev pub fault_page : State → ℕ
fault_page Running = 0
fault_page (Waiting p) = p
fault_page (InHand p) = p

-- the fault of a waiting mutator handed out
abbrev pub take : Heap → ℕ → Outcome Heap
take h m = outcome (with_state h m (InHand (fault_page (h.state m)))) (Answer.Fault (fault_page (h.state m)))

-- a fault's page is scanned if collecting and a word there is unscanned, saved if imaging and unsaved; then the mutator runs
abbrev pub runs_again : Machine → ℕ → Machine
runs_again x m = with_heap x (with_state x.heap m Running)

abbrev pub wants_scan : Heap → ℕ → Bool
wants_scan h p = is_collecting h.phase && has_unscanned h p

abbrev pub wants_save : Heap → ℕ → Bool
wants_save h p = is_imaging h.phase && h.unsaved p

abbrev pub resolve : Rules → Machine → ℕ → ℕ → Outcome Machine
resolve L x m p =
    cond (wants_scan x.heap p) (outcome (runs_again (with_heap x (page_scanned L x.heap p)) m) (Answer.Scanned (page_counts L x.heap p).0 (page_counts L x.heap p).1))
    (cond (wants_save x.heap p) (outcome (runs_again (page_saved x p) m) (Answer.Scanned 0 0))
    (outcome (runs_again x m) (Answer.Scanned 0 0)))
