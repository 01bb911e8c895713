-- The faults that were handed out and are still to be resolved, while a list of calls is carried out.
use Rattle.std.specs.Prelude.{◌≡◌, ℕ, ◌<◌, Bool, false, cond, List, Some, None, Option, ◌==◌, nat_lt, slice_index_or}
use Rattle.std.specs.Coded.{×_prop, Π_prop, →_prop, Unit-prop, Coded-set, coded_ℕ, coded_option}
use Rattle.model.specs.declared.states.State.{State}
use Rattle.model.specs.declared.states.State.TheVariants.{Running, Waiting, InHand}
use Rattle.heap.specs.declared.faults.Fault.{Fault}

-- the page that a mutator is in hand with
abbrev pub handed_out : State → Option ℕ
handed_out Running = None
handed_out (Waiting p) = None
handed_out (InHand p) = Some p

abbrev pub page_held : Option Fault → Option ℕ
page_held None = None
page_held (Some f) = Some f.page

-- a fault at hand is of mutator m
abbrev pub IsOf : ℕ → Option Fault → Type 0
IsOf m None = Unit {0}
IsOf m (Some f) = f.mutator ≡ m

-- at hand is, for each mutator that is in hand, its fault, and nothing else
abbrev pub HandsMatch : (ℕ → State) → List (Option Fault) → Type 0
HandsMatch s hands = (m : ℕ) → m < 4 → (page_held (slice_index_or hands m None) ≡ handed_out (s m)) × IsOf m (slice_index_or hands m None)

-- these facts have one proof at most
IsOf-prop : (m : ℕ) (f : Option Fault) → IsProp (IsOf m f)
IsOf-prop m None = Unit-prop
IsOf-prop m (Some f) = Coded-set coded_ℕ f.mutator m

pub HandsMatch-prop : (s : ℕ → State) (hands : List (Option Fault)) → IsProp (HandsMatch s hands)
HandsMatch-prop s hands = Π_prop (λ m. →_prop (×_prop (Coded-set (coded_option coded_ℕ) _ _) (IsOf-prop m (slice_index_or hands m None))))

-- the fault of mutator m on page p is at hand
abbrev pub is_on : ℕ → Option Fault → Bool
is_on p None = false
is_on p (Some f) = f.page == p

abbrev pub at_hand : List (Option Fault) → ℕ → ℕ → Bool
at_hand hands m p = cond (nat_lt 3 m) false (is_on p (slice_index_or hands m None))

-- all mutators run, so that nothing is at hand
abbrev pub AllRun : (ℕ → State) → Type 0
AllRun s = (m : ℕ) → s m ≡ Running
