use Rattle.std.proofs.Common.{◌≡◌, drop}
use Rattle.small_pages.specs.Calls.{after_calls}
use Rattle.small_pages.specs.Layers.{layer_meaning, Least, SameSizes}
use Rattle.small_pages.proofs.pages.SmallPages.carry_out.Given as goal

-- the calls that are left lead to where all of them lead
abbrev pub invariant-loop-call : goal.invariant-loop-call
invariant-loop-call g l = let means = g.H.Host.meaning in (after_calls (layer_meaning means l.self) (drop l.call-index l.calls) ≡ after_calls (layer_meaning means l.initial.self) l.calls) × SameSizes means l.initial.self l.self × (Least means l.initial.self → Least means l.self)
