-- A list of calls, carried out one at a time.
use Rattle.std.proofs.Common.{◌≡◌, ℕ, ◌+◌, ◌<◌, ◌≤◌, List, length, get_or, drop, sym, ap, ◌∙◌}
use Rattle.std.proofs.lemmas.List.{at_drop_more, at_drop_all}
use Rattle.memory.specs.Memory.{Memory}
use Rattle.small_pages.specs.Calls.{after_call, after_calls}
use Rattle.small_pages.specs.declared.calls.HostCall.{HostCall}
use Rattle.small_pages.specs.declared.calls.HostCall.TheVariants.{Look}

-- the call at i leads from m to n, and those that are left from m to the end
pub calls_turn : (m n ended : Memory) (calls : List HostCall) (i : ℕ) → i < length calls → n ≡ after_call m (get_or calls i (Look 0)) → after_calls m (drop i calls) ≡ ended → after_calls n (drop (i + 1) calls) ≡ ended
calls_turn m n ended calls i l did inv = ap (λ x. after_calls x (drop (i + 1) calls)) did ∙ sym (at_drop_more (after_calls m) calls i (Look 0) l) ∙ inv

pub calls_end : (m ended : Memory) (calls : List HostCall) (i : ℕ) → length calls ≤ i → after_calls m (drop i calls) ≡ ended → m ≡ ended
calls_end m ended calls i l inv = sym (at_drop_all (after_calls m) calls i l) ∙ inv
