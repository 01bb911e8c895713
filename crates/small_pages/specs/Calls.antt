-- What a list of calls leaves of a memory.
use Rattle.std.specs.Prelude.{List, [], ◌∷◌}
use Rattle.memory.specs.Memory.{Memory, after_put, after_set, after_prot1, after_protn, after_unprot}
use Rattle.small_pages.specs.declared.calls.HostCall.{HostCall}
use Rattle.small_pages.specs.declared.calls.HostCall.TheVariants.{Look, Put, See, Set, Prot1, Protn, Unprot}

abbrev pub after_call : Memory → HostCall → Memory
after_call m (Look a) = m
after_call m (Put a w) = after_put m a w
after_call m (See a) = m
after_call m (Set a w) = after_set m a w
after_call m (Prot1 p r) = after_prot1 m p r
after_call m (Protn first count r) = after_protn m first count r
after_call m (Unprot p r) = after_unprot m p r

abbrev pub after_calls : Memory → List HostCall → Memory
after_calls m [] = m
after_calls m (call ∷ calls) = after_calls (after_call m call) calls
