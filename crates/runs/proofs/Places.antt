-- The places for the answers.
use Rattle.std.proofs.Common.{◌≡◌, ℕ, ◌%◌, ◌≤◌, false, ◌&&◌, ltb, sym, ap, ◌∙◌}
use Rattle.std.proofs.lemmas.Bool.{eq-eqb, ltb-false}
use Rattle.memory.specs.Memory.{Memory}
use Rattle.runs.specs.Lists.{lacks_places}

pub enough : (m : Memory) (places calls : ℕ) → m.page_count % 2 ≡ 0 → lacks_places m places calls ≡ false → calls ≤ places
enough m places calls even lacks = ltb-false places calls (sym (ap (λ b. b && ltb places calls) (eq-eqb (m.page_count % 2) 0 even)) ∙ lacks)
