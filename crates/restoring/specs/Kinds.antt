-- What a register of an image holds.
use Rattle.std.specs.Prelude.{ℕ, zero, suc, Ok, Err, Result}
use Rattle.memory.specs.declared.refusals.Refusal.{Refusal}
use Rattle.memory.specs.declared.refusals.Refusal.TheVariants.{BadImage}
use Rattle.restoring.specs.declared.registers.Kind.{Kind}
use Rattle.restoring.specs.declared.registers.Kind.TheVariants.{Nil, Number, Reference}

-- a kind by its number
abbrev pub kind_of : ℕ → Result Kind Refusal
kind_of zero = Ok Nil
kind_of (suc zero) = Ok Number
kind_of (suc (suc zero)) = Ok Reference
kind_of (suc (suc (suc n))) = Err BadImage
