-- What a register that refers to an object says.
use Rattle.std.specs.Prelude.{◌≡◌, false, Option}
use Rattle.layouts.specs.declared.values.Value.{Value}
use Rattle.layouts.specs.declared.values.Value.TheVariants.{Reference}
use Rattle.model.specs.Objects.{is_reference}
use Rattle.state.specs.declared.mutators.ToAddress.{ToAddress}

-- the address that a value refers to, if it does
abbrev pub Refers : Value → Option ToAddress → Type 0
Refers v (Option.Some a) = v ≡ Reference a.0
Refers v Option.None = is_reference v ≡ false
