-- Rights rise: none, read, all.
use Rattle.std.specs.Prelude.{ℕ, Bool, true, false}
use Rattle.memory.specs.declared.rights.Right.{Right}
use Rattle.memory.specs.declared.rights.Right.TheVariants.{None, Read, All}

-- how high a right is
abbrev pub rank : Right → ℕ
rank None = 0
rank Read = 1
rank All = 2

abbrev pub lesser : Right → Right → Right
lesser None s = None
lesser Read None = None
lesser Read Read = Read
lesser Read All = Read
lesser All s = s

abbrev pub greater : Right → Right → Right
greater None s = s
greater Read None = Read
greater Read Read = Read
greater Read All = All
greater All s = All

abbrev pub may_read : Right → Bool
may_read None = false
may_read Read = true
may_read All = true

abbrev pub may_write : Right → Bool
may_write None = false
may_write Read = false
may_write All = true

-- the right of a page that may be read, or not, and written, or not; what may not be read may not be written
abbrev pub allowing : Bool → Bool → Right
allowing false w = None
allowing true false = Read
allowing true true = All
