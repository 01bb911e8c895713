-- The rights of a fresh host.
use Rattle.std.proofs.Common.{◌≡◌, ℕ, ◌≤◌, cond, ltb, get_or, replicate, arith}
use Rattle.std.proofs.lemmas.Bool.Decides.{nat_tests}
use Rattle.std.proofs.lemmas.List.{get_or-replicate}
use Rattle.memory.specs.declared.rights.Right.TheVariants.{None, All}
use Rattle.check_host.specs.Meaning.{marked_right, unmarked}
use Rattle.check_host.specs.declared.marks.Marks.{Marks}

pub fresh_right : (m : Marks) (n p : ℕ) → marked_right m ≡ All → n ≤ 64 → cond (ltb p n) (marked_right (get_or (replicate 64 m) p unmarked)) None ≡ cond (ltb p n) All None
fresh_right m n p e h = grind (arith, nat_tests, e, get_or-replicate 64 p m unmarked)
