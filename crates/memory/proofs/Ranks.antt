-- Rights as numbers, so that arithmetic decides which is least.
use Rattle.std.proofs.Common.{◌≡◌, ◌≤◌, min, max, refl, arith}
use Rattle.memory.specs.Rights.{lesser, greater, rank}
use Rattle.memory.specs.declared.rights.Right.{Right}
use Rattle.memory.specs.declared.rights.Right.TheVariants.{None, Read, All}

pub rank_lesser : (x y : Right) → rank (lesser x y) ≡ min (rank x) (rank y)
rank_lesser None y = omega arith
rank_lesser Read None = refl
rank_lesser Read Read = refl
rank_lesser Read All = refl
rank_lesser All None = refl
rank_lesser All Read = refl
rank_lesser All All = refl

pub rank_greater : (x y : Right) → rank (greater x y) ≡ max (rank x) (rank y)
rank_greater None y = omega arith
rank_greater Read None = refl
rank_greater Read Read = refl
rank_greater Read All = refl
rank_greater All None = refl
rank_greater All Read = refl
rank_greater All All = refl

pub rank_same : (x y : Right) → rank x ≡ rank y → x ≡ y
rank_same None None e = refl
rank_same None Read e = absurd (omega arith)
rank_same None All e = absurd (omega arith)
rank_same Read None e = absurd (omega arith)
rank_same Read Read e = refl
rank_same Read All e = absurd (omega arith)
rank_same All None e = absurd (omega arith)
rank_same All Read e = absurd (omega arith)
rank_same All All e = refl

pub rank_top : (x : Right) → rank x ≤ 2
rank_top None = omega arith
rank_top Read = omega arith
rank_top All = omega arith
