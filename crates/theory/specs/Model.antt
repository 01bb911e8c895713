-- Values, layouts, memory and sums.
use Rattle.std.specs.Prelude.{ℕ, ◌+◌, ◌-◌, Bool, cond, ◌&&◌, nat_le, nat_lt}
use Rattle.memory.specs.Memory.{changed}
use Rattle.layouts.specs.declared.values.Value.{Value}
use Rattle.model.specs.Collections.{at_address}
use Rattle.model.specs.Reaching.{sum_below}

abbrev pub map_v : (ℕ → ℕ) → Value → Value
map_v f v = at_address f v

pub record Layout : Type 0 where
  pub number : ℕ
  pub make : ℕ → ℕ → ℕ
  pub slots : ℕ → ℕ
  pub head : ℕ → Bool
  pub admits : ℕ → ℕ → Value → Bool
  pub pack : ℕ → ℕ → Value → ℕ
  pub unpack : ℕ → ℕ → ℕ → Value

abbrev pub upd : {X : Type 0} → (ℕ → X) → ℕ → X → (ℕ → X)
upd m a w = changed m a w

-- k words from src to dst
abbrev pub blit : (ℕ → ℕ) → ℕ → ℕ → ℕ → (ℕ → ℕ)
blit m src dst k = λ b. cond (nat_le dst b && nat_lt b (dst + k)) (m (src + (b - dst))) (m b)

-- the sum of f over the places below n
abbrev pub sum_to : ℕ → (ℕ → ℕ) → ℕ
sum_to n f = sum_below n f

abbrev pub weight : (ℕ → ℕ) → (ℕ → Bool) → ℕ → ℕ
weight size b p = cond (b p) (size p) 0
