-- One turn of the loop of NEW.
use Rattle.std.proofs.Common.{◌≡◌, ℕ, suc, ◌+◌, ◌∙◌, add-one}
use Rattle.memory.specs.Memory.{Memory, after_put}
use Rattle.layouts.specs.Layouts.{Rules}
use Rattle.model.specs.Objects.{packed_word, initial}
use Rattle.model.specs.Mutators.{slots_put}

pub slots_more : (L : Rules) (n : ℕ) (m p q : Memory) (x a r w : ℕ) → p ≡ slots_put L n m x a r → w ≡ packed_word L x n (initial r n) → q ≡ after_put p (a + (n + 1)) w → q ≡ slots_put L (n + 1) m x a r
slots_more L n m p q x a r w is_p is_w is_q =
    let one : n + 1 ≡ suc n = add-one n in
    let step : q ≡ after_put (slots_put L n m x a r) (a + suc n) (packed_word L x n (initial r n)) = is_q ∙ (λ k. after_put (is_p k) (a + one k) (is_w k)) in
    rw add-one step
