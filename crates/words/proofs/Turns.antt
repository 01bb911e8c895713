-- One turn of a loop over words or pages.
use Rattle.std.proofs.Common.{◌≡◌, ℕ, ◌+◌, ap, ◌∙◌, ap₂, add-one}
use Rattle.memory.specs.Memory.{Memory, after_set, after_unprot}
use Rattle.memory.specs.declared.rights.Right.TheVariants.{All}
use Rattle.model.specs.Collecting.{opened}
use Rattle.model.specs.Forwarding.{copied}
use Rattle.words.specs.Words.{zeroed}

pub zeroed_more : (n : ℕ) (m p q : Memory) → p ≡ zeroed n m → q ≡ after_set p n 0 → q ≡ zeroed (n + 1) m
zeroed_more n m p q is_p is_q = rw add-one (is_q ∙ ap (λ x. after_set x n 0) is_p)

pub opened_more : (n : ℕ) (m p q : Memory) (a : ℕ) → p ≡ opened n m a → q ≡ after_unprot p (a + n) All → q ≡ opened (n + 1) m a
opened_more n m p q a is_p is_q = rw add-one (is_q ∙ ap (λ x. after_unprot x (a + n) All) is_p)

-- p before the turn, s after the word w was read, q after it was written
pub copied_more : (n : ℕ) (m p s q : Memory) (old new w : ℕ) → p ≡ copied n m old new → w ≡ p.word (old + n) → s ≡ p → q ≡ after_set s (new + n) w → q ≡ copied (n + 1) m old new
copied_more n m p s q old new w is_p is_w is_s is_q =
    rw add-one (is_q ∙ ap₂ (λ x y. after_set x (new + n) y) (is_s ∙ is_p) (is_w ∙ ap (λ x. x.word (old + n)) is_p))
