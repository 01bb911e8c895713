-- The words of a buffer written one after the other.
use Rattle.std.proofs.Common.{◌≡◌, ℕ, ◌+◌, ap, ◌∙◌, arith}
use Rattle.std.proofs.lemmas.Bool.Decides.{nat_tests}
use Rattle.memory.specs.Memory.{changed}
use Rattle.images.specs.Marking.{fronted}

pub fronted_none : (f b : ℕ → ℕ) → b ≡ fronted 0 f b
fronted_none f b = λ i j. at j i
  where
    at : (j : ℕ) → b j ≡ fronted 0 f b j
    at j = grind (arith, nat_tests)

-- word n, that of f, written behind the first n
pub fronted_more : (n : ℕ) (f b x y : ℕ → ℕ) (w : ℕ) → x ≡ fronted n f b → w ≡ f n → y ≡ changed x n w → y ≡ fronted (n + 1) f b
fronted_more n f b x y w is_x is_w is_y = is_y ∙ (λ i. changed (is_x i) n (is_w i)) ∙ (λ i j. at j i)
  where
    at : (j : ℕ) → changed (fronted n f b) n (f n) j ≡ fronted (n + 1) f b j
    at j = grind (arith, nat_tests)

pub fronted_all : (n k : ℕ) (f b x : ℕ → ℕ) → n ≡ k → x ≡ fronted n f b → x ≡ fronted k f b
fronted_all n k f b x all is_x = is_x ∙ ap (λ t. fronted t f b) all
