-- The sizes of a layer: five page sizes, three divisors. A layer has as many words as the host below.
use Rattle.std.specs.Prelude.{◌≡◌, ℕ, ◌*◌, ◌/◌, ◌<◌, ◌≤◌, Bool, true, false, cond, List, length, replicate, Ok, Err, nat_lt, slice_set, refl}
use Rattle.std.proofs.Common.{sym, ap, ◌∙◌, arith, mul_assoc, mul-one, div-one}
use Rattle.std.proofs.lemmas.Nat.{div_below}
use Rattle.std.proofs.lemmas.Bool.{cond_both}
use Rattle.std.proofs.lemmas.Bool.Decides.{nat_tests}
use Rattle.std.proofs.lemmas.List.{get_or-set_same, get_or-set_other, get_or-replicate}
use Rattle.memory.specs.Memory.{Memory, legal_page_size, legal_sizes, extent, inside, page_of, see_answer, set_answer, with_word, with_right, after_set, after_protn}
use Rattle.memory.specs.declared.refusals.Refusal.TheVariants.{Outside}
use Rattle.memory.specs.declared.rights.Right.{Right}
use Rattle.memory.specs.declared.rights.Right.TheVariants.{None, All}
use Rattle.memory.proofs.Memories.{same_memory, run_none}
use Rattle.small_pages.specs.Splits.{number, fits, divisor, small_memory, split}
use Rattle.small_pages.specs.declared.parts.Parts.{Parts}
use Rattle.small_pages.specs.declared.parts.Parts.TheVariants.{Two, Four, Eight}

-- each divisor divides each page size
share : (s : ℕ) → legal_page_size s ≡ true → (parts : Parts) → number parts * (s / number parts) ≡ s
share s h Two = grind (arith, nat_tests)
share s h Four = grind (arith, nat_tests)
share s h Eight = grind (arith, nat_tests)

some_parts : (parts : Parts) → 0 < number parts
some_parts Two = omega arith
some_parts Four = omega arith
some_parts Eight = omega arith

pub some_pages : (m : Memory) (parts : Parts) → 0 < divisor m parts
some_pages m parts = cond_both (fits m (number parts)) (number parts) 1 (λ d. 0 < d) (λ _. some_parts parts) (λ _. omega arith)

module _ (m : Memory) (parts : Parts) (legal : legal_sizes m.page_count m.page_size ≡ true) where
  pub small_sized : fits m (divisor m parts) ≡ true
  small_sized = cond_both (fits m (number parts)) (number parts) 1 (λ d. fits m d ≡ true) (λ e. e) (λ _. rw (mul-one, div-one) legal)

  pub few_small : m.page_count * divisor m parts ≤ 64
  few_small = let s = small_sized in grind (arith, nat_tests)

  some_words : 0 < m.page_size / divisor m parts
  some_words = let s = small_sized in grind (arith, nat_tests)

  shared : divisor m parts * (m.page_size / divisor m parts) ≡ m.page_size
  shared =
      let size : legal_page_size m.page_size ≡ true = grind (arith, nat_tests) in
      cond_both (fits m (number parts)) (number parts) 1 (λ d. d * (m.page_size / d) ≡ m.page_size) (λ _. share m.page_size size parts) (λ _. omega arith)

  pub small_extent : (rights : List Right) → extent (small_memory m (divisor m parts) rights) ≡ extent m
  small_extent rights = mul_assoc m.page_count (divisor m parts) (m.page_size / divisor m parts) ∙ ap (λ n. m.page_count * n) shared

  pub small_page : (rights : List Right) (a : ℕ) → a < extent (small_memory m (divisor m parts) rights) → page_of (small_memory m (divisor m parts) rights) a < m.page_count * divisor m parts
  small_page rights a h = div_below a (m.page_size / divisor m parts) (m.page_count * divisor m parts) some_words h

-- a small page with another right
pub marked : (m : Memory) (k : ℕ) (rights : List Right) (p : ℕ) (r : Right) → p < length rights → p < m.page_count * k → small_memory m k (slice_set rights p r) ≡ with_right (small_memory m k rights) p r
marked m k rights p r l h = same_memory _ _ refl refl (λ a. refl) (λ q. grind (arith, nat_tests, get_or-set_same, get_or-set_other))

-- every small page at all
pub small_split : (m : Memory) (k : ℕ) → m.page_count * k ≤ 64 → small_memory m k (replicate 64 All) ≡ split m k
small_split m k h = same_memory _ _ refl refl (λ a. refl) (λ q. grind (arith, nat_tests, get_or-replicate 64 q All None))

-- A layer by its state

abbrev pub layer_of : Memory → Parts → List Right → Memory
layer_of m parts rights = small_memory m (divisor m parts) rights

pub same_see : (m : Memory) (parts : Parts) (rights : List Right) (a : ℕ) → legal_sizes m.page_count m.page_size ≡ true → see_answer m a ≡ see_answer (layer_of m parts rights) a
same_see m parts rights a legal = ap (λ n. cond (nat_lt a n) (Ok (m.word a)) (Err Outside)) (sym (small_extent m parts legal rights))

pub same_set : (m : Memory) (parts : Parts) (rights : List Right) (a : ℕ) → legal_sizes m.page_count m.page_size ≡ true → set_answer m a ≡ set_answer (layer_of m parts rights) a
same_set m parts rights a legal = ap (λ n. cond (nat_lt a n) (Ok tt) (Err Outside)) (sym (small_extent m parts legal rights))

layer_cond : (b : Bool) (m : Memory) (parts : Parts) (rights : List Right) (a w : ℕ) → layer_of (cond b (with_word m a w) m) parts rights ≡ cond b (with_word (layer_of m parts rights) a w) (layer_of m parts rights)
layer_cond true m parts rights a w = refl
layer_cond false m parts rights a w = refl

-- a word written below is written in the layer
pub layer_after_set : (m : Memory) (parts : Parts) (rights : List Right) (a w : ℕ) → legal_sizes m.page_count m.page_size ≡ true → layer_of (after_set m a w) parts rights ≡ after_set (layer_of m parts rights) a w
layer_after_set m parts rights a w legal =
    let n : Memory = layer_of m parts rights in
    layer_cond (inside m a) m parts rights a w ∙ ap (λ e. cond (nat_lt a e) (with_word n a w) n) (sym (small_extent m parts legal rights))

-- an empty run lowers nothing
pub run_empty : (m : Memory) (first count : ℕ) (r : Right) → count ≡ 0 → after_protn m first count r ≡ m
run_empty m first count r e = rw e (run_none m first r)
