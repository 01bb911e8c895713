-- The least right of the small pages of a page as one of them changes.
use Rattle.std.proofs.Common.{◌≡◌, ℕ, zero, suc, ◌+◌, ◌-◌, ◌*◌, ◌/◌, ◌<◌, ◌≤◌, Bool, true, false, cond, ◌||◌, eqb, ltb, List, length, get_or, take, drop, replicate, sym, refl, ap, ◌∙◌, ap₂, ⊎_elim, add-one, arith}
use Rattle.std.specs.Prelude.{fold, slice_range}
use Rattle.std.proofs.lemmas.Grind.{common_steps}
use Rattle.std.proofs.lemmas.List.{get_or-drop}
use Rattle.std.proofs.lemmas.List.Sums.{fold_more}
use Rattle.std.proofs.lemmas.Nat.{mul-le, div-mul-add, mod_below, div_below, div-add-mod', mul-add-lt}
use Rattle.std.proofs.lemmas.Bool.{cond-true, cond-false, lt-ltb, eq-eqb, ne_eqb, cases_lt, cases_eq, and_parts}
use Rattle.std.proofs.lemmas.Bool.Decides.{nat_tests}
use Rattle.memory.specs.Memory.{Memory, legal_sizes, inside, with_word, with_right, after_set, after_prot1, after_unprot}
use Rattle.memory.specs.Rights.{lesser, greater, rank}
use Rattle.memory.specs.declared.rights.Right.{Right}
use Rattle.memory.specs.declared.rights.Right.TheVariants.{None, All}
use Rattle.memory.proofs.Ranks.{rank_lesser, rank_greater, rank_same, rank_top}
use Rattle.memory.proofs.Memories.{same_memory}
use Rattle.small_pages.specs.Splits.{number, fits, legal_split, divisor, all_open, opened, split, small_memory, lowest, LeastIn}
use Rattle.small_pages.specs.declared.parts.Parts.{Parts}
use Rattle.small_pages.specs.Sizes.{some_pages, few_small, small_split, layer_of, layer_after_set}

-- Order

lesser_swap : (x y z : Right) → lesser (lesser x y) z ≡ lesser (lesser x z) y
lesser_swap x y z = rank_same _ _ (omega (arith, rank_lesser (lesser x y) z, rank_lesser (lesser x z) y, rank_lesser x y, rank_lesser x z))

lesser_assoc : (x y z : Right) → lesser (lesser x y) z ≡ lesser x (lesser y z)
lesser_assoc x y z = rank_same _ _ (omega (arith, rank_lesser (lesser x y) z, rank_lesser x (lesser y z), rank_lesser x y, rank_lesser y z))

greater_both : (x y u v : Right) → greater x y ≡ y → greater u v ≡ v → greater (lesser x u) (lesser y v) ≡ lesser y v
greater_both x y u v p q = rank_same _ _ (omega (arith, rank_greater (lesser x u) (lesser y v), rank_lesser x u, rank_lesser y v, rank_greater x y, rank_greater u v, ap rank p, ap rank q))

greater_self : (x : Right) → greater x x ≡ x
greater_self x = rank_same _ _ (omega (arith, rank_greater x x))

greater_up : (x r : Right) → greater x (greater x r) ≡ greater x r
greater_up x r = rank_same _ _ (omega (arith, rank_greater x (greater x r), rank_greater x r))

greater_all : (x : Right) → greater x All ≡ All
greater_all x = rank_same _ _ (omega (arith, rank_greater x All, rank_top x))

-- The lowest of a row

pub lowest_more : (f : ℕ → Right) (first n : ℕ) → lowest f first (n + 1) ≡ lesser (lowest f first n) (f (first + n))
lowest_more f first n = rw add-one refl

lowest_same : (f g : ℕ → Right) (first n : ℕ) → ((i : ℕ) → i < n → f (first + i) ≡ g (first + i)) → lowest f first n ≡ lowest g first n
lowest_same f g first zero h = refl
lowest_same f g first (suc n) h = ap₂ lesser (lowest_same f g first n (λ i l. h i (omega arith))) (h n (omega arith))

lowest_all : (f : ℕ → Right) (first n : ℕ) → ((i : ℕ) → i < n → f (first + i) ≡ All) → lowest f first n ≡ All
lowest_all f first zero h = refl
lowest_all f first (suc n) h = ap₂ lesser (lowest_all f first n (λ i l. h i (omega arith))) (h n (omega arith))

-- g is f changed at p
module _ (f g : ℕ → Right) (p : ℕ) (r : Right) (same : (q : ℕ) → (q ≡ p → ⊥) → g q ≡ f q) where
  lowest_lowered : g p ≡ lesser (f p) r → (first n : ℕ) → first ≤ p → p < first + n → lowest g first n ≡ lesser (lowest f first n) r
  lowest_lowered here first zero l h = absurd (omega arith)
  lowest_lowered here first (suc n) l h =
      ⊎_elim
      (λ (k : p < first + n). ap₂ lesser (lowest_lowered here first n l k) (same (first + n) (λ e. omega arith)) ∙ lesser_swap (lowest f first n) r (f (first + n)))
      (λ (k : first + n ≤ p).
      let at : first + n ≡ p = omega arith in
      let front : lowest g first n ≡ lowest f first n = lowest_same g f first n (λ i m. same (first + i) (λ e. omega arith)) in
      let back : g (first + n) ≡ lesser (f (first + n)) r = ap g at ∙ here ∙ ap (λ x. lesser (f x) r) (sym at) in
      ap₂ lesser front back ∙ sym (lesser_assoc (lowest f first n) (f (first + n)) r))
      (cases_lt p (first + n))

  lowest_raised : g p ≡ greater (f p) r → (first n : ℕ) → greater (lowest f first n) (lowest g first n) ≡ lowest g first n
  lowest_raised here first zero = refl
  lowest_raised here first (suc n) =
      greater_both (lowest f first n) (lowest g first n) (f (first + n)) (g (first + n)) (lowest_raised here first n)
      (⊎_elim (λ (e : first + n ≡ p). rw e (rw here (greater_up (f p) r))) (λ (ne : first + n ≡ p → ⊥). rw (same (first + n) ne) (greater_self (f (first + n)))) (cases_eq (first + n) p))

-- Small pages and the page that they make up

-- the page below of small page p has p among its k small pages, and no other has
in_page : (k p : ℕ) → 0 < k → (p / k * k ≤ p) × (p < p / k * k + k)
in_page k p pos = let e = div-add-mod' p k in let l = mod_below p k pos in omega arith

off_page : (k p q i : ℕ) → (p / k ≡ q → ⊥) → i < k → q * k + i ≡ p → ⊥
off_page k p q i ne l e = ne (ap (λ x. x / k) (sym e) ∙ div-mul-add q k i l)

-- n's page p at x
module _ (n : Memory) (p : ℕ) (x : Right) where
  here_right : (with_right n p x).right p ≡ x
  here_right = cond-true (eqb p p) x _ (eq-eqb p p refl)

  other_right : (q : ℕ) → (q ≡ p → ⊥) → (with_right n p x).right q ≡ n.right q
  other_right q ne = cond-false (eqb p q) x _ (ne_eqb p q (λ e. ne (sym e)))

-- small page p of n changes to x, and the page below in m to what is then the least
changed_least : (m n : Memory) (k p : ℕ) (x y : Right) → y ≡ lowest (with_right n p x).right (p / k * k) k → LeastIn m n k → LeastIn (with_right m (p / k) y) (with_right n p x) k
changed_least m n k p x y here old q l =
    ⊎_elim
    (λ (e : p / k ≡ q). cond-true (eqb (p / k) q) y (m.right q) (eq-eqb (p / k) q e) ∙ here ∙ ap (λ z. lowest (with_right n p x).right (z * k) k) e)
    (λ (ne : p / k ≡ q → ⊥). cond-false (eqb (p / k) q) y (m.right q) (ne_eqb (p / k) q ne) ∙ old q l ∙ lowest_same n.right (with_right n p x).right (q * k) k (λ i h. sym (other_right n p x (q * k + i) (off_page k p q i ne h))))
    (cases_eq (p / k) q)

module _ (m n : Memory) (k p : ℕ) (r : Right) (pos : 0 < k) (within : p < m.page_count * k) where
  page_within : p / k < m.page_count
  page_within = div_below p k m.page_count pos within

  pub lowered_least : LeastIn m n k → LeastIn (after_prot1 m (p / k) r) (with_right n p (lesser (n.right p) r)) k
  lowered_least old =
      let x : Right = lesser (n.right p) r in
      let row = in_page k p pos in
      let here = ap (λ z. lesser z r) (old (p / k) page_within) ∙ sym (lowest_lowered n.right (with_right n p x).right p r (other_right n p x) (here_right n p x) (p / k * k) k row.0 row.1) in
      rw (cond-true (ltb (p / k) m.page_count) (with_right m (p / k) (lesser (m.right (p / k)) r)) m (lt-ltb (p / k) m.page_count page_within)) (changed_least m n k p x (lesser (m.right (p / k)) r) here old)

  pub raised_least : LeastIn m n k → LeastIn (after_unprot m (p / k) (lowest (with_right n p (greater (n.right p) r)).right (p / k * k) k)) (with_right n p (greater (n.right p) r)) k
  raised_least old =
      let x : Right = greater (n.right p) r in
      let new : Right = lowest (with_right n p x).right (p / k * k) k in
      let here = ap (λ z. greater z new) (old (p / k) page_within) ∙ lowest_raised n.right (with_right n p x).right p r (other_right n p x) (here_right n p x) (p / k * k) k in
      rw (cond-true (ltb (p / k) m.page_count) (with_right m (p / k) (greater (m.right (p / k)) new)) m (lt-ltb (p / k) m.page_count page_within)) (changed_least m n k p x (greater (m.right (p / k)) new) here old)

-- A layer that is just made

-- the first n pages at all
abbrev pub opened_to : Memory → ℕ → Memory
opened_to m n = record { page_size = m.page_size; page_count = m.page_count; word = m.word; right = λ q. cond (ltb q n) All (m.right q) }

-- a page below and all its small pages at all
pub split_least : (m : Memory) (k : ℕ) → LeastIn (opened m) (split m k) k
split_least m k p h =
    cond-true _ All _ (lt-ltb p m.page_count h) ∙ sym (lowest_all (all_open (m.page_count * k)) (p * k) k (λ i l. cond-true _ All _ (lt-ltb (p * k + i) (m.page_count * k) (let w = mul-add-lt p k i m.page_count h l in omega arith))))

-- the turn of a loop that raises each page to all
pub open_turn : (m n o : Memory) (p : ℕ) → p < m.page_count → n ≡ opened_to m p → o ≡ after_unprot n p All → o ≡ opened_to m (p + 1)
open_turn m n o p h inv did =
    let run : Memory = opened_to m p in
    let e : after_unprot run p All ≡ with_right run p (greater (run.right p) All) = cond-true _ _ run (lt-ltb p m.page_count h) in
    did ∙ ap (λ x. after_unprot x p All) inv ∙ e ∙ ap (with_right run p) (greater_all (run.right p)) ∙ same_memory _ _ refl refl (λ a. refl) (λ q. grind (arith, nat_tests))

pub open_none : (m : Memory) → m ≡ opened_to m 0
open_none m = same_memory _ _ refl refl (λ a. refl) (λ q. grind (arith, nat_tests))

pub open_whole : (m : Memory) → ((p : ℕ) → m.page_count ≤ p → m.right p ≡ None) → opened_to m m.page_count ≡ opened m
open_whole m shut = same_memory _ _ refl refl (λ a. refl) (λ q. grind (arith, nat_tests, shut q))

-- The least right that the code finds

-- the least of a part of a list is the lowest of that row
fold_lowest : (xs : List Right) (first n : ℕ) → first + n ≤ length xs → fold lesser All (take n (drop first xs)) ≡ lowest (λ p. get_or xs p None) first n
fold_lowest xs first zero h = refl
fold_lowest xs first (suc n) h =
    let before = fold_lowest xs first n (omega arith) in
    let long : n < length (drop first xs) = grind (arith, common_steps) in
    rw (← add-one) (fold_more lesser All (drop first xs) n None long ∙ ap₂ lesser before (get_or-drop first xs n None))

-- the least right of the small pages of page q, by the listed rights
pub listed_lowest : (m : Memory) (parts : Parts) (rights : List Right) (q : ℕ) → legal_sizes m.page_count m.page_size ≡ true → length rights ≡ 64 → q < m.page_count → fold lesser All (slice_range rights (q * divisor m parts) (q * divisor m parts + divisor m parts)) ≡ lowest (layer_of m parts rights).right (q * divisor m parts) (divisor m parts)
listed_lowest m parts rights q legal long l =
    let k : ℕ = divisor m parts in
    let few : m.page_count * k ≤ 64 = few_small m parts legal in
    let row : (i : ℕ) → i < k → q * k + i < m.page_count * k = λ i h. let w = mul-add-lt q k i m.page_count l h in omega arith in
    let wide : q * k + k - q * k ≡ k = omega arith in
    rw wide (fold_lowest rights (q * k) k (let w : q * k + k ≤ m.page_count * k = grind (arith, mul-le) in omega arith))
    ∙ lowest_same (λ p. get_or rights p None) (layer_of m parts rights).right (q * k) k (λ i h. sym (cond-true _ _ None (lt-ltb _ _ (row i h))))

-- A layer by its state

-- The layer whose state is m, ways and rights means n. The sizes are those that a host old and d small pages in a page
-- had.
pub record Settled (old : Memory) (d : ℕ) (m : Memory) (ways : Parts) (rights : List Right) (n : Memory) (Was : Type 0) : Type 0 where
  pub after : layer_of m ways rights ≡ n
  pub size : m.page_size ≡ old.page_size
  pub count : m.page_count ≡ old.page_count
  pub parts : divisor m ways ≡ d
  pub least : Was → LeastIn m (layer_of m ways rights) (divisor m ways)

-- a word written below alters neither sizes nor rights
words_settled : (b : Bool) (m : Memory) (parts : Parts) (rights : List Right) (a w : ℕ) → Settled m (divisor m parts) (cond b (with_word m a w) m) parts rights (layer_of (cond b (with_word m a w) m) parts rights) (LeastIn m (layer_of m parts rights) (divisor m parts))
words_settled true m parts rights a w = record { after = refl; size = refl; count = refl; parts = refl; least = λ old. old }
words_settled false m parts rights a w = record { after = refl; size = refl; count = refl; parts = refl; least = λ old. old }

-- a host below that stays
pub still_settled : (m n : Memory) (parts : Parts) (rights : List Right) → n ≡ m → Settled m (divisor m parts) n parts rights (layer_of m parts rights) (LeastIn m (layer_of m parts rights) (divisor m parts))
still_settled m n parts rights e = rw e (record { after = refl; size = refl; count = refl; parts = refl; least = λ old. old })

-- a word written by the second view
pub set_settled : (m n : Memory) (parts : Parts) (rights : List Right) (a w : ℕ) → legal_sizes m.page_count m.page_size ≡ true → n ≡ after_set m a w → Settled m (divisor m parts) n parts rights (after_set (layer_of m parts rights) a w) (LeastIn m (layer_of m parts rights) (divisor m parts))
set_settled m n parts rights a w legal did =
    let done = words_settled (inside m a) m parts rights a w in
    rw did (record { after = layer_after_set m parts rights a w legal; size = done.size; count = done.count; parts = done.parts; least = done.least })

-- the right of a page below says nothing of the layer's memory
settled : (b : Bool) (m : Memory) (parts : Parts) (rights : List Right) (n : Memory) (Was : Type 0) (q : ℕ) (y : Right) → layer_of m parts rights ≡ n → (Was → LeastIn (cond b (with_right m q y) m) n (divisor m parts)) → Settled m (divisor m parts) (cond b (with_right m q y) m) parts rights n Was
settled true m parts rights n Was q y is least = record { after = is; size = refl; count = refl; parts = refl; least = λ was. rw is (least was) }
settled false m parts rights n Was q y is least = record { after = is; size = refl; count = refl; parts = refl; least = λ was. rw is (least was) }

module _ (m : Memory) (parts : Parts) (rights : List Right) (p : ℕ) (r : Right) (within : p < m.page_count * divisor m parts) where
  abbrev Before : Type 0
  Before = LeastIn m (layer_of m parts rights) (divisor m parts)

  lowered_layer : (new : List Right) → layer_of m parts new ≡ with_right (layer_of m parts rights) p (lesser ((layer_of m parts rights).right p) r) → Settled m (divisor m parts) (after_prot1 m (p / divisor m parts) r) parts new (with_right (layer_of m parts rights) p (lesser ((layer_of m parts rights).right p) r)) Before
  lowered_layer new is = settled _ m parts new _ Before (p / divisor m parts) _ is (lowered_least m (layer_of m parts rights) (divisor m parts) p r (some_pages m parts) within)

  raised_layer : (new : List Right) → layer_of m parts new ≡ with_right (layer_of m parts rights) p (greater ((layer_of m parts rights).right p) r) → Settled m (divisor m parts) (after_unprot m (p / divisor m parts) (lowest (layer_of m parts new).right (p / divisor m parts * divisor m parts) (divisor m parts))) parts new (with_right (layer_of m parts rights) p (greater ((layer_of m parts rights).right p) r)) Before
  raised_layer new is =
      let k : ℕ = divisor m parts in
      rw (ap (λ (x : Memory). lowest x.right (p / k * k) k) is) (settled _ m parts new _ Before (p / k) _ is (raised_least m (layer_of m parts rights) k p r (some_pages m parts) within))

  -- first small page p changes to x, which leaves m₁, parts₁ and rights₁, and then the page below
  module _ (m₁ m₂ : Memory) (parts₁ parts₂ : Parts) (rights₁ rights₂ : List Right) (x : Right) (same_below : m₁ ≡ m) (same_parts : parts₁ ≡ parts) (marked : layer_of m₁ parts₁ rights₁ ≡ with_right (layer_of m parts rights) p x) (kept_parts : parts₂ ≡ parts₁) (kept_rights : rights₂ ≡ rights₁) where
    pub lowered_state : x ≡ lesser ((layer_of m parts rights).right p) r → m₂ ≡ after_prot1 m₁ (p / divisor m₁ parts₁) r → Settled m (divisor m parts) m₂ parts₂ rights₂ (with_right (layer_of m parts rights) p (lesser ((layer_of m parts rights).right p) r)) Before
    lowered_state is did = rw (kept_rights, kept_parts, did, same_below, same_parts) (lowered_layer rights₁ (rw (same_below, same_parts, is) at marked))

    pub raised_state : x ≡ greater ((layer_of m parts rights).right p) r → m₂ ≡ after_unprot m₁ (p / divisor m₁ parts₁) (lowest (layer_of m₁ parts₁ rights₁).right (p / divisor m₁ parts₁ * divisor m₁ parts₁) (divisor m₁ parts₁)) → Settled m (divisor m parts) m₂ parts₂ rights₂ (with_right (layer_of m parts rights) p (greater ((layer_of m parts rights).right p) r)) Before
    raised_state is did = rw (kept_rights, kept_parts, did, same_below, same_parts) (raised_layer rights₁ (rw (same_below, same_parts, is) at marked))

-- a layer that is just made
pub made_layer : (m n : Memory) (parts : Parts) (k : ℕ) → number parts ≡ k → legal_split m k ≡ true → n ≡ opened m → Settled m k n parts (replicate 64 All) (split m k) (Unit {0})
made_layer m n parts k is legal did =
    let fit : fits m k ≡ true = (and_parts (eqb k 2 || eqb k 4 || eqb k 8) (fits m k) legal).1 in
    let few : m.page_count * k ≤ 64 = grind (arith, nat_tests) in
    let by : divisor (opened m) parts ≡ k = cond-true (fits m (number parts)) (number parts) 1 (rw is fit) ∙ is in
    let layer : layer_of (opened m) parts (replicate 64 All) ≡ split m k = ap (λ d. small_memory (opened m) d (replicate 64 All)) by ∙ small_split (opened m) k few in
    rw did (record { after = layer; size = refl; count = refl; parts = by; least = λ _. rw (layer, by) (split_least m k) })
