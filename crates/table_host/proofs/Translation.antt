-- Where the words of a table host lie, and what a write or a mark leaves.
use Rattle.std.proofs.Common.{◌≡◌, ℕ, ◌+◌, ◌*◌, ◌/◌, ◌%◌, ◌^◌, ◌<◌, true, cond, eqb, ltb, List, length, get_or, set, sym, ap, ◌∙◌, ap₂, arith}
use Rattle.std.proofs.lemmas.Nat.{div-mul-add, mod-mul-add, div-add-mod', div_below, mod_below, mul-add-lt}
use Rattle.std.proofs.lemmas.Bool.Decides.{nat_tests}
use Rattle.std.proofs.lemmas.Grind.{get_or_default_zero}
use Rattle.std.proofs.lemmas.List.{get_or-set_same, get_or-set_other}
use Rattle.memory.specs.Memory.{legal_sizes, word_at}
use Rattle.memory.specs.declared.rights.Right.{Right}
use Rattle.memory.specs.declared.rights.Right.TheVariants.{None, All}
use Rattle.table_host.specs.Entries.{entry_frame, table_frame, listed_frame, translate, entry_right, Within, Apart, FreshEntries}

-- Sizes

pub size_positive : (count size : ℕ) → legal_sizes count size ≡ true → 0 < size
size_positive count size s = grind (arith, nat_tests, s)

-- A mark

pub frame_after : (es : List ℕ) (p e : ℕ) → p < length es → entry_frame e ≡ table_frame es p → (q : ℕ) → table_frame (set es p e) q ≡ table_frame es q
frame_after es p e h same q = grind (arith, nat_tests, get_or-set_same, get_or-set_other)

pub right_after : (es : List ℕ) (count p e : ℕ) (r : Right) → p < count → p < length es → entry_right e ≡ r → (q : ℕ) → cond (ltb q count) (entry_right (get_or (set es p e) q 0)) None ≡ cond (eqb p q) r (cond (ltb q count) (entry_right (get_or es q 0)) None)
right_after es count p e r here h same q = grind (arith, nat_tests, get_or-set_same, get_or-set_other)

pub within_after : (es : List ℕ) (count p e : ℕ) → p < length es → entry_frame e ≡ table_frame es p → Within count es → Within count (set es p e)
within_after es count p e h same within q below = rw (frame_after es p e h same q) (within q below)

pub apart_after : (es : List ℕ) (count p e : ℕ) → p < length es → entry_frame e ≡ table_frame es p → Apart count es → Apart count (set es p e)
apart_after es count p e h same apart q r both = apart q r (both.0, both.1, sym (frame_after es p e h same q) ∙ both.2 ∙ frame_after es p e h same r)

-- A write

-- two addresses that lie in one place are one
translate_apart : (es : List ℕ) (count size a b : ℕ) → 0 < size → Apart count es → a < count * size → b < count * size → translate (table_frame es) size a ≡ translate (table_frame es) size b → a ≡ b
translate_apart es count size a b pos apart ha hb same =
    let la = mod_below a size pos in
    let lb = mod_below b size pos in
    let fa = div-mul-add (table_frame es (a / size)) size (a % size) la in
    let fb = div-mul-add (table_frame es (b / size)) size (b % size) lb in
    let ra = mod-mul-add (table_frame es (a / size)) size (a % size) la in
    let rb = mod-mul-add (table_frame es (b / size)) size (b % size) lb in
    let page = apart (a / size) (b / size) (div_below a size count pos ha, div_below b size count pos hb, sym fa ∙ ap (λ x. x / size) same ∙ fb) in
    let rest : a % size ≡ b % size = sym ra ∙ ap (λ x. x % size) same ∙ rb in
    sym (div-add-mod' a size) ∙ ap₂ (λ x y. x * size + y) page rest ∙ div-add-mod' b size

pub word_after : (xs es : List ℕ) (count size a w : ℕ) → 0 < size → Apart count es → a < count * size → w < 2 ^ 32 → translate (table_frame es) size a < length xs → (b : ℕ) → cond (ltb b (count * size)) (word_at (set xs (translate (table_frame es) size a) w) (translate (table_frame es) size b)) 0 ≡ cond (eqb a b) w (cond (ltb b (count * size)) (word_at xs (translate (table_frame es) size b)) 0)
word_after xs es count size a w pos apart ha fits inside b =
    let one = translate_apart es count size a b pos apart ha in
    grind (arith, nat_tests, one, get_or-set_same, get_or-set_other)

-- A new host

pub fresh_word : (xs es fs : List ℕ) (count size : ℕ) → 0 < size → FreshEntries count fs es → (a : ℕ) → cond (ltb a (count * size)) (word_at xs (translate (table_frame es) size a)) 0 ≡ cond (ltb a (count * size)) (word_at xs (translate (listed_frame fs) size a)) 0
fresh_word xs es fs count size pos made a =
    let f : a < count * size → table_frame es (a / size) ≡ listed_frame fs (a / size) = λ h. let here = made (a / size) (div_below a size count pos h) in omega arith in
    grind (arith, nat_tests, f)

pub fresh_right : (es fs : List ℕ) (count : ℕ) → FreshEntries count fs es → (p : ℕ) → cond (ltb p count) (entry_right (get_or es p 0)) None ≡ cond (ltb p count) All None
fresh_right es fs count made p = let here = made p in grind (arith, nat_tests, here)

-- A read of an entry

-- the frame of a page, read at any default, has room for an address
pub frame_place : (es : List ℕ) (count size page a frame d : ℕ) → legal_sizes count size ≡ true → Within count es → a < count * size → page ≡ a / size → page < length es → frame ≡ entry_frame (get_or es page d) → frame * size + a % size < count * size
frame_place es count size page a frame d sized within inside e long is =
    let pos = size_positive count size sized in
    let below = within page (rw e (div_below a size count pos inside)) in
    let read = get_or_default_zero es page d long in
    let low : frame < count = rw (is, read) below in
    omega (arith, mul-add-lt frame size (a % size) count low (mod_below a size pos))
