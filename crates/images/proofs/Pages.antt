-- The table of the pages to save, and the pages lowered by it.
use Rattle.std.proofs.Common.{◌≡◌, ℕ, zero, suc, ◌+◌, ◌<◌, ◌≤◌, Bool, false, cond, List, length, get_or, set, sym, refl, ap, ◌∙◌, inl, inr, add-one, arith}
use Rattle.std.proofs.lemmas.List.{get_or_past, get_or-set_same, get_or-set_other}
use Rattle.std.proofs.lemmas.Bool.{cases_eq, cases_lt, eq-eqb, ne_eqb, cond-true, cond-false}
use Rattle.std.proofs.lemmas.Bool.Decides.{nat_tests}
use Rattle.memory.specs.Memory.{Memory, changed, after_prot1, after_unprot}
use Rattle.memory.specs.declared.rights.Right.TheVariants.{Read, All}
use Rattle.model.specs.Heap.{Heap as Model, half_pages, first_page, to_page, with_memory, with_unsaved, with_mark_start, with_phase}
use Rattle.model.specs.Images.{is_used_page, used_lowered, marked}
use Rattle.model.specs.declared.states.Half.{Half}
use Rattle.model.specs.declared.states.Half.TheVariants.{Lower, Upper}
use Rattle.model.specs.declared.states.Phase.TheVariants.{Imaging}
use Rattle.state.specs.View.{unsaved_view}
use Rattle.images.specs.Marking.{lowered}
use Rattle.images.specs.Saving.{page_reopened}

-- A page's place in the table

flag_set : (xs : List Bool) (p : ℕ) (v : Bool) → p < length xs → (q : ℕ) → get_or (set xs p v) q false ≡ changed (λ k. get_or xs k false) p v q
flag_set xs p v few q =
    elim (cases_eq q p) [
      | inl e ↦ ap (λ k. get_or (set xs p v) k false) e ∙ get_or-set_same xs p v false few ∙ sym (cond-true _ _ _ (eq-eqb p q (sym e)))
      | inr n ↦ get_or-set_other xs p q v false n ∙ sym (cond-false _ _ _ (ne_eqb p q (λ e. n (sym e))))
    ]

-- one page more is as f has it
pub flag_more : (xs : List Bool) (f : ℕ → Bool) (p : ℕ) (v : Bool) → p < length xs → v ≡ f p → ((k : ℕ) → k < p → get_or xs k false ≡ f k) → (k : ℕ) → k < p + 1 → get_or (set xs p v) k false ≡ f k
flag_more xs f p v few is_v all k h =
    elim (cases_eq k p) [
      | inl e ↦ ap (λ j. get_or (set xs p v) j false) e ∙ get_or-set_same xs p v false few ∙ is_v ∙ ap f (sym e)
      | inr n ↦ get_or-set_other xs p k v false n ∙ all k (omega arith)
    ]

pub flags_all : (xs : List Bool) (f : ℕ → Bool) → length xs ≡ 64 → ((k : ℕ) → k < 64 → get_or xs k false ≡ f k) → ((k : ℕ) → 64 ≤ k → f k ≡ false) → (q : ℕ) → get_or xs q false ≡ f q
flags_all xs f long all past q =
    elim (cases_lt q 64) [
      | inl h ↦ all q h
      | inr h ↦ get_or_past xs q false (omega arith) ∙ sym (past q h)
    ]

-- Used pages

half_stops : (m : Memory) (s : Half) → m.page_count ≤ 64 → first_page m s + half_pages m ≤ 64
half_stops m Lower few = omega arith
half_stops m Upper few = omega arith

pub no_used_page : (h : Model) → h.memory.page_count ≤ 64 → (q : ℕ) → 64 ≤ q → is_used_page h q ≡ false
no_used_page h few q far = let stop = half_stops h.memory h.half few in grind (arith, nat_tests)

-- Lowering

pub lowered_more : (f : ℕ → Bool) (n : ℕ) (m x y : Memory) (p : ℕ) (u : Bool) → x ≡ lowered f n m p → u ≡ f (p + n) → y ≡ cond u (after_prot1 x (p + n) Read) x → y ≡ lowered f (n + 1) m p
lowered_more f n m x y p u is_x is_u is_y = rw add-one (is_y ∙ (λ i. cond (is_u i) (after_prot1 (is_x i) (p + n) Read) (is_x i)))

lowered_used : (h : Model) (n : ℕ) (m : Memory) (p : ℕ) → lowered (is_used_page h) n m p ≡ used_lowered h n m p
lowered_used h zero m p = refl
lowered_used h (suc n) m p = λ i. cond (is_used_page h (p + n)) (after_prot1 (lowered_used h n m p i) (p + n) Read) (lowered_used h n m p i)

-- MARK by a table f of the used pages, which are lowered
pub marked_by : (h : Model) (f : ℕ → Bool) (n p : ℕ) (m : Memory) → f ≡ is_used_page h → n ≡ half_pages h.memory → p ≡ to_page h → m ≡ lowered f n h.memory p → with_phase (with_mark_start (with_unsaved (with_memory h m) f) h.new_start) Imaging ≡ marked h
marked_by h f n p m is_f is_n is_p is_m =
    let memory = is_m ∙ (λ i. lowered (is_f i) (is_n i) h.memory (is_p i)) ∙ lowered_used h (half_pages h.memory) h.memory (to_page h) in
    λ i. with_phase (with_mark_start (with_unsaved (with_memory h (memory i)) (is_f i)) h.new_start) Imaging

-- a page that is saved is reopened
pub reopened_by : (h : Model) (xs : List Bool) (p : ℕ) (m s : Memory) → p < length xs → h.unsaved ≡ unsaved_view xs → s ≡ h.memory → m ≡ after_unprot s p All → with_unsaved (with_memory h m) (unsaved_view (set xs p false)) ≡ page_reopened h p
reopened_by h xs p m s few is_xs is_s is_m =
    let memory = is_m ∙ ap (λ t. after_unprot t p All) is_s in
    (λ i. with_unsaved (with_memory h (memory i)) (λ q. flag_set xs p false few q i)) ∙ ap (λ f. with_unsaved (with_memory h (after_unprot h.memory p All)) (changed f p false)) (sym is_xs)
