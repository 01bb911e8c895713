-- What no step of a collection changes of a memory: its sizes, and the rights past its last page.
use Rattle.std.proofs.Common.{◌≡◌, ℕ, zero, suc, ◌+◌, ◌-◌, ◌≤◌, Bool, true, false, cond, ◌&&◌, eqb, ltb, refl, ap, ◌∙◌, arith}
use Rattle.std.proofs.lemmas.Bool.Decides.{nat_tests}
use Rattle.memory.specs.Rights.{lesser, greater}
use Rattle.memory.specs.Memory.{Memory, inside, run_inside, with_word, with_right, lowered_run, after_set, after_protn, after_prot1, after_unprot}
use Rattle.memory.specs.declared.rights.Right.{Right}
use Rattle.layouts.specs.Layouts.{Rules}
use Rattle.layouts.specs.declared.values.Value.{Value}
use Rattle.layouts.specs.declared.values.Value.TheVariants.{Nil, Number, Reference}
use Rattle.model.specs.Heap.{Moving, plus}
use Rattle.model.specs.Forwarding.{copied, is_forwarded, moved, forwarded, value_forwarded, Roots, roots_forwarded}
use Rattle.model.specs.Scanning.{slot_scanned, word_scanned, head_at, run_scanned}
use Rattle.model.specs.Collecting.{opened}
use Rattle.model.specs.Objects.{object_words}

pub record Kept (m n : Memory) : Type 0 where
  pub page_size : n.page_size ≡ m.page_size
  pub page_count : n.page_count ≡ m.page_count
  pub past : (p : ℕ) → m.page_count ≤ p → n.right p ≡ m.right p

pub kept_refl : (m : Memory) → Kept m m
kept_refl m = record { page_size = refl; page_count = refl; past = λ p l. refl }

pub kept_trans : (m n o : Memory) → Kept m n → Kept n o → Kept m o
kept_trans m n o a b = record {
  page_size = b.page_size ∙ a.page_size;
  page_count = b.page_count ∙ a.page_count;
  past = λ p l. b.past p (rw a.page_count l) ∙ a.past p l;
}

-- words alone
pub kept_as : (m n k : Memory) → n ≡ k → k.page_size ≡ m.page_size → k.page_count ≡ m.page_count → k.right ≡ m.right → Kept m n
kept_as m n k e s c r = record { page_size = ap (λ z. z.page_size) e ∙ s; page_count = ap (λ z. z.page_count) e ∙ c; past = λ p l. ap (λ z. z.right p) e ∙ ap (λ f. f p) r }

-- either of two
pub kept_either : (m n o : Memory) (t : Bool) → (t ≡ true → Kept m n) → (t ≡ false → Kept m o) → Kept m (cond t n o)
kept_either m n o true f g = f refl
kept_either m n o false f g = g refl

-- the host's calls

pub kept_set : (m : Memory) (a w : ℕ) → Kept m (after_set m a w)
kept_set m a w = kept_either m (with_word m a w) m (inside m a) (λ e. record { page_size = refl; page_count = refl; past = λ p l. refl }) (λ e. kept_refl m)

pub kept_protn : (m : Memory) (first count : ℕ) (r : Right) → Kept m (after_protn m first count r)
kept_protn m first count r = kept_either m (lowered_run m first count r) m (run_inside m first count) (λ e. record { page_size = refl; page_count = refl; past = λ p l. grind (arith, nat_tests) }) (λ e. kept_refl m)

kept_right : (m : Memory) (p : ℕ) (r : Right) → ltb p m.page_count ≡ true → Kept m (with_right m p r)
kept_right m p r e = record { page_size = refl; page_count = refl; past = λ q l. grind (arith, nat_tests) }

pub kept_prot1 : (m : Memory) (p : ℕ) (r : Right) → Kept m (after_prot1 m p r)
kept_prot1 m p r = kept_either m (with_right m p (lesser (m.right p) r)) m (ltb p m.page_count) (kept_right m p (lesser (m.right p) r)) (λ e. kept_refl m)

pub kept_unprot : (m : Memory) (p : ℕ) (r : Right) → Kept m (after_unprot m p r)
kept_unprot m p r = kept_either m (with_right m p (greater (m.right p) r)) m (ltb p m.page_count) (kept_right m p (greater (m.right p) r)) (λ e. kept_refl m)

pub kept_opened : (n : ℕ) (m : Memory) (p : ℕ) → Kept m (opened n m p)
kept_opened zero m p = kept_refl m
kept_opened (suc n) m p = kept_trans m (opened n m p) _ (kept_opened n m p) (kept_unprot (opened n m p) (p + n) Right.All)

-- forwarding

kept_copied : (n : ℕ) (m : Memory) (old new : ℕ) → Kept m (copied n m old new)
kept_copied zero m old new = kept_refl m
kept_copied (suc n) m old new = kept_trans m (copied n m old new) _ (kept_copied n m old new) (kept_set (copied n m old new) (new + n) ((copied n m old new).word (old + n)))

kept_moved : (s : Moving) (a n : ℕ) → Kept s.memory (moved s a n).memory
kept_moved s a n =
    kept_trans s.memory (copied n s.memory a s.space.copy_end) _ (kept_copied n s.memory a s.space.copy_end)
    (kept_trans _ (after_set (copied n s.memory a s.space.copy_end) a (plus s.space.copy_end s.space.copy_end)) _ (kept_set (copied n s.memory a s.space.copy_end) a (plus s.space.copy_end s.space.copy_end)) (kept_protn _ _ _ Right.None))

pub kept_forwarded : (L : Rules) (s : Moving) (a : ℕ) → Kept s.memory (forwarded L s a).memory
kept_forwarded L s a = go (is_forwarded s a)
  where
    go : (t : Bool) → Kept s.memory (cond {A = Moving} t s (moved s a (object_words L (s.memory.word a)))).memory
    go true = kept_refl s.memory
    go false = kept_moved s a (object_words L (s.memory.word a))

kept_value : (L : Rules) (s : Moving) (v : Value) → Kept s.memory (value_forwarded L s v).memory
kept_value L s Nil = kept_refl s.memory
kept_value L s (Number n) = kept_refl s.memory
kept_value L s (Reference a) = kept_forwarded L s a

pub kept_roots : (L : Rules) (x : Roots) (n : ℕ) → Kept x.moving.memory (roots_forwarded L x n).moving.memory
unfolding roots_forwarded
kept_roots L x zero = kept_refl x.moving.memory
kept_roots L x (suc n) = kept_trans x.moving.memory (roots_forwarded L x n).moving.memory _ (kept_roots L x n) (kept_value L (roots_forwarded L x n).moving ((roots_forwarded L x n).register n))

-- scanning

kept_slot : (L : Rules) (s : Moving) (x i a : ℕ) (v : Value) → Kept s.memory (slot_scanned L s x i a v).memory
kept_slot L s x i a Nil = kept_refl s.memory
kept_slot L s x i a (Number n) = kept_refl s.memory
kept_slot L s x i a (Reference b) = kept_trans s.memory (forwarded L s b).memory _ (kept_forwarded L s b) (kept_set (forwarded L s b).memory a _)

pub kept_word : (L : Rules) (s : Moving) (head a : ℕ) → Kept s.memory (word_scanned L s head a).memory
kept_word L s head a = go (eqb a head)
  where
    go : (t : Bool) → Kept s.memory (cond {A = Moving} t s (slot_scanned L s (s.memory.word head) (a - head - 1) a (L.unpacked (s.memory.word head) (a - head - 1) (s.memory.word a)))).memory
    go true = kept_refl s.memory
    go false = kept_slot L s (s.memory.word head) (a - head - 1) a (L.unpacked (s.memory.word head) (a - head - 1) (s.memory.word a))

pub kept_run : (L : Rules) (n stop : ℕ) (s : Moving) (head a : ℕ) → Kept s.memory (run_scanned L n stop s head a).0.memory
unfolding run_scanned
kept_run L zero stop s head a = kept_refl s.memory
kept_run L (suc n) stop s head a = go (ltb a stop && ltb a s.space.copy_end)
    (kept_trans s.memory (word_scanned L s (head_at L s.memory head a) a).memory _ (kept_word L s (head_at L s.memory head a) a)
    (kept_run L n stop (word_scanned L s (head_at L s.memory head a) a) (head_at L s.memory head a) (suc a)))
  where
    go : (t : Bool) → Kept s.memory (run_scanned L n stop (word_scanned L s (head_at L s.memory head a) a) (head_at L s.memory head a) (suc a)).0.memory →
        Kept s.memory (cond {A = Moving × ℕ} t (run_scanned L n stop (word_scanned L s (head_at L s.memory head a) a) (head_at L s.memory head a) (suc a)) (s, a)).0.memory
    go true k = k
    go false k = kept_refl s.memory
