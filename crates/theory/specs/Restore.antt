-- RESTORE: what it makes of a buffer, and when it refuses.
use Rattle.std.specs.Prelude.{◌≡◌, ℕ, zero, suc, ◌+◌, ◌-◌, ◌*◌, ◌<◌, ◌≤◌, Bool, true, false, cond, not, ◌&&◌, ◌||◌, List, [], ◌∷◌, ◌==◌, nat_le, nat_lt}
use Rattle.theory.specs.Model.{Layout}
use Rattle.layouts.specs.declared.values.Value.{Value}
use Rattle.layouts.specs.declared.values.Value.TheVariants.{Nil, Number, Reference}
use Rattle.theory.specs.Machine.{Shape, half, Machine, view_m, refusal}
use Rattle.model.specs.declared.states.State.TheVariants.{Running}
use Rattle.model.specs.declared.states.Phase.TheVariants.{Idle}
use Rattle.model.specs.declared.calls.Call.{Call}
use Rattle.model.specs.declared.calls.Call.TheVariants.{Mark, Save}
use Rattle.model.specs.Outcomes.{Told.sealed}
use Rattle.theory.specs.Steps.{call, fresh_m}
use Rattle.theory.specs.Image.{used_at}
use Rattle.theory.specs.Runs.{after, Quiet, marks}

-- every number below n passes
unfoldable pub every : ℕ → (ℕ → Bool) → Bool
every zero f = true
every (suc n) f = every n f && f n

-- the words from a up to e are whole objects in a row, of at most k objects
abbrev pub row : Layout → (ℕ → ℕ) → ℕ → ℕ → ℕ → Bool
row L mem zero a e = a == e
row L mem (suc k) a e = cond (a == e) true (L.head (mem a) && (nat_le (a + suc (L.slots (mem a))) e && row L mem k (a + suc (L.slots (mem a))) e))

-- x is a header of that row
abbrev pub closed_header_in : Layout → (ℕ → ℕ) → ℕ → ℕ → ℕ → ℕ → Bool
closed_header_in L mem zero a e x = false
closed_header_in L mem (suc k) a e x = nat_lt a e && (x == a || closed_header_in L mem k (a + suc (L.slots (mem a))) e x)

-- every value in a slot of that row passes
abbrev pub slots_in : Layout → (ℕ → ℕ) → (Value → Bool) → ℕ → ℕ → ℕ → Bool
slots_in L mem ok zero a e = true
slots_in L mem ok (suc k) a e = cond (nat_lt a e) (every (L.slots (mem a)) (λ i. ok (L.unpack (mem a) i (mem (a + suc i)))) && slots_in L mem ok k (a + suc (L.slots (mem a))) e) true

-- a register's value by its two words
abbrev pub reg_from : ℕ → ℕ → Value
reg_from kind pay = cond (kind == 0) Nil (cond (kind == 1) (Number pay) (Reference pay))

-- the heap that RESTORE makes: words 3, 4 and 5 are the half, the copied words and N
abbrev pub restored : Shape → (ℕ → ℕ) → Machine
restored H b = record {
  st = record {
    mem = λ x. cond (nat_le (b 3 * half H) x && nat_lt x (b 3 * half H + half H)) (b (70 + (x - b 3 * half H))) 0;
    top = b 3 * half H + b 4;
    low = b 3 * half H + half H - b 5;
    right = λ n. cond (nat_le (b 3 * H.pages) n && nat_lt n (b 3 * H.pages + H.pages)) 2 0;
    cross = λ n. 0;
  };
  scan = λ n. cond (nat_lt n 64) 0 (n * H.page);
  pend = λ n. false;
  side = b 3;
  used = 0;
  reg = λ k. cond (nat_lt k 32) (reg_from (b (6 + 2 * k)) (b (7 + 2 * k))) Nil;
  mut = λ k. Running;
  phase = Idle;
  count = 0;
  buf = b;
  mark = 0;
}

-- another buffer lent
abbrev pub closed_with_buffer : Machine → (ℕ → ℕ) → Machine
closed_with_buffer m buf = record { st = m.st; scan = m.scan; pend = m.pend; side = m.side; used = m.used; reg = m.reg; mut = m.mut; phase = m.phase; count = m.count; buf = buf; mark = m.mark }

-- x is a header of the copied or of the new objects
abbrev pub closed_is_header : Shape → Machine → ℕ → Bool
closed_is_header H m x = closed_header_in H.lay m.st.mem (half H) (m.side * half H) m.st.top x || closed_header_in H.lay m.st.mem (half H) m.st.low (m.side * half H + half H) x

abbrev pub closed_refers_well : Shape → Machine → Value → Bool
closed_refers_well H m Nil = true
closed_refers_well H m (Number n) = true
closed_refers_well H m (Reference x) = closed_is_header H m x

-- the copied and the new words are whole objects in a row, and every reference is a header of these
abbrev pub closed_well_made : Shape → Machine → Bool
closed_well_made H m =
    (row H.lay m.st.mem (half H) (m.side * half H) m.st.top && row H.lay m.st.mem (half H) m.st.low (m.side * half H + half H)) &&
    ((slots_in H.lay m.st.mem (closed_refers_well H m) (half H) (m.side * half H) m.st.top && slots_in H.lay m.st.mem (closed_refers_well H m) (half H) m.st.low (m.side * half H + half H)) &&
    every 32 (λ k. closed_refers_well H m (m.reg k)))

-- register k's kind is at most 2, and nil has no payload
abbrev pub reg_well : (ℕ → ℕ) → ℕ → Bool
reg_well b k = nat_le (b (6 + 2 * k)) 2 && (not (b (6 + 2 * k) == 0) || b (7 + 2 * k) == 0)

-- word j of to-space is used, or 0
abbrev pub word_well : Shape → (ℕ → ℕ) → ℕ → Bool
word_well H b j = (nat_lt j (b 4) || nat_le (half H - b 5) j) || b (70 + j) == 0

-- the words themselves: half, L + N, the registers' kinds, nil's payload, the unused words
abbrev pub closed_well_written : Shape → (ℕ → ℕ) → Bool
closed_well_written H b =
    (nat_le (b 3) 1 && nat_le (b 4 + b 5) (half H)) &&
    (every 32 (reg_well b) && every (half H) (word_well H b))

-- 0 if RESTORE accepts the first n words of b
abbrev pub closed_restore_refusal : Shape → ℕ → (ℕ → ℕ) → ℕ
closed_restore_refusal H n b =
    cond (nat_lt n (70 + half H)) 5
    (cond (not (b 0 == 0) && not (b 0 == H.page && (b 1 == H.pages && b 2 == H.lay.number))) 6
    (cond (not (not (b 0 == 0) && (closed_well_written H b && closed_well_made H (restored H b)))) 7 0))

-- the restored heap has the used words, half, L, N and registers of m
pub record SameHeap (H : Shape) (m r : Machine) : Type 0 where
  pub side : r.side ≡ m.side
  pub copied : r.st.top ≡ m.st.top
  pub new : r.st.low ≡ m.st.low
  pub registers : (k : ℕ) → k < 32 → r.reg k ≡ m.reg k
  pub words : (x : ℕ) → m.side * half H ≤ x → x < m.side * half H + half H → used_at m x ≡ true → r.st.mem x ≡ m.st.mem x

-- a sealed image is accepted on every heap of its size and layout, and restores the heap at its MARK
abbrev pub ImageRestoresFrom : Shape → Machine → Type 0
ImageRestoresFrom H start = (xs ys zs : List Call) (n n₂ : ℕ) →
    (m₀ : Machine) → m₀ ≡ after H start xs → refusal (view_m H m₀) (Mark n) ≡ 0 →
    (m₁ : Machine) → m₁ ≡ after H (call H m₀ (Mark n)).next ys → Quiet H marks (call H m₀ (Mark n)).next ys → (call H m₁ (Save n₂)).told ≡ sealed →
    (m₂ : Machine) → m₂ ≡ after H (call H m₁ (Save n₂)).next zs → Quiet H marks (call H m₁ (Save n₂)).next zs →
    (k : ℕ) → 70 + half H ≤ k → (closed_restore_refusal H k m₂.buf ≡ 0) × SameHeap H m₀ (restored H m₂.buf)

-- MARK and SAVEs right after a RESTORE write the words that it accepted again
abbrev pub ImageAgain : Shape → Type 0
ImageAgain H = (b : ℕ → ℕ) (k n n₂ : ℕ) (ys : List Call) → closed_restore_refusal H k b ≡ 0 → refusal (view_m H (restored H b)) (Mark n) ≡ 0 →
    (m₁ : Machine) → m₁ ≡ after H (call H (restored H b) (Mark n)).next ys → Quiet H marks (call H (restored H b) (Mark n)).next ys → (call H m₁ (Save n₂)).told ≡ sealed →
    (j : ℕ) → j < 70 + half H → (call H m₁ (Save n₂)).next.buf j ≡ b j

-- k SAVEs
abbrev pub save_times : ℕ → ℕ → List Call
save_times zero n = []
save_times (suc k) n = Save n ∷ save_times k n

-- in full: a MARK and K SAVEs right after a RESTORE leave the accepted words in the buffer, whatever it held
abbrev pub ImageAgainWhole : Shape → Type 0
ImageAgainWhole H = (b other : ℕ → ℕ) (k n : ℕ) → closed_restore_refusal H k b ≡ 0 → 70 + half H ≤ n →
    (j : ℕ) → j < 70 + half H → (after H (closed_with_buffer (restored H b) other) (Mark n ∷ save_times H.pages n)).buf j ≡ b j

-- a sealed image is accepted on every heap of its size and layout, and restores the heap at its MARK
abbrev pub ImageRestores : Shape → Type 0
ImageRestores H = (lent : ℕ → ℕ) (xs ys zs : List Call) (n n₂ : ℕ) →
    (m₀ : Machine) → m₀ ≡ after H (fresh_m H lent) xs → refusal (view_m H m₀) (Mark n) ≡ 0 →
    (m₁ : Machine) → m₁ ≡ after H (call H m₀ (Mark n)).next ys → Quiet H marks (call H m₀ (Mark n)).next ys → (call H m₁ (Save n₂)).told ≡ sealed →
    (m₂ : Machine) → m₂ ≡ after H (call H m₁ (Save n₂)).next zs → Quiet H marks (call H m₁ (Save n₂)).next zs →
    (k : ℕ) → 70 + half H ≤ k → (closed_restore_refusal H k m₂.buf ≡ 0) × SameHeap H m₀ (restored H m₂.buf)
