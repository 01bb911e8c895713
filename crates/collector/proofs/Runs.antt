-- One turn of the loop that scans words, and its end.
use Rattle.std.proofs.Common.{◌≡◌, ℕ, zero, suc, ◌+◌, ◌-◌, ◌<◌, true, false, ◌&&◌, ltb, sym, ap, ◌∙◌, arith}
use Rattle.std.proofs.lemmas.Bool.Decides.{nat_tests}
use Rattle.memory.specs.Memory.{Memory}
use Rattle.layouts.specs.Layouts.{Rules}
use Rattle.model.specs.Heap.{Space, Moving}
use Rattle.model.specs.Scanning.{word_scanned, head_at, run_scanned}

module _ (L : Rules) (stop : ℕ) where
  more : (n : ℕ) (s : Moving) (head a : ℕ) → (ltb a stop && ltb a s.space.copy_end) ≡ true → run_scanned L (suc n) stop s head a ≡ run_scanned L n stop (word_scanned L s (head_at L s.memory head a) a) (head_at L s.memory head a) (suc a)
  unfolding run_scanned
  more n s head a test = rw test

  -- what is left after a turn leads where what was left before it leads; n is the memory once the header was read
  pub run_more : (m n : Memory) (c : Space) (t : Moving) (head next a : ℕ) (z : Moving × ℕ) → true ≡ (ltb a stop && ltb a c.copy_end) → next ≡ head_at L m head a → n ≡ m → t ≡ word_scanned L (record { memory = n; space = c }) next a → run_scanned L (stop - a) stop (record { memory = m; space = c }) head a ≡ z → run_scanned L (stop - (a + 1)) stop t next (a + 1) ≡ z
  run_more m n c t head next a z test is_next is_n is_t led =
      let s : Moving = record { memory = m; space = c } in
      let below : a < stop = grind (arith, nat_tests) in
      let one : a + 1 ≡ suc a = omega arith in
      let fuel : stop - a ≡ suc (stop - (a + 1)) = omega arith in
      let scanned : t ≡ word_scanned L s (head_at L m head a) a = is_t ∙ (λ i. word_scanned L (record { memory = is_n i; space = c }) (is_next i) a) in
      (λ i. run_scanned L (stop - (a + 1)) stop (scanned i) (is_next i) (one i)) ∙ sym (more (stop - (a + 1)) s head a (sym test)) ∙ ap (λ k. run_scanned L k stop s head a) (sym fuel) ∙ led

  pub run_ends : (k : ℕ) (s : Moving) (head a : ℕ) (z : Moving × ℕ) → false ≡ (ltb a stop && ltb a s.space.copy_end) → run_scanned L k stop s head a ≡ z → (s, a) ≡ z
  unfolding run_scanned
  run_ends zero s head a z test led = led
  run_ends (suc k) s head a z test led = rw (sym test) at led
