-- A collection ends no later than at the STEP with the number of the pages that the reached words take:
-- each STEP that does not end leaves the pages up to its own scanned to their ends for good.
use Rattle.std.proofs.Common.{◌≡◌, ℕ, suc, ◌+◌, ◌-◌, ◌*◌, ◌<◌, ◌≤◌, min, max, Bool, true, false, ◌&&◌, ltb, leb, ◌⊎◌, sym, refl, ap, subst, inl, inr, le_refl, add-zero, mul-le-mul_right, mul_assoc, le-div_iff_mul-le, arith}
use Rattle.std.proofs.lemmas.Bool.{cases_eq, cases_lt, both_ways, eq-eqb, ne_eqb, lt-ltb, le-leb, and_from, and_parts}
use Rattle.theory.specs.Model.{weight}
use Rattle.theory.specs.Collect.{Laws, Flip, size}
use Rattle.theory.specs.Reach.{reaches}
use Rattle.theory.specs.Machine.{Shape, half, Machine, Never, view_m, refusal, is_busy, closed_is_imaging, Found, Found.none, Found.found, ran_page}
use Rattle.model.specs.declared.states.Phase.TheVariants.{Collecting}
use Rattle.model.specs.declared.calls.Call.{Call}
use Rattle.model.specs.declared.calls.Call.TheVariants.{New, Load, Store, Copy, SetNumber, SetNil, Same, Tell, Count, Flip as Turn, Step, Take, Resolve, Mark, Save}
use Rattle.theory.specs.Steps.{call, act, denied, step, stepped, resolved, resolved_save, closed_new_at, lowest_behind, behind, scan_page}
use Rattle.theory.specs.Bounds.{steps, SteppingFrom, SteppingFrom.flips, SteppingFrom.goes, closed_pages_for, StepBoundFrom}
use Rattle.theory.proofs.Basics.{upd_same, upd_other, upd_at, lowest_passes, lowest_least, sum_mono, weight_mono}
use Rattle.theory.proofs.Reach.{reaches_all}
use Rattle.theory.proofs.Cases.{load_ways, store_ways}
use Rattle.theory.proofs.Refusals.{cond_zero}
use Rattle.theory.proofs.World.{World}
use Rattle.theory.proofs.BodyScan.{scan_facts}
use Rattle.theory.proofs.Sim.{simulate, behind_is, body_busy, world_scan}
use Rattle.theory.proofs.Collects.{SimOf}

-- what no call of a collection takes back
abbrev pub Onward : Machine → Machine → Type 0
Onward m m' = (m'.side ≡ m.side) × ((k : ℕ) → m.scan k ≤ m'.scan k) × (m.st.top ≤ m'.st.top)

stays : (m : Machine) → Onward m m
stays m = (refl, (λ k. le_refl _), le_refl _)

module _ (H : Shape) (laws : Laws H.lay) (pos : 0 < H.page) (F : Flip) (m : Machine) (a : Never) (w : World H F m a) (pc : m.phase ≡ Collecting) where
  onward_page : (n : ℕ) → behind H m n ≡ true → Onward m (scan_page H m n)
  onward_page n e =
      let c = body_busy H laws pos F m a w pc in
      let t = behind_is H laws pos F m a w n e in
      let f = scan_facts H laws pos F m.st m.scan m.side m.used m.reg a.heap a.reg a.l a.n a.u c n (omega (arith, c.start, t.0)) t.2 t.1 in (
        refl,
        (λ k. elim (cases_eq k n) [
          | inl q ↦ rw (upd_at m.scan n k _ q, q) f.1
          | inr ne ↦ rw (upd_other m.scan n k _ ne) (le_refl _)
        ]),
        f.0,
      )

  onward_new : (k d r x : ℕ) (f : Found) → Onward m (closed_new_at H m k d r x f).next
  onward_new k d r x (found p) = stays m
  onward_new k d r x none = stays m

  onward_save : (k n : ℕ) (t : Bool) → Onward m (resolved_save H m k n t).next
  onward_save k n true = stays m
  onward_save k n false = stays m

  onward_resolve : (k n : ℕ) (t : Bool) → (is_busy m.phase && behind H m n) ≡ t → Onward m (resolved H m k n t).next
  onward_resolve k n true e = onward_page n (and_parts (is_busy m.phase) (behind H m n) e).1
  onward_resolve k n false e = onward_save k n (closed_is_imaging m.phase && m.pend n)

  onward_act : (c : Call) → steps c ≡ 0 → refusal (view_m H m) c ≡ 0 → Onward m (act H m c).next
  onward_act (New k d r x) s e = onward_new k d r x _
  onward_act (Load k d x i) s e = load_ways H m (λ o. Onward m o.next) k d x i (λ t. stays m) (λ t. stays m)
  onward_act (Store k x i y) s e = store_ways H m (λ o. Onward m o.next) k x i y (λ t. stays m) (λ t. stays m)
  onward_act (Copy k d f x) s e = stays m
  onward_act (SetNumber k d n) s e = stays m
  onward_act (SetNil k d) s e = stays m
  onward_act (Same k x y) s e = stays m
  onward_act (Tell k x) s e = stays m
  onward_act Count s e = stays m
  onward_act Turn s e = absurd (let z : ◌≡◌ {A = ℕ} 16 0 = rw pc at e in omega arith)
  onward_act Step s e = absurd (omega arith)
  onward_act (Take k) s e = stays m
  onward_act (Resolve k p n) s e = onward_resolve k p (is_busy m.phase && behind H m p) refl
  onward_act (Mark n) s e = stays m
  onward_act (Save n) s e = absurd (let z = (cond_zero (ltb n (70 + half H)) 5 _ (omega arith) e).1 in let y : ◌≡◌ {A = ℕ} 18 0 = rw pc at z in omega arith)

  onward_denied : (c : Call) (e : ℕ) → Onward m (denied m c e)
  onward_denied (New k d r x) e = stays m
  onward_denied (Load k d x i) e = stays m
  onward_denied (Store k x i y) e = stays m
  onward_denied (Copy k d f x) e = stays m
  onward_denied (SetNumber k d n) e = stays m
  onward_denied (SetNil k d) e = stays m
  onward_denied (Same k x y) e = stays m
  onward_denied (Tell k x) e = stays m
  onward_denied Count e = stays m
  onward_denied Turn e = stays m
  onward_denied Step e = stays m
  onward_denied (Take k) e = stays m
  onward_denied (Resolve k p n) e = stays m
  onward_denied (Mark n) e = stays m
  onward_denied (Save n) e = stays m

  onward : (c : Call) → steps c ≡ 0 → Onward m (call H m c).next
  onward c s = elim (cases_eq (refusal (view_m H m) c) 0) [
    | inl e ↦ rw (eq-eqb (refusal (view_m H m) c) 0 e) (onward_act c s e)
    | inr ne ↦ rw (ne_eqb (refusal (view_m H m) c) 0 ne) (onward_denied c (refusal (view_m H m) c))
  ]

-- the first n pages of to-space are scanned to their ends, and there is a word after them, if n is not 0
pub record Past (H : Shape) (n : ℕ) (m : Machine) : Type 0 where
  pub full : (j : ℕ) → j < n → (m.side * H.pages + j) * H.page + H.page ≤ m.scan (m.side * H.pages + j)
  pub more : (n ≡ 0) ⊎ ((m.side * H.pages + n) * H.page < m.st.top)

past_on : (H : Shape) (n : ℕ) (m m' : Machine) → Past H n m → Onward m m' → Past H n m'
past_on H n m m' p o = record {
  full = λ j l. rw o.0 (let x = p.full j l in let y = o.1 (m.side * H.pages + j) in omega arith);
  more = rw o.0 (elim p.more [ inl e ↦ inl e | inr l ↦ inr (omega (arith, o.2)) ]);
}

module _ (H : Shape) (laws : Laws H.lay) (pos : 0 < H.page) (F : Flip) (m : Machine) (a : Never) (w : World H F m a) (pc : m.phase ≡ Collecting) where
  abbrev base : ℕ
  base = m.side * H.pages

  abbrev P : ℕ
  P = H.page

  low_of : (k : ℕ) → k * P ≤ m.scan k
  low_of k = (body_busy H laws pos F m a w pc).phased.scans.low k

  -- a page that is not behind, with a word of a page above it copied, is scanned to its end
  closed : (j k : ℕ) → base ≤ j → j < k → k * P < m.st.top → behind H m j ≡ false → j * P + P ≤ m.scan j
  closed j k b l t f =
      let q : suc j * P ≤ k * P = mul-le-mul_right P l in
      let ma = mul_assoc m.side H.pages P in
      let q₂ : base * P ≤ j * P = mul-le-mul_right P b in
      elim (cases_lt (m.scan j) (j * P + P)) [
        | inl y ↦ absurd (both_ways (behind H m j) f (and_from (leb (m.side * half H) (j * P)) (ltb (m.scan j) (min (j * P + P) m.st.top)) (le-leb (m.side * half H) (j * P) (omega arith)) (lt-ltb (m.scan j) (min (j * P + P) m.st.top) (omega arith))))
        | inr y ↦ y
      ]

  -- a STEP that scans page k and does not end, since page k₂ is then behind
  module _ (n : ℕ) (p : Past H n m) (k k₂ : ℕ) (e : lowest_behind H m ≡ found k) (e₂ : lowest_behind H (scan_page H m k) ≡ found k₂) where
    abbrev m₂ : Machine
    m₂ = scan_page H m k

    bh : behind H m k ≡ true
    bh = lowest_passes H.pages base (behind H m) k e

    w₂ : World H F m₂ a
    w₂ = world_scan H laws pos F m a w pc k bh

    is : (m.side * half H ≤ k * P) × (m.scan k < k * P + P) × (m.scan k < m.st.top)
    is = behind_is H laws pos F m a w k bh

    is₂ : (m.side * half H ≤ k₂ * P) × (m₂.scan k₂ < k₂ * P + P) × (m₂.scan k₂ < m₂.st.top)
    is₂ = behind_is H laws pos F m₂ a w₂ k₂ (lowest_passes H.pages base (behind H m₂) k₂ e₂)

    low₂ : k₂ * P ≤ m₂.scan k₂
    low₂ = (body_busy H laws pos F m₂ a w₂ pc).phased.scans.low k₂

    on : Onward m m₂
    on = onward_page H laws pos F m a w pc k bh

    -- the pages below k
    below : (j : ℕ) → base ≤ j → j < k → j * P + P ≤ m₂.scan j
    below j b l =
        let x = closed j k b l (omega (arith, low_of k, is.2)) ((lowest_least H.pages base (behind H m) k e).2 j b l) in
        omega (arith, on.1 j)

    all₂ : min (k * P + P) m₂.st.top ≤ m₂.scan k
    all₂ =
        let c = body_busy H laws pos F m a w pc in
        let f = scan_facts H laws pos F m.st m.scan m.side m.used m.reg a.heap a.reg a.l a.n a.u c k (omega (arith, c.start, is.0)) is.2 is.1 in
        rw (upd_same m.scan k (ran_page H.lay P m.st m.scan k).1) f.2

    base₂ : base ≤ k₂
    base₂ = (lowest_least H.pages base (behind H m₂) k₂ e₂).0

    above : k < k₂
    above = elim (cases_lt k k₂) [
      | inl l ↦ l
      | inr l ↦ elim (cases_eq k₂ k) [
        | inl q ↦ absurd (let x : m₂.scan k₂ ≡ m₂.scan k = ap m₂.scan q in let y : k₂ * P ≡ k * P = ap (λ z. z * P) q in omega (arith, all₂, is₂))
        | inr ne ↦ absurd (omega (arith, below k₂ base₂ (omega arith), is₂))
      ]
    ]

    here : k * P + P ≤ m₂.scan k
    here = let q : suc k * P ≤ k₂ * P = mul-le-mul_right P above in omega (arith, all₂, low₂, is₂)

    beyond : base + n ≤ k
    beyond = elim (cases_lt k (base + n)) [
      | inl l ↦ (let b = (lowest_least H.pages base (behind H m) k e).0 in
          let q : base + (k - base) ≡ k = omega arith in
          absurd (omega (arith, is, rw q at (p.full (k - base) (omega arith)))))
      | inr l ↦ l
    ]

    past_page : Past H (n + 1) m₂
    past_page = record {
      full = λ j l. elim (cases_eq (base + j) k) [ inl q ↦ rw q here | inr ne ↦ below (base + j) (omega arith) (omega (arith, beyond)) ];
      more = inr (let q : (base + (n + 1)) * P ≤ k₂ * P = mul-le-mul_right P (omega (arith, beyond, above)) in omega (arith, low₂, is₂));
    }

  past_stepped : (n : ℕ) (p : Past H n m) (k sc co : ℕ) → lowest_behind H m ≡ found k → (f : Found) → lowest_behind H (scan_page H m k) ≡ f → (stepped H (scan_page H m k) sc co f).next.phase ≡ Collecting → Past H (n + 1) (stepped H (scan_page H m k) sc co f).next
  past_stepped n p k sc co e none e₂ q = absurd (let z : ◌≡◌ {A = ℕ} 0 1 = cc in omega arith)
  past_stepped n p k sc co e (found k₂) e₂ q = past_page n p k k₂ e e₂

  past_step : (n : ℕ) → Past H n m → (f : Found) → lowest_behind H m ≡ f → (step H m f).next.phase ≡ Collecting → Past H (n + 1) (step H m f).next
  past_step n p none e q = absurd (let z : ◌≡◌ {A = ℕ} 0 1 = cc in omega arith)
  past_step n p (found k) e q = past_stepped n p k _ _ e (lowest_behind H (scan_page H m k)) refl q

  -- no more is copied than the registers reached
  copied_bound : m.st.top ≤ base * P + a.l
  copied_bound =
      let c = body_busy H laws pos F m a w pc in
      let ma = mul_assoc m.side H.pages P in
      let s = sum_mono (weight (size H.lay F.old) c.pair.live) (weight (size H.lay F.old) (reaches H.lay F.old F.regs F.reg)) F.old.many
      (λ q l. weight_mono (size H.lay F.old) c.pair.live (reaches H.lay F.old F.regs F.reg) q (λ t. reaches_all H.lay F c.ok (c.inv.came q t l).1)) in
      omega (arith, c.inv.ends, c.phased.words, c.start)

  past_bound : (n : ℕ) → Past H n m → n < max 1 (closed_pages_for P a.l)
  past_bound n p = elim p.more [
    | inl e ↦ omega arith
    | inr l ↦ (
        let q : suc n * P ≤ a.l + (P - 1) = omega (arith, copied_bound) in
        let d = (le-div_iff_mul-le {k = P} {x = suc n} {y = a.l + (P - 1)} pos).1 q in
        omega arith)
  ]

-- a call is a STEP or not
pub step_or : (c : Call) → (steps c ≡ 0) ⊎ (c ≡ Step)
step_or (New k d r x) = inl refl
step_or (Load k d x i) = inl refl
step_or (Store k x i y) = inl refl
step_or (Copy k d f x) = inl refl
step_or (SetNumber k d n) = inl refl
step_or (SetNil k d) = inl refl
step_or (Same k x y) = inl refl
step_or (Tell k x) = inl refl
step_or Count = inl refl
step_or Turn = inl refl
step_or Step = inr refl
step_or (Take k) = inl refl
step_or (Resolve k p n) = inl refl
step_or (Mark n) = inl refl
step_or (Save n) = inl refl

pub record Paced (H : Shape) (n : ℕ) (m : Machine) (a : Never) : Type 0 where
  pub flip : Flip
  pub world : World H flip m a
  pub past : m.phase ≡ Collecting → Past H n m

module _ (H : Shape) (laws : Laws H.lay) (pos : 0 < H.page) where
  step_runs : (m : Machine) → m.phase ≡ Collecting → call H m Step ≡ step H m (lowest_behind H m)
  step_runs m pc = rw pc

  paced_on : (n : ℕ) (m : Machine) (a : Never) (F : Flip) → World H F m a → m.phase ≡ Collecting → Past H n m → (c : Call) → (call H m c).next.phase ≡ Collecting → Past H (n + steps c) (call H m c).next
  paced_on n m a F w pc p c q = elim (step_or c) [
    | inl e ↦ rw (e, add-zero) (past_on H n m (call H m c).next p (onward H laws pos F m a w pc c e))
    | inr e ↦ subst (λ c. (call H m c).next.phase ≡ Collecting → Past H (n + steps c) (call H m c).next) (sym e)
        (rw (step_runs m pc) (past_step H laws pos F m a w pc n p (lowest_behind H m) refl)) q
  ]

  paced : {m₀ : Machine} {a₀ : Never} → SimOf H m₀ a₀ → {n : ℕ} {m : Machine} {a : Never} → SteppingFrom H m₀ a₀ n m a → Paced H n m a
  paced {m₀ = m₀} {a₀ = a₀} s (flips e) =
      let o = simulate H laws pos s.flip m₀ a₀ s.world Turn in
      record { flip = o.flip; world = o.world; past = λ pc. record { full = λ j l. absurd (omega arith); more = inl refl } }
  paced f (goes {n = n} {m = m} {a = a} s pc c) =
      let b = paced f s in
      let o = simulate H laws pos b.flip m a b.world c in
      record { flip = o.flip; world = o.world; past = paced_on n m a b.flip b.world pc (b.past pc) c }

  pub step_bound : (m₀ : Machine) (a₀ : Never) → SimOf H m₀ a₀ → StepBoundFrom H m₀ a₀
  step_bound m₀ a₀ f n m a s pc = let b = paced f s in past_bound H laws pos b.flip m a b.world pc n (b.past pc)
