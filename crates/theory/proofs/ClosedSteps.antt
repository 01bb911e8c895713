-- STEP and RESOLVE on the moving heap are those on its closed form.
use Rattle.std.proofs.Common.{◌≡◌, ℕ, suc, ◌+◌, ◌-◌, ◌*◌, ◌/◌, ◌<◌, ◌≤◌, min, Bool, true, false, cond, ◌&&◌, eqb, ltb, leb, Option, sym, refl, ap, ◌∙◌, subst, ap₂, inl, inr, mul-le-mul_right, mul_assoc, lt_of_mul-lt-mul_right, arith}
use Rattle.std.proofs.lemmas.Bool.{cases_eq, cases_lt, cond-true, eq-eqb, ne_eqb, lt-ltb, le-ltb, le-leb, and_parts, false≢true}
use Rattle.std.proofs.lemmas.Bool.Decides.{nat_tests}
use Rattle.memory.specs.Rights.{rank}
use Rattle.memory.specs.Memory.{Memory, legal_sizes, changed, with_right, after_unprot}
use Rattle.memory.specs.declared.rights.Right.{Right}
use Rattle.layouts.specs.Layouts.{Rules, Lawful}
use Rattle.model.specs.declared.states.Phase.TheVariants.{Idle, Collecting, Imaging}
use Rattle.model.specs.declared.states.State.TheVariants.{Running}
use Rattle.model.specs.declared.calls.Answer.TheVariants as Answer
use Rattle.model.specs.declared.calls.Call.TheVariants.{Step, Resolve}
use Rattle.model.specs.Heap.{Heap as MovingHeap, Moving, half_number, half_pages, to_page, moving, with_memory, with_phase}
use Rattle.model.specs.Scanning.{lowest as lowest_of, page_stop, scan_head, page_run, page_left, page_scanned, page_counts, has_unscanned, lowest_unscanned}
use Rattle.model.specs.Collecting.{finished, step_left, step_on}
use Rattle.model.specs.Refusing.{is_collecting, is_imaging}
use Rattle.model.specs.Images.{page_saved}
use Rattle.model.specs.Faults.{wants_scan, wants_save, runs_again}
use Rattle.model.specs.Outcomes.{Machine, with_heap, outcome, on_heap}
use Rattle.model.specs.Calls.{carried_out}
use Rattle.theory.specs.Model.{Layout, upd}
use Rattle.theory.specs.Collect.{Flip as Flipping, St, scan_run}
use Rattle.theory.specs.Machine.{Shape, half, Found.found, ran_page, grant, Machine as Closed, Never as ClosedNeverMoving}
use Rattle.theory.specs.Steps.{Outcome as ClosedOutcome, act, behind, lowest_behind, scan_page, finish, stepped, scanned_on, copied_since, with_scan, with_mut, resolved, resolved_save, step as closed_step}
use Rattle.theory.specs.Closed.{closed_layout, both_halves, closed_shape, closed_moving, closed}
use Rattle.theory.proofs.Basics.{twice, upd_same, lowest_passes}
use Rattle.theory.proofs.World.{World, Body}
use Rattle.theory.proofs.PageScan.{points, unscanned}
use Rattle.theory.proofs.Rights.{InTo, Rights, RightsOf}
use Rattle.theory.proofs.Sim.{body_busy, behind_is, busy_phase, image_phase, world_scan}
use Rattle.theory.proofs.ClosedLaws.{closed_laws, size_positive, count_few}
use Rattle.theory.proofs.ClosedKept.{Kept, kept_refl, kept_trans, kept_run, kept_unprot, kept_opened}
use Rattle.theory.proofs.ClosedScanning.{enough, run_as}
use Rattle.theory.proofs.ClosedMutators.{Meets, found_of, lowest_as, ends_inside}
use Rattle.theory.proofs.ClosedImages.{page_saved_as, kept_saved}
use Rattle.theory.proofs.ClosedRights.{greater_all, rank_all, raised_run, opened_as}

leb_scaled : (k q P : ℕ) → 0 < P → leb (k * P) (q * P) ≡ leb k q
leb_scaled k q P pos = elim (cases_lt q k) [
  | inl l ↦ (
      let s : suc q * P ≤ k * P = mul-le-mul_right P l in
      let a : q * P < k * P = omega arith in
      grind (arith, nat_tests))
  | inr l ↦ le-leb (k * P) (q * P) (mul-le-mul_right P l) ∙ sym (le-leb k q l)
]

-- Which pages have unscanned words

module _ (L : Rules) (count size : ℕ) (small : both_halves count size ≤ 16384) (legal : legal_sizes count size ≡ true)
    (x : Machine) (es : x.heap.memory.page_size ≡ size) (ec : x.heap.memory.page_count ≡ count) (ends : x.heap.space.copy_end ≤ count * size) where
  abbrev shape : Shape
  shape = closed_shape L count size small

  few_pages : (p : ℕ) → 64 ≤ p → x.heap.space.copy_end ≤ p * size
  few_pages p l =
      let cf = mul-le-mul_right size (count_few count size legal) in
      let up = mul-le-mul_right size l in
      omega arith

  to_space_as : (p : ℕ) → leb (to_page x.heap) p ≡ leb (half_number x.heap.half * (count / 2 * size)) (p * size)
  to_space_as p = rw ec (sym (leb_scaled (half_number x.heap.half * (count / 2)) p size (size_positive count size legal)) ∙ ap (λ z. leb z (p * size)) (mul_assoc (half_number x.heap.half) (count / 2) size))

  pub unscanned_as : (p : ℕ) → has_unscanned x.heap p ≡ behind shape (closed x) p
  unscanned_as p = elim (cases_lt p 64) [
    | inl l ↦ rw (lt-ltb p 64 l, es) (ap (λ t. t && ltb (x.heap.unscanned p) (min (p * size + size) x.heap.space.copy_end)) (to_space_as p))
    | inr l ↦ rw (le-ltb p 64 l, es) (let f = few_pages p l in grind (arith, nat_tests))
  ]

  pub lowest_same : lowest_behind shape (closed x) ≡ found_of (lowest_unscanned x.heap)
  lowest_same =
      lowest_as (count / 2) (half_number x.heap.half * (count / 2)) (behind shape (closed x)) (has_unscanned x.heap) (λ q l u. sym (unscanned_as q))
      ∙ ap (λ z. found_of (lowest_of (z / 2) (half_number x.heap.half * (z / 2)) (has_unscanned x.heap))) (sym ec)

-- The end of a collection

module _ (L : Rules) (count size : ℕ) (small : both_halves count size ≤ 16384) (x : Machine) (h : MovingHeap) (es : h.memory.page_size ≡ size) (ec : h.memory.page_count ≡ count) (which : half_number h.half ≤ 1) where
  abbrev ending : Shape
  ending = closed_shape L count size small

  to_space_inside : to_page h + half_pages h.memory ≤ h.memory.page_count
  to_space_inside = omega (arith, twice (half_pages h.memory) (half_number h.half) which)

  raised_as : closed (with_heap x (with_phase (with_memory h (raised_run h.memory (to_page h) (half_pages h.memory))) Idle)) ≡ finish ending (closed (with_heap x h))
  raised_as = λ i. record {
    st = record {
      mem = h.memory.word;
      top = h.space.copy_end;
      low = h.new_start;
      right = λ q. (rank_all (leb (to_page h) q && ltb q (to_page h + half_pages h.memory)) (h.memory.right q)
          ∙ ap (λ z. cond (leb (half_number h.half * (z / 2)) q && ltb q (half_number h.half * (z / 2) + z / 2)) 2 (rank (h.memory.right q))) ec) i;
      cross = h.space.crossing;
    };
    scan = (closed (with_heap x h)).scan;
    pend = h.unsaved;
    side = half_number h.half;
    used = h.flip_used;
    reg = h.register;
    mut = h.state;
    phase = Idle;
    count = h.traps;
    buf = x.buffer;
    mark = h.mark_start;
  }

  pub finished_as : closed (with_heap x (finished h)) ≡ finish ending (closed (with_heap x h))
  finished_as = ap (λ z. closed (with_heap x (with_phase (with_memory h z) Idle))) (opened_as (half_pages h.memory) h.memory (to_page h) to_space_inside) ∙ raised_as

  pub stepped_as : Kept x.heap.memory h.memory → (counts : ℕ × ℕ) (f : Option ℕ) → Meets x (on_heap x (step_left h counts f)) (stepped ending (closed (with_heap x h)) counts.0 counts.1 (found_of f))
  stepped_as k counts Option.None = record { left = finished_as; answer = refl; told_same = refl; kept = kept_trans x.heap.memory h.memory _ k (kept_opened (half_pages h.memory) h.memory (to_page h)); copied_same = refl; scanned_same = refl }
  stepped_as k counts (Option.Some p) = record { left = refl; answer = refl; told_same = refl; kept = k; copied_same = refl; scanned_same = refl }

module _ (L : Rules) (lawful : Lawful L) (x : Machine) (small : both_halves x.heap.memory.page_count x.heap.memory.page_size ≤ 16384) (legal : legal_sizes x.heap.memory.page_count x.heap.memory.page_size ≡ true)
    (F : Flipping) (a : ClosedNeverMoving) (w : World (closed_shape L x.heap.memory.page_count x.heap.memory.page_size small) F (closed x) a) where
  abbrev h : MovingHeap
  h = x.heap

  abbrev m : Memory
  m = x.heap.memory

  abbrev P : ℕ
  P = m.page_size

  abbrev H : Shape
  H = closed_shape L m.page_count m.page_size small

  abbrev c : Closed
  c = closed x

  abbrev lay : Layout
  lay = closed_layout L

  pos : 0 < P
  pos = size_positive m.page_count m.page_size legal

  last_inside : F.last ≤ m.page_count * P
  last_inside = omega (arith, w.body.last, w.body.start, ends_inside m.page_count P c.side w.body.which)

  top_inside : h.space.copy_end ≤ m.page_count * P
  top_inside = let l = w.body.inv.limits in omega (arith, last_inside)

  has_as : (p : ℕ) → has_unscanned h p ≡ behind H c p
  has_as p = unscanned_as L m.page_count P small legal x refl refl top_inside p

  -- A page's scan

  module _ (busy : h.phase ≡ Collecting) (p : ℕ) (has : has_unscanned h p ≡ true) where
    b : Body H F c.st c.scan c.side c.used c.reg Collecting a.heap a.reg a.l a.n a.u
    b = body_busy H (closed_laws L lawful) pos F c a w busy

    abbrev low : ℕ
    low = h.new_start

    page_few : p < 64
    page_few = elim (cases_lt p 64) [ inl l ↦ l | inr l ↦ absurd (false≢true (rw (le-ltb p 64 l) at has)) ]

    scan_is : c.scan p ≡ h.unscanned p
    scan_is = rw (lt-ltb p 64 page_few)

    is_behind : (c.side * half H ≤ p * P) × (c.scan p < p * P + P) × (c.scan p < h.space.copy_end)
    is_behind = behind_is H (closed_laws L lawful) pos F c a w p (sym (has_as p) ∙ has)

    page_inside : p < m.page_count
    page_inside =
        let t = is_behind in
        let lo = b.phased.scans.low p in
        let l : p * P < m.page_count * P = omega (arith, top_inside) in
        lt_of_mul-lt-mul_right P l

    start_below : F.start ≤ p * P
    start_below = let t = is_behind in omega (arith, b.start)

    run_same : ◌≡◌ {A = St × ℕ} (closed_moving (page_run L h p).0 low, (page_run L h p).1) (ran_page lay P c.st c.scan p)
    run_same =
        let t = is_behind in
        let lo = b.phased.scans.low p in
        let s = scan_is in
        run_as L lawful m.page_count P legal F b.ok b.inside last_inside a.heap low (page_stop m p - h.unscanned p) (page_stop m p) (moving h) b.pair (scan_head h p) (h.unscanned p) b.inv b.phased.room refl refl (omega (arith, start_below))
        (λ l. rw s at (points lay (closed_laws L lawful) P pos F b.ok a.heap c.st b.pair b.inv b.side c.scan b.phased.scans b.phased.room p start_below t.2 t.1))
        (λ y l u v. unscanned lay (closed_laws L lawful) P pos F b.ok a.heap c.st b.pair b.inv b.side c.scan b.phased.scans b.phased.room p start_below y (omega arith) u v)
        ∙ enough lay P (page_stop m p) (page_stop m p - h.unscanned p) P c.st (scan_head h p) (h.unscanned p) (omega arith) (omega arith)
        ∙ ap (λ z. scan_run lay P (page_stop m p) P c.st (cond (eqb z (p * P)) (h.space.crossing p) z) z) (sym s)

    -- the page at all, and its first unscanned word
    abbrev with_page : St × ℕ → Closed
    with_page r = with_scan c (grant r.0 p 2) (upd c.scan p r.1)

    raised : (r : Moving) → r.memory.page_count ≡ m.page_count → after_unprot r.memory p Right.All ≡ with_right r.memory p Right.All
    raised r ec = cond-true _ _ r.memory (lt-ltb p r.memory.page_count (rw ec page_inside)) ∙ ap (with_right r.memory p) (greater_all (r.memory.right p))

    scan_set : (q k size : ℕ) → size ≡ P → cond (ltb q 64) (changed h.unscanned p k q) (q * size) ≡ upd c.scan p k q
    scan_set q k size e = elim (cases_eq q p) [
      | inl t ↦ (let f : q < 64 = omega (arith, page_few) in rw (lt-ltb q 64 f, eq-eqb p q (sym t)))
      | inr ne ↦ rw (ne_eqb p q (λ z. ne (sym z))) (ap (λ z. cond (ltb q 64) (h.unscanned q) (q * z)) e)
    ]

    left_as : (r : Moving × ℕ) → Kept m r.0.memory → closed (with_heap x (page_left h p r)) ≡ with_page (closed_moving r.0 low, r.1)
    left_as r k = ap (λ z. closed (with_heap x (with_memory (page_left h p r) z))) (raised r.0 k.page_count) ∙ (λ i. record {
      st = record { mem = r.0.memory.word; top = r.0.space.copy_end; low = low; right = λ q. rank_all (eqb p q) (r.0.memory.right q) i; cross = r.0.space.crossing };
      scan = λ q. scan_set q r.1 r.0.memory.page_size k.page_size i;
      pend = h.unsaved;
      side = half_number h.half;
      used = h.flip_used;
      reg = h.register;
      mut = h.state;
      phase = h.phase;
      count = h.traps;
      buf = x.buffer;
      mark = h.mark_start;
    })

    kept_page : Kept m (page_run L h p).0.memory
    kept_page = kept_run L (page_stop m p - h.unscanned p) (page_stop m p) (moving h) (scan_head h p) (h.unscanned p)

    pub scanned_as : closed (with_heap x (page_scanned L h p)) ≡ scan_page H c p
    scanned_as = left_as (page_run L h p) kept_page ∙ ap with_page run_same

    pub kept_scanned : Kept m (page_scanned L h p).memory
    kept_scanned = kept_trans m (page_run L h p).0.memory _ kept_page (kept_unprot (page_run L h p).0.memory p Right.All)

    pub scanned_count : (page_counts L h p).0 ≡ scanned_on c (scan_page H c p) p
    scanned_count = ap₂ ◌-◌ (ap (λ r. r.1) run_same ∙ sym (upd_same c.scan p (ran_page lay P c.st c.scan p).1)) (sym scan_is)

    pub copied_count : (page_counts L h p).1 ≡ copied_since c (scan_page H c p)
    copied_count = ap (λ r. r.0.top - h.space.copy_end) run_same

  -- STEP

  module _ (busy : h.phase ≡ Collecting) where
    -- a page is scanned, and then whether another is left decides
    step_found : (p : ℕ) → has_unscanned h p ≡ true → Meets x (on_heap x (step_on L h (Option.Some p))) (closed_step H c (found p))
    step_found p has =
        let k = kept_scanned busy p has in
        let e = scanned_as busy p has in
        let w₁ : World H F (scan_page H c p) a = world_scan H (closed_laws L lawful) pos F c a w busy p (sym (has_as p) ∙ has) in
        let l = w₁.body.inv.limits in
        let top : (page_scanned L h p).space.copy_end ≤ m.page_count * P = omega (arith, last_inside, ap (λ z. z.st.top) e) in
        let ls = lowest_same L m.page_count P small legal (with_heap x (page_scanned L h p)) k.page_size k.page_count top in
        subst (λ r. Meets x (on_heap x (step_on L h (Option.Some p))) r)
        (λ i. stepped H (e i) (scanned_count busy p has i) (copied_count busy p has i) (((sym ls) ∙ ap (lowest_behind H) e) i))
        (stepped_as L m.page_count P small x (page_scanned L h p) k.page_size k.page_count w.body.which k (page_counts L h p) (lowest_unscanned (page_scanned L h p)))

    step_by : (f : Option ℕ) → lowest_unscanned h ≡ f → Meets x (on_heap x (step_on L h f)) (closed_step H c (found_of f))
    step_by Option.None e = stepped_as L m.page_count P small x h refl refl w.body.which (kept_refl m) (0, 0) Option.None
    step_by (Option.Some p) e =
        step_found p (has_as p ∙ lowest_passes (half_pages m) (to_page h) (behind H c) p (lowest_same L m.page_count P small legal x refl refl top_inside ∙ ap found_of e))

    pub meets_step : Meets x (carried_out L x Step) (act H c Step)
    meets_step = rw (lowest_same L m.page_count P small legal x refl refl top_inside) (step_by (lowest_unscanned h) refl)

  -- RESOLVE

  abbrev resolving : ℕ → ℕ → Bool → Bool → ClosedOutcome
  resolving k p true u = resolved H c k p true
  resolving k p false u = resolved_save H c k p u

  resolving_is : (k p : ℕ) (t : Bool) → resolving k p t (is_imaging h.phase && h.unsaved p) ≡ resolved H c k p t
  resolving_is k p true = refl
  resolving_is k p false = refl

  resolve_scan : (k p : ℕ) → h.phase ≡ Collecting → has_unscanned h p ≡ true →
      Meets x (outcome (runs_again (with_heap x (page_scanned L h p)) k) (Answer.Scanned (page_counts L h p).0 (page_counts L h p).1)) (resolved H c k p true)
  resolve_scan k p busy has = record {
    left = ap (λ z. with_mut z (upd h.state k Running)) (scanned_as busy p has);
    answer = refl;
    told_same = refl;
    kept = kept_scanned busy p has;
    copied_same = copied_count busy p has;
    scanned_same = scanned_count busy p has;
  }

  module _ (rights : RightsOf H c) where
    -- an unsaved page lies in to-space
    unsaved_inside : (p : ℕ) → h.phase ≡ Imaging → h.unsaved p ≡ true → InTo H c.side p
    unsaved_inside p imaging u = (subst (λ f. Rights H c.st c.pend c.scan c.side c.used c.mark f) imaging rights).2 p u

    resolve_save : (k p : ℕ) → h.phase ≡ Imaging → h.unsaved p ≡ true → Meets x (outcome (runs_again (page_saved x p) k) (Answer.Scanned 0 0)) (resolved_save H c k p true)
    resolve_save k p imaging u =
        let i = unsaved_inside p imaging u in
        record {
          left = ap (λ z. with_mut z (upd h.state k Running)) (page_saved_as L lawful x small legal w.body.which imaging p i);
          answer = refl;
          told_same = refl;
          kept = kept_saved L lawful x small legal w.body.which imaging p i;
          copied_same = refl;
          scanned_same = refl;
        }

    -- by what is wanted
    resolve_by : (k p : ℕ) (t u : Bool) → wants_scan h p ≡ t → wants_save h p ≡ u →
        Meets x (cond t (outcome (runs_again (with_heap x (page_scanned L h p)) k) (Answer.Scanned (page_counts L h p).0 (page_counts L h p).1)) (cond u (outcome (runs_again (page_saved x p) k) (Answer.Scanned 0 0)) (outcome (runs_again x k) (Answer.Scanned 0 0))))
        (resolving k p t u)
    resolve_by k p true u e f = let o = and_parts (is_collecting h.phase) (has_unscanned h p) e in resolve_scan k p (busy_phase H (closed_laws L lawful) pos h.phase o.0) o.1
    resolve_by k p false true e f = let o = and_parts (is_imaging h.phase) (h.unsaved p) f in resolve_save k p (image_phase H (closed_laws L lawful) pos h.phase o.0) o.1
    resolve_by k p false false e f = record { left = refl; answer = refl; told_same = refl; kept = kept_refl m; copied_same = refl; scanned_same = refl }

    pub meets_resolve : (k p n : ℕ) → Meets x (carried_out L x (Resolve k p n)) (act H c (Resolve k p n))
    meets_resolve k p n =
        subst (λ r. Meets x (carried_out L x (Resolve k p n)) r)
        (resolving_is k p (wants_scan h p) ∙ ap (λ t. resolved H c k p (is_collecting h.phase && t)) (has_as p))
        (resolve_by k p (wants_scan h p) (wants_save h p) refl refl)
