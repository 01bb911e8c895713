-- Each call agrees with the never-moving heap.
use Rattle.std.proofs.Common.{◌≡◌, ℕ, zero, suc, ◌+◌, ◌-◌, ◌*◌, ◌/◌, ◌<◌, ◌≤◌, min, Bool, true, false, cond, not, ◌&&◌, ◌||◌, eqb, ltb, leb, ◌≢◌, sym, refl, ap, ◌∙◌, subst, inl, inr, mul_assoc, lt_of_mul-lt-mul_right, le_of_mul-le-mul_right, arith}
use Rattle.std.proofs.lemmas.Bool.{cases_eq, cases_lt, both_ways, eq-eqb, ne_eqb, lt-ltb, ltb-true, ltb-false, leb-true, leb-false, and_parts, and_from, le-leb, or_parts, not-false}
use Rattle.theory.specs.Model.{map_v, upd, sum_to}
use Rattle.layouts.specs.declared.values.Value.{Value}
use Rattle.layouts.specs.declared.values.Value.TheVariants.{Nil, Number, Reference}
use Rattle.theory.specs.Collect.{Laws, Flip, St, Pair, Alive}
use Rattle.theory.specs.Machine.{fault, Shape, half, whole, Found, Found.none, Found.found, refused, says, number, Machine, Never, at, view_m, view_a, refusal, bad, head_of, refs, closed_is_idle, is_busy, closed_is_imaging, closed_is_running}
use Rattle.model.specs.declared.states.State.{State}
use Rattle.model.specs.declared.states.State.TheVariants.{Running, Waiting, InHand}
use Rattle.model.specs.declared.states.Phase.{Phase}
use Rattle.model.specs.declared.states.Phase.TheVariants.{Idle, Collecting, Imaging}
use Rattle.model.specs.declared.calls.Call.{Call}
use Rattle.model.specs.declared.calls.Call.TheVariants.{New, Load, Store, Copy, SetNumber, SetNil, Same, Tell, Count, Flip as Turn, Step, Take, Resolve, Mark, Save}
use Rattle.model.specs.Outcomes.{Told.nothing, Told.trap, Told.ended}
use Rattle.theory.specs.Buffer.{closed_mark_words, closed_page_words}
use Rattle.theory.specs.Steps.{Outcome, closed_same_v, closed_kind_of, more, with_reg, with_st, with_mut, did, traps, write, behind, lowest_behind, scan_page, finish, used_now, swapped, turned, stepped, step, closed_page_of, resolved, resolved_save, closed_used_page, with_image, mark_now, save_page, lowest_pend, saved, save, hand_back, denied, n_denied, n_phase, closed_new_at, act, call, Reply, n_reg, n_heap, n_mut, assign, n_end, who, n_act, n_told, n_call, scanned_all, scanned_on, copied_since}
use Rattle.theory.proofs.Basics.{upd_same, upd_other, or_le, whole_covers, whole_fits, halves_apart, half_within, aligned, lowest_passes, lowest_fails, sum_raise, scanned_sum}
use Rattle.theory.proofs.Copy.{start_top}
use Rattle.theory.proofs.Calls.{to_inj}
use Rattle.theory.proofs.World.{Body, World, Rest, Phased, any_map_v}
use Rattle.theory.proofs.Refusals.{cond_zero, name_ok, refuse_alike}
use Rattle.theory.proofs.Bodies.{body_reg, body_load, body_store, body_calm}
use Rattle.theory.proofs.BodyNew.{body_new}
use Rattle.theory.proofs.BodyScan.{body_scan, scan_facts, body_finish, body_turn}

-- the counts of an outcome are what the machine moved on by
abbrev pub Counted : Shape → Machine → Outcome → Type 0
Counted H m o = (m.st.top + o.copied ≡ o.next.st.top) × (scanned_all H m + o.scanned ≡ scanned_all H o.next)

pub none_counted : (t n : ℕ) → (t + 0 ≡ t) × (n + 0 ≡ n)
none_counted t n = omega arith

abbrev other : Call → ℕ
other (New k d r w) = 1
other (Load k d s i) = 1
other (Store k s i x) = 1
other (Copy k d f s) = 1
other (SetNumber k d n) = 1
other (SetNil k d) = 1
other (Same k x y) = 1
other (Tell k s) = 1
other Count = 1
other Turn = 0
other Step = 1
other (Take k) = 1
other (Resolve k p n) = 1
other (Mark n) = 1
other (Save n) = 1

turn≢ : (c : Call) → other c ≡ 1 → c ≡ Turn → ⊥
turn≢ c o e = let z : 0 ≡ other c = ap other (sym e) in omega arith

pub sum_zero : (n : ℕ) (f : ℕ → ℕ) → ((k : ℕ) → k < n → f k ≡ 0) → sum_to n f ≡ 0
sum_zero zero f h = refl
sum_zero (suc n) f h = let i = sum_zero n f (λ k l. h k (omega arith)) in let e = h n (omega arith) in omega arith

-- an outcome and a reply that agree
abbrev pub Agree : Shape → Flip → Machine → Outcome → Reply → Type 0
Agree H F m o r = (r.answer ≡ o.answer) × World H F o.next r.next × Counted H m o

-- the same, with what FLIP fixed: as before, or by this FLIP
pub record Agrees (H : Shape) (F : Flip) (m : Machine) (a : Never) (c : Call) (o : Outcome) (r : Reply) : Type 0 where
  pub answer : r.answer ≡ o.answer
  pub flip : Flip
  pub world : World H flip o.next r.next
  pub kept : m.phase ≡ Collecting → (flip ≡ F) × Counted H m o
  pub fresh : refusal (view_m H m) c ≡ 0 → c ≡ Turn → (flip.old ≡ a.heap) × (flip.regs ≡ 32) × (flip.reg ≡ a.reg) × (o.next.side * half H + o.copied ≡ o.next.st.top) × (o.scanned + scanned_all H o.next ≡ 0)

module _ (H : Shape) (laws : Laws H.lay) (pos : 0 < H.page) (F : Flip) (m : Machine) (a : Never) (w : World H F m a) where
  abbrev b : Body H F m.st m.scan m.side m.used m.reg m.phase a.heap a.reg a.l a.n a.u
  b = w.body

  -- other states of the mutators
  world_mut : (f g : ℕ → State) → f ≡ g → World H F (with_mut m f) (n_mut a g)
  world_mut f g e = record { body = w.body; mut = e; phase = w.phase; count = w.count }

  world_reg : (k : ℕ) (x v : Value) → x ≡ map_v b.pair.to v → Alive b.pair.live v → World H F (with_reg m (upd m.reg k x)) (n_reg a (upd a.reg k v))
  world_reg k x v e al = record { body = body_reg H laws F m.st m.scan m.side m.used m.reg m.phase a.heap a.reg a.l a.n a.u b k x v e al; mut = w.mut; phase = w.phase; count = w.count }

  agree_trap : (c : Call) (p : ℕ) → Agree H F m (traps m (who c) p) (n_told H a c (trap p))
  agree_trap c p = (refl, record { body = w.body; mut = ap (λ f. upd f (who c) (Waiting p)) w.mut; phase = w.phase; count = ap more w.count }, none_counted m.st.top (scanned_all H m))

  agree_copy : (k d f s : ℕ) → at f s < 32 → Agree H F m (act H m (Copy k d f s)) (n_act H a (Copy k d f s) nothing)
  agree_copy k d f s l = (refl, world_reg (at k d) (m.reg (at f s)) (a.reg (at f s)) (b.regs (at f s) l).0 (b.regs (at f s) l).1, none_counted m.st.top (scanned_all H m))

  agree_put : (k d n : ℕ) → Agree H F m (act H m (SetNumber k d n)) (n_act H a (SetNumber k d n) nothing)
  agree_put k d n = (refl, world_reg (at k d) (Number n) (Number n) refl tt, none_counted m.st.top (scanned_all H m))

  agree_wipe : (k d : ℕ) → Agree H F m (act H m (SetNil k d)) (n_act H a (SetNil k d) nothing)
  agree_wipe k d = (refl, world_reg (at k d) Nil Nil refl tt, none_counted m.st.top (scanned_all H m))

  same_v : (v x : Value) → Alive b.pair.live v → Alive b.pair.live x → closed_same_v v x ≡ closed_same_v (map_v b.pair.to v) (map_v b.pair.to x)
  same_v Nil Nil al be = refl
  same_v Nil (Number n) al be = refl
  same_v Nil (Reference q) al be = refl
  same_v (Number n) Nil al be = refl
  same_v (Number n) (Number k) al be = refl
  same_v (Number n) (Reference q) al be = refl
  same_v (Reference p) Nil al be = refl
  same_v (Reference p) (Number k) al be = refl
  same_v (Reference p) (Reference q) al be = elim (cases_eq p q) [
    | inl e ↦ eq-eqb p q e ∙ sym (eq-eqb (b.pair.to p) (b.pair.to q) (ap b.pair.to e))
    | inr ne ↦ ne_eqb p q ne ∙ sym (ne_eqb (b.pair.to p) (b.pair.to q) (λ e. ne (to_inj H.lay laws (F) b.ok a.heap m.st b.pair b.inv p q al be e)))
  ]

  agree_same : (k x y : ℕ) → at k x < 32 → at k y < 32 → Agree H F m (act H m (Same k x y)) (n_act H a (Same k x y) nothing)
  agree_same k x y l j = (ap says (rw ((b.regs (at k x) l).0, (b.regs (at k y) j).0) (same_v (a.reg (at k x)) (a.reg (at k y)) (b.regs (at k x) l).1 (b.regs (at k y) j).1)), w, none_counted m.st.top (scanned_all H m))

  kind_v : (v : Value) → closed_kind_of v ≡ closed_kind_of (map_v b.pair.to v)
  kind_v Nil = refl
  kind_v (Number n) = refl
  kind_v (Reference q) = refl

  agree_tell : (k s : ℕ) → at k s < 32 → Agree H F m (act H m (Tell k s)) (n_act H a (Tell k s) nothing)
  agree_tell k s l = (kind_v (a.reg (at k s)) ∙ ap closed_kind_of (sym (b.regs (at k s) l).0), w, none_counted m.st.top (scanned_all H m))

  agree_count : Agree H F m (act H m Count) (n_act H a Count nothing)
  agree_count = (ap number (sym w.count), w, none_counted m.st.top (scanned_all H m))

  agree_take : (k : ℕ) → Agree H F m (act H m (Take k)) (n_act H a (Take k) nothing)
  agree_take k = (ap (λ f. fault (closed_page_of (f k))) (sym w.mut), world_mut (upd m.mut k (InHand (closed_page_of (m.mut k)))) (upd a.mut k (InHand (closed_page_of (a.mut k)))) (ap (λ f. upd f k (InHand (closed_page_of (f k)))) w.mut), none_counted m.st.top (scanned_all H m))

  -- rights and phase, while no collection is under way
  world_calm : (ph : Phase) (right : ℕ → ℕ) (pend : ℕ → Bool) (buf : ℕ → ℕ) (mark : ℕ) → m.phase ≢ Collecting → ph ≢ Collecting → World H F (with_image m right pend ph buf mark) (n_phase a ph)
  world_calm ph right pend buf mark ne ne' = record {
    body = body_calm H F m.st m.scan m.side m.used m.reg m.phase ph a.heap a.reg a.l a.n a.u right (λ g. down m.phase g ne) (λ st' g. up ph st' g ne') b;
    mut = w.mut;
    phase = refl;
    count = w.count;
  }
    where
      down : (p : Phase) (g : Pair) → p ≢ Collecting → Phased H F m.st m.scan m.used a.heap a.l a.u g p → Rest H F m.st a.heap a.l g
      down Idle g n o = o
      down Imaging g n o = o
      down Collecting g n o = absurd (n refl)

      up : (p : Phase) (s : St) (g : Pair) → p ≢ Collecting → Rest H F s a.heap a.l g → Phased H F s m.scan m.used a.heap a.l a.u g p
      up Idle s g n o = o
      up Imaging s g n o = o
      up Collecting s g n o = absurd (n refl)

  -- the object in a register
  pub holder : (v x : Value) → x ≡ map_v b.pair.to v → Alive b.pair.live v → refs x ≡ true → (p : ℕ) × (v ≡ Reference p) × (b.pair.live p ≡ true) × (x ≡ Reference (b.pair.to p))
  holder Nil x e al r = absurd (both_ways (refs x) (ap refs e) r)
  holder (Number n) x e al r = absurd (both_ways (refs x) (ap refs e) r)
  holder (Reference p) x e al r = (p, refl, al, e)

  load_at : (k d s i p : ℕ) → m.reg (at k s) ≡ Reference (b.pair.to p) → a.reg (at k s) ≡ Reference p → b.pair.live p ≡ true → i < H.lay.slots (a.heap.hdr p) → Agree H F m (act H m (Load k d s i)) (n_told H a (Load k d s i) (act H m (Load k d s i)).told)
  load_at k d s i p em ea lp si =
      rw em (elim (cases_eq (m.st.right ((b.pair.to p + suc i) / H.page)) 0) [
        | inl e ↦ rw (eq-eqb (m.st.right ((b.pair.to p + suc i) / H.page)) 0 e) (agree_trap (Load k d s i) ((b.pair.to p + suc i) / H.page))
        | inr ne ↦ (
            let v = body_load H laws F m.st m.scan m.side m.used m.reg m.phase a.heap a.reg a.l a.n a.u b p i lp si ne in
            rw (ne_eqb (m.st.right ((b.pair.to p + suc i) / H.page)) 0 ne, ea) (refl, world_reg (at k d) _ (a.heap.val p i) (ap (λ h. H.lay.unpack h i (m.st.mem (b.pair.to p + suc i))) (b.inv.head p lp) ∙ v.0) v.1, none_counted m.st.top (scanned_all H m)))
      ])

  agree_load : (k d s i : ℕ) → at k s < 32 → refs (m.reg (at k s)) ≡ true → i < H.lay.slots (head_of m.st.mem (m.reg (at k s))) → Agree H F m (act H m (Load k d s i)) (n_told H a (Load k d s i) (act H m (Load k d s i)).told)
  agree_load k d s i l r sl =
      let o = holder (a.reg (at k s)) (m.reg (at k s)) (b.regs (at k s) l).0 (b.regs (at k s) l).1 r in
      load_at k d s i o.0 o.3 o.1 o.2 (rw (o.3, b.inv.head o.0 o.2) at sl)

  world_store : (p i : ℕ) (v x : Value) (h : ℕ) → b.pair.live p ≡ true → i < H.lay.slots (a.heap.hdr p) → m.st.right ((b.pair.to p + suc i) / H.page) ≢ 0 → Alive b.pair.live v → H.lay.admits (a.heap.hdr p) i v ≡ true → x ≡ map_v b.pair.to v → h ≡ a.heap.hdr p → World H F (with_st m (write m.st (b.pair.to p + suc i) (H.lay.pack h i x))) (n_heap a (assign a.heap p i v))
  world_store p i v x h lp si r al ad ex eh = rw (ex, eh) (record {
    body = body_store H laws F m.st m.scan m.side m.used m.reg m.phase a.heap a.reg a.l a.n a.u b p i v lp si r al ad;
    mut = w.mut;
    phase = w.phase;
    count = w.count;
  })

  store_at : (k s i x p : ℕ) → at k x < 32 → m.reg (at k s) ≡ Reference (b.pair.to p) → a.reg (at k s) ≡ Reference p → b.pair.live p ≡ true → i < H.lay.slots (a.heap.hdr p) → H.lay.admits (a.heap.hdr p) i (a.reg (at k x)) ≡ true → Agree H F m (act H m (Store k s i x)) (n_told H a (Store k s i x) (act H m (Store k s i x)).told)
  store_at k s i x p j em ea lp si ad =
      rw em (elim (cases_eq (m.st.right ((b.pair.to p + suc i) / H.page)) 2) [
        | inl e ↦ rw (eq-eqb (m.st.right ((b.pair.to p + suc i) / H.page)) 2 e, ea) (refl, world_store p i (a.reg (at k x)) (m.reg (at k x)) (m.st.mem (b.pair.to p)) lp si (omega arith) (b.regs (at k x) j).1 ad (b.regs (at k x) j).0 (b.inv.head p lp), none_counted m.st.top (scanned_all H m))
        | inr ne ↦ rw (ne_eqb (m.st.right ((b.pair.to p + suc i) / H.page)) 2 ne) (agree_trap (Store k s i x) ((b.pair.to p + suc i) / H.page))
      ])

  agree_store : (k s i x : ℕ) → at k s < 32 → at k x < 32 → refs (m.reg (at k s)) ≡ true → i < H.lay.slots (head_of m.st.mem (m.reg (at k s))) → H.lay.admits (head_of m.st.mem (m.reg (at k s))) i (m.reg (at k x)) ≡ true → Agree H F m (act H m (Store k s i x)) (n_told H a (Store k s i x) (act H m (Store k s i x)).told)
  agree_store k s i x l j r sl ad =
      let o = holder (a.reg (at k s)) (m.reg (at k s)) (b.regs (at k s) l).0 (b.regs (at k s) l).1 r in
      let hd = b.inv.head o.0 o.2 in
      store_at k s i x o.0 j o.3 o.1 o.2 (rw (o.3, hd) at sl) (sym (any_map_v H.lay laws (a.heap.hdr o.0) i b.pair.to (a.reg (at k x))) ∙ (rw (o.3, hd, (b.regs (at k x) j).0) at ad))

  pub new_space : (ph : Phase) → Phased H (F) m.st m.scan m.used a.heap a.l a.u b.pair ph → (z : ℕ) → ltb m.st.low (z + cond (is_busy ph) (m.side * half H + whole H.page m.used) m.st.top) ≡ false → b.pair.limit + z ≤ m.st.low
  new_space Idle o z f = omega (arith, ltb-false m.st.low (z + m.st.top) f, o.limit)
  new_space Imaging o z f = omega (arith, ltb-false m.st.low (z + m.st.top) f, o.limit)
  new_space Collecting o z f = omega (arith, ltb-false m.st.low (z + (m.side * half H + whole H.page m.used)) f, o.limit, b.start)

  agree_new : (k d r x : ℕ) → r + x ≤ 255 → (view_m H m).full (suc (r + x)) ≡ false → (f : Found) → Agree H F m (closed_new_at H m k d r x f) (n_told H a (New k d r x) (closed_new_at H m k d r x f).told)
  agree_new k d r x sm fu (found p) = agree_trap (New k d r x) p
  agree_new k d r x sm fu none = (
    refl,
    record {
      body = body_new H laws F m.st m.scan m.side m.used m.reg m.phase a.heap a.reg a.l a.n a.u b r x sm (new_space m.phase b.phased (suc (r + x)) fu) (at k d);
      mut = w.mut;
      phase = w.phase;
      count = w.count;
    },
    none_counted m.st.top (scanned_all H m),
  )

  pub body_idle : m.phase ≡ Idle → Body H F m.st m.scan m.side m.used m.reg Idle a.heap a.reg a.l a.n a.u
  body_idle e = subst (λ p. Body H F m.st m.scan m.side m.used m.reg p a.heap a.reg a.l a.n a.u) e b

  pub body_busy : m.phase ≡ Collecting → Body H F m.st m.scan m.side m.used m.reg Collecting a.heap a.reg a.l a.n a.u
  body_busy e = subst (λ p. Body H F m.st m.scan m.side m.used m.reg p a.heap a.reg a.l a.n a.u) e b

  -- what FLIP leaves
  pub record Turns : Type 0 where
    pub flip : Flip
    pub world : World H flip (turned H m) (n_act H a Turn nothing).next
    pub old : flip.old ≡ a.heap
    pub regs : flip.regs ≡ 32
    pub reg : flip.reg ≡ a.reg

  turn_from : Body H F m.st m.scan m.side m.used m.reg Idle a.heap a.reg a.l a.n a.u → Turns
  turn_from c =
      let o = c.phased in
      let us : used_now H m ≡ a.l + a.n = omega (arith, o.words, c.low, c.last, c.start, c.inv.limits) in
      let fi : used_now H m ≤ half H = omega (arith, o.words, c.low, c.last, c.start, c.inv.limits) in
      let wf = whole_fits H.page (used_now H m) H.pages pos fi in
      let ha = halves_apart m.side (half H) c.which in
      let t = body_turn H laws pos F m.st m.scan m.side m.used m.reg a.heap a.reg a.l a.n a.u c ((1 - m.side) * half H) ((1 - m.side) * half H + half H) (used_now H m) (half_within (1 - m.side) (half H) (omega arith) H.small)
      (or_le _ _ _ _ (omega (arith, ha, c.last, c.start))) us (omega arith) (whole_covers H.page (used_now H m) pos) (swapped H m).right m.st.cross (1 - m.side) (omega arith) refl refl in
      record {
        flip = t.0;
        world = record { body = t.1; mut = w.mut; phase = refl; count = w.count };
        old = t.2;
        regs = t.3;
        reg = t.4;
      }

  turn_agrees : m.phase ≡ Idle → Agrees H F m a Turn (act H m Turn) (n_act H a Turn nothing)
  turn_agrees e =
      let t = turn_from (body_idle e) in
      record {
        answer = refl;
        flip = t.flip;
        world = t.world;
        kept = λ pc. absurd (idle≢busy (sym e ∙ pc));
        fresh = λ _ _. (t.old, t.regs, t.reg, omega (arith, t.world.body.start, start_top H.lay t.flip t.world.body.ok a.heap (turned H m).st t.world.body.pair t.world.body.inv), no_words);
      }
    where
      idle≢busy : Idle ≡ Collecting → ⊥
      idle≢busy q = let z : ◌≡◌ {A = ℕ} 0 1 = cc in omega arith

      no_words : 0 + scanned_all H (turned H m) ≡ 0
      no_words = omega (arith, sum_zero H.pages (λ k. ((1 - m.side) * H.pages + k) * H.page - ((1 - m.side) * H.pages + k) * H.page) (λ k l. omega arith))

  -- a page that is behind
  pub behind_is : (n : ℕ) → behind H m n ≡ true → (m.side * half H ≤ n * H.page) × (m.scan n < n * H.page + H.page) × (m.scan n < m.st.top)
  behind_is n e =
      let t = and_parts (leb (m.side * half H) (n * H.page)) (ltb (m.scan n) (min (n * H.page + H.page) m.st.top)) e in
      let x = leb-true (m.side * half H) (n * H.page) t.0 in
      let y = ltb-true (m.scan n) (min (n * H.page + H.page) m.st.top) t.1 in
      (x, omega arith, omega arith)

  scan_from : Body H F m.st m.scan m.side m.used m.reg Collecting a.heap a.reg a.l a.n a.u → (n : ℕ) → behind H m n ≡ true → Body H F (scan_page H m n).st (scan_page H m n).scan m.side m.used m.reg Collecting a.heap a.reg a.l a.n a.u
  scan_from c n e = let t = behind_is n e in body_scan H laws pos F m.st m.scan m.side m.used m.reg a.heap a.reg a.l a.n a.u c n (omega (arith, c.start, t.0)) t.2 t.1

  pub world_scan : m.phase ≡ Collecting → (n : ℕ) → behind H m n ≡ true → World H F (scan_page H m n) a
  world_scan pc n e = record {
    body = subst (λ p. Body H F (scan_page H m n).st (scan_page H m n).scan m.side m.used m.reg p a.heap a.reg a.l a.n a.u) (sym pc) (scan_from (body_busy pc) n e);
    mut = w.mut;
    phase = w.phase;
    count = w.count;
  }

  -- the page lies in to-space
  pub page_range : (n st : ℕ) → st ≡ m.side * half H → m.st.top ≤ st + half H → st ≤ n * H.page → n * H.page < m.st.top → (m.side * H.pages ≤ n) × (n < m.side * H.pages + H.pages)
  page_range n st es tp lo hi =
      let ma = mul_assoc m.side H.pages H.page in
      let l₁ : m.side * H.pages * H.page ≤ n * H.page = omega arith in
      let l₂ : n * H.page < (m.side * H.pages + H.pages) * H.page = omega arith in
      (le_of_mul-le-mul_right l₁ pos, lt_of_mul-lt-mul_right H.page l₂)

  scan_sum : (n x : ℕ) → m.side * H.pages ≤ n → n < m.side * H.pages + H.pages → n * H.page ≤ m.scan n → m.scan n ≤ x → scanned_all H m + (upd m.scan n x n - m.scan n) ≡ sum_to H.pages (λ k. upd m.scan n x (m.side * H.pages + k) - (m.side * H.pages + k) * H.page)
  scan_sum n x l r lo up =
      let j : ℕ = n - m.side * H.pages in
      let e : m.side * H.pages + (n - m.side * H.pages) ≡ n = omega arith in
      let u = upd_same m.scan n x in
      sym (sum_raise (λ k. m.scan (m.side * H.pages + k) - (m.side * H.pages + k) * H.page) (λ k. upd m.scan n x (m.side * H.pages + k) - (m.side * H.pages + k) * H.page) H.pages (n - m.side * H.pages) (upd m.scan n x n - m.scan n) (omega arith)
      (rw e (omega arith))
      (λ q ne. ap (λ z. z - (m.side * H.pages + q) * H.page) (upd_other m.scan n (m.side * H.pages + q) x (omega arith))))

  scan_counted : Body H F m.st m.scan m.side m.used m.reg Collecting a.heap a.reg a.l a.n a.u → (n : ℕ) → behind H m n ≡ true → (m.st.top + copied_since m (scan_page H m n) ≡ (scan_page H m n).st.top) × (scanned_all H m + scanned_on m (scan_page H m n) n ≡ scanned_all H (scan_page H m n))
  scan_counted c n e =
      let t = behind_is n e in
      let f = scan_facts H laws pos F m.st m.scan m.side m.used m.reg a.heap a.reg a.l a.n a.u c n (omega (arith, c.start, t.0)) t.2 t.1 in
      let lo = c.phased.scans.low n in
      let r = page_range n F.start c.start (omega (arith, c.inv.limits, c.last)) (omega (arith, c.start, t.0)) (omega (arith, lo, t.2)) in
      (omega (arith, f.0), scan_sum n _ r.0 r.1 lo f.1)

  -- no page is behind
  module _ (nb : lowest_behind H m ≡ none) where
    pub none_behind : (st : ℕ) → st ≡ m.side * half H → m.st.top ≤ st + half H → (k : ℕ) → st ≤ k * H.page → k * H.page < m.st.top → min (k * H.page + H.page) m.st.top ≤ m.scan k
    none_behind st es tp k lo hi =
        let r = page_range k st es tp lo hi in
        let f = lowest_fails H.pages (m.side * H.pages) (behind H m) nb k r.0 r.1 in
        elim (cases_lt (m.scan k) (min (k * H.page + H.page) m.st.top)) [
          | inl y ↦ absurd (both_ways (behind H m k) f (and_from (leb (m.side * half H) (k * H.page)) (ltb (m.scan k) (min (k * H.page + H.page) m.st.top)) (le-leb (m.side * half H) (k * H.page) (omega arith)) (lt-ltb (m.scan k) (min (k * H.page + H.page) m.st.top) y)))
          | inr y ↦ y
        ]

    -- all words are then scanned
    end_sum : Body H F m.st m.scan m.side m.used m.reg Collecting a.heap a.reg a.l a.n a.u → F.start + scanned_all H m ≡ m.st.top
    end_sum c =
        let ma = mul_assoc m.side H.pages H.page in
        let tp : m.st.top ≤ F.start + half H = omega (arith, c.inv.limits, c.last) in
        let st = start_top H.lay F c.ok a.heap m.st c.pair c.inv in
        let q = scanned_sum H.page F.start m.st.top H.pages (λ k. m.scan (m.side * H.pages + k) - (m.side * H.pages + k) * H.page) st
        (λ j l. let sc = c.phased.scans in
        let lo = sc.low (m.side * H.pages + j) in
        let hi = sc.high (m.side * H.pages + j) in
        let to = sc.tops (m.side * H.pages + j) in
        let e : (m.side * H.pages + j) * H.page ≡ F.start + j * H.page = omega (arith, c.start) in
        elim (cases_lt ((m.side * H.pages + j) * H.page) m.st.top) [
          | inl b ↦ (let nb₂ = none_behind F.start c.start tp (m.side * H.pages + j) (omega arith) b in omega arith)
          | inr b ↦ omega arith
        ]) in
        omega arith

    finish_from : Body H F m.st m.scan m.side m.used m.reg Collecting a.heap a.reg a.l a.n a.u → Body H F (finish H m).st m.scan m.side m.used m.reg Idle a.heap a.reg a.l a.n a.u
    finish_from c =
        let tp : m.st.top ≤ F.start + half H = omega (arith, c.inv.limits, c.last) in
        let ma = mul_assoc m.side H.pages H.page in
        body_finish H laws pos F m.st m.scan m.side m.used m.reg a.heap a.reg a.l a.n a.u c
        (none_behind F.start c.start tp)
        (λ x h. let al = aligned H.page (m.side * H.pages) x pos (omega (arith, c.start)) in omega (arith, c.start))
        (finish H m).st.right m.st.cross

    world_finish : m.phase ≡ Collecting → World H F (finish H m) (n_end a ended)
    world_finish pc = record { body = finish_from (body_busy pc); mut = w.mut; phase = refl; count = w.count }

module _ (H : Shape) (laws : Laws H.lay) (pos : 0 < H.page) where
  -- a STEP after its page, given what the page added
  agree_stepped : (F : Flip) (m₀ m : Machine) (a : Never) → World H F m a → m.phase ≡ Collecting → (sc co : ℕ) → (m₀.st.top + co ≡ m.st.top) × (scanned_all H m₀ + sc ≡ scanned_all H m) → (f : Found) → lowest_behind H m ≡ f → Agree H F m₀ (stepped H m sc co f) (n_told H a Step (stepped H m sc co f).told)
  agree_stepped F m₀ m a w pc sc co cn none e = (refl, world_finish H laws pos F m a w e pc, cn)
  agree_stepped F m₀ m a w pc sc co cn (found n) e = (refl, w, cn)

  agree_step : (F : Flip) (m : Machine) (a : Never) → World H F m a → m.phase ≡ Collecting → (f : Found) → lowest_behind H m ≡ f → Agree H F m (step H m f) (n_told H a Step (step H m f).told)
  agree_step F m a w pc none e = agree_stepped F m m a w pc 0 0 (none_counted m.st.top (scanned_all H m)) none e
  agree_step F m a w pc (found n) e =
      let bh = lowest_passes H.pages (m.side * H.pages) (behind H m) n e in
      agree_stepped F m (scan_page H m n) a (world_scan H laws pos F m a w pc n bh) pc _ _ (scan_counted H laws pos F m a w (body_busy H laws pos F m a w pc) n bh) (lowest_behind H (scan_page H m n)) refl

  -- what a STEP that ends leaves
  abbrev pub Left : Flip → Machine → Machine → Type 0
  Left F m m' = (F.start + scanned_all H m' ≡ m'.st.top) × (m'.phase ≡ Idle) × (m'.side ≡ m.side)

  stepped_left : (F : Flip) (m₀ m : Machine) (a : Never) → World H F m a → m.side ≡ m₀.side → m.phase ≡ Collecting → (sc co : ℕ) (f : Found) → lowest_behind H m ≡ f → (stepped H m sc co f).told ≡ ended → Left F m₀ (stepped H m sc co f).next
  stepped_left F m₀ m a w sd pc sc co none e t = (end_sum H laws pos F m a w e (body_busy H laws pos F m a w pc), refl, sd)
  stepped_left F m₀ m a w sd pc sc co (found n) e t = absurd (let z : ◌≡◌ {A = ℕ} 0 1 = cc in omega arith)

  pub step_left : (F : Flip) (m : Machine) (a : Never) → World H F m a → m.phase ≡ Collecting → (f : Found) → lowest_behind H m ≡ f → (step H m f).told ≡ ended → Left F m (step H m f).next
  step_left F m a w pc none e t = stepped_left F m m a w refl pc 0 0 none e t
  step_left F m a w pc (found n) e t = stepped_left F m (scan_page H m n) a (world_scan H laws pos F m a w pc n (lowest_passes H.pages (m.side * H.pages) (behind H m) n e)) refl pc _ _ (lowest_behind H (scan_page H m n)) refl t

  pub busy_phase : (p : Phase) → is_busy p ≡ true → p ≡ Collecting
  busy_phase Idle e = absurd (both_ways false refl e)
  busy_phase Collecting e = refl
  busy_phase Imaging e = absurd (both_ways false refl e)

  pub image_phase : (p : Phase) → closed_is_imaging p ≡ true → p ≡ Imaging
  image_phase Idle e = absurd (both_ways false refl e)
  image_phase Collecting e = absurd (both_ways false refl e)
  image_phase Imaging e = refl

  abbrev pub code : Phase → ℕ
  code Idle = 0
  code Collecting = 1
  code Imaging = 2

  pub calm : (p : Phase) → p ≡ Imaging → p ≢ Collecting
  calm p e f = let z : ◌≡◌ {A = ℕ} 2 1 = ap code (sym e ∙ f) in omega arith

  pub calm_idle : (p : Phase) → p ≡ Idle → p ≢ Collecting
  calm_idle p e f = let z : ◌≡◌ {A = ℕ} 0 1 = ap code (sym e ∙ f) in omega arith

  -- a page saved
  world_save : (F : Flip) (m : Machine) (a : Never) → World H F m a → m.phase ≡ Imaging → (n : ℕ) → World H F (save_page H m n) a
  world_save F m a w pi n = back (world_calm H laws pos F m a w Imaging (upd m.st.right n 2) (upd m.pend n false) (closed_page_words H m n) m.mark (calm m.phase pi) (calm Imaging refl))
    where
      back : World H F (save_page H m n) (n_phase a Imaging) → World H F (save_page H m n) a
      back x = record { body = x.body; mut = x.mut; phase = sym pi ∙ w.phase; count = x.count }

  agree_resolve_save : (F : Flip) (m : Machine) (a : Never) (w : World H F m a) (k p n : ℕ) (t : Bool) → (closed_is_imaging m.phase && m.pend p) ≡ t → Agree H F m (resolved_save H m k p t) (n_told H a (Resolve k p n) (resolved_save H m k p t).told)
  agree_resolve_save F m a w k p n false e = (refl, world_mut H laws pos F m a w (upd m.mut k Running) (upd a.mut k Running) (ap (λ f. upd f k Running) w.mut), none_counted m.st.top (scanned_all H m))
  agree_resolve_save F m a w k p n true e =
      let t = and_parts (closed_is_imaging m.phase) (m.pend p) e in
      let x = world_save F m a w (image_phase m.phase t.0) p in
      (refl, record { body = x.body; mut = ap (λ f. upd f k Running) w.mut; phase = x.phase; count = w.count }, none_counted m.st.top (scanned_all H m))

  agree_resolve : (F : Flip) (m : Machine) (a : Never) (w : World H F m a) (k p n : ℕ) (t : Bool) → (is_busy m.phase && behind H m p) ≡ t → Agree H F m (resolved H m k p t) (n_told H a (Resolve k p n) (resolved H m k p t).told)
  agree_resolve F m a w k p n false e = agree_resolve_save F m a w k p n (closed_is_imaging m.phase && m.pend p) refl
  agree_resolve F m a w k p n true e =
      let t = and_parts (is_busy m.phase) (behind H m p) e in
      let pc = busy_phase m.phase t.0 in
      let x = world_scan H laws pos F m a w pc p t.1 in
      (refl, record { body = x.body; mut = ap (λ f. upd f k Running) w.mut; phase = w.phase; count = w.count }, scan_counted H laws pos F m a w (body_busy H laws pos F m a w pc) p t.1)

  agree_mark : (F : Flip) (m : Machine) (a : Never) (w : World H F m a) (n : ℕ) → m.phase ≡ Idle → Agree H F m (act H m (Mark n)) (n_act H a (Mark n) nothing)
  agree_mark F m a w n pi = (refl, world_calm H laws pos F m a w Imaging (mark_now H m).st.right (closed_used_page H m) (closed_mark_words H m) m.st.low (calm_idle m.phase pi) (calm Imaging refl), none_counted m.st.top (scanned_all H m))

  agree_saved : (F : Flip) (m₀ m : Machine) (a : Never) (w : World H F m a) (n : ℕ) → m.phase ≡ Imaging → (m₀.st.top ≡ m.st.top) × (scanned_all H m₀ ≡ scanned_all H m) → (f : Found) → Agree H F m₀ (saved H m f) (n_told H a (Save n) (saved H m f).told)
  agree_saved F m₀ m a w n pi cn none = (refl, world_calm H laws pos F m a w Idle m.st.right m.pend (upd m.buf 0 H.page) m.mark (calm m.phase pi) (calm_idle Idle refl), omega (arith, cn))
  agree_saved F m₀ m a w n pi cn (found p) = (refl, w, omega (arith, cn))

  agree_save : (F : Flip) (m : Machine) (a : Never) (w : World H F m a) (n : ℕ) → m.phase ≡ Imaging → (f : Found) → Agree H F m (save H m f) (n_told H a (Save n) (save H m f).told)
  agree_save F m a w n pi none = agree_saved F m m a w n pi (refl, refl) none
  agree_save F m a w n pi (found p) = agree_saved F m (save_page H m p) a (world_save F m a w pi p) n refl (refl, refl) (lowest_pend H (save_page H m p))

  -- a refused call
  agree_denied : (F : Flip) (m : Machine) (a : Never) (w : World H F m a) (c : Call) (e e' : ℕ) → e ≡ e' → World H F (denied m c e) (n_denied a c e') × Counted H m (did (denied m c e) (refused e))
  agree_denied F m a w (New k d r x) e e' q = (w, none_counted m.st.top (scanned_all H m))
  agree_denied F m a w (Load k d s i) e e' q = (w, none_counted m.st.top (scanned_all H m))
  agree_denied F m a w (Store k s i x) e e' q = (w, none_counted m.st.top (scanned_all H m))
  agree_denied F m a w (Copy k d f s) e e' q = (w, none_counted m.st.top (scanned_all H m))
  agree_denied F m a w (SetNumber k d n) e e' q = (w, none_counted m.st.top (scanned_all H m))
  agree_denied F m a w (SetNil k d) e e' q = (w, none_counted m.st.top (scanned_all H m))
  agree_denied F m a w (Same k x y) e e' q = (w, none_counted m.st.top (scanned_all H m))
  agree_denied F m a w (Tell k s) e e' q = (w, none_counted m.st.top (scanned_all H m))
  agree_denied F m a w Count e e' q = (w, none_counted m.st.top (scanned_all H m))
  agree_denied F m a w Turn e e' q = (w, none_counted m.st.top (scanned_all H m))
  agree_denied F m a w Step e e' q = (w, none_counted m.st.top (scanned_all H m))
  agree_denied F m a w (Take k) e e' q = (w, none_counted m.st.top (scanned_all H m))
  agree_denied F m a w (Resolve k p n) e e' q = (world_mut H laws pos F m a w (cond (eqb e 5) (hand_back m.mut k p) m.mut) (cond (eqb e' 5) (hand_back a.mut k p) a.mut) (rw (q, w.mut)), none_counted m.st.top (scanned_all H m))
  agree_denied F m a w (Mark n) e e' q = (w, none_counted m.st.top (scanned_all H m))
  agree_denied F m a w (Save n) e e' q = (w, none_counted m.st.top (scanned_all H m))

  pub idle_is : (p : Phase) → not (closed_is_idle p) ≡ false → p ≡ Idle
  idle_is Idle e = refl
  idle_is Collecting e = absurd (both_ways true e refl)
  idle_is Imaging e = absurd (both_ways true e refl)

  -- any call but FLIP
  others : (F : Flip) (m : Machine) (a : Never) (c : Call) (o : Outcome) (r : Reply) → (c ≡ Turn → ⊥) → Agree H F m o r → Agrees H F m a c o r
  others F m a c o r ne x = record { answer = x.0; flip = F; world = x.1; kept = λ pc. (refl, x.2); fresh = λ z e. absurd (ne e) }

  -- a call that is not refused
  agree_act : (F : Flip) (m : Machine) (a : Never) (w : World H F m a) (c : Call) → refusal (view_m H m) c ≡ 0 → Agrees H F m a c (act H m c) (n_told H a c (act H m c).told)
  agree_act F m a w (New k d r x) e =
      let e₁ = cond_zero (bad k d) 3 _ (omega arith) e in
      let e₂ = cond_zero (ltb 255 (r + x)) 4 _ (omega arith) e₁.1 in
      let e₃ = cond_zero (not (closed_is_running (m.mut k))) 11 _ (omega arith) e₂.1 in
      let e₄ = cond_zero ((view_m H m).full (suc (r + x))) 15 0 (omega arith) e₃.1 in
      others F m a (New k d r x) _ _ (turn≢ (New k d r x) refl) (agree_new H laws pos F m a w k d r x (ltb-false 255 (r + x) e₂.0) e₄.0 _)
  agree_act F m a w (Load k d s i) e =
      let e₁ = cond_zero (bad k d || bad k s) 3 _ (omega arith) e in
      let e₂ = cond_zero (not (closed_is_running (m.mut k))) 11 _ (omega arith) e₁.1 in
      let e₃ = cond_zero (not (refs (m.reg (at k s)))) 12 _ (omega arith) e₂.1 in
      let e₄ = cond_zero (leb ((view_m H m).slots (at k s)) i) 13 0 (omega arith) e₃.1 in
      others F m a (Load k d s i) _ _ (turn≢ (Load k d s i) refl) (agree_load H laws pos F m a w k d s i (name_ok k s (or_parts (bad k d) (bad k s) e₁.0).1).2 (not-false (refs (m.reg (at k s))) e₃.0) (leb-false ((view_m H m).slots (at k s)) i e₄.0))
  agree_act F m a w (Store k s i x) e =
      let e₁ = cond_zero (bad k s || bad k x) 3 _ (omega arith) e in
      let e₂ = cond_zero (not (closed_is_running (m.mut k))) 11 _ (omega arith) e₁.1 in
      let e₃ = cond_zero (not (refs (m.reg (at k s)))) 12 _ (omega arith) e₂.1 in
      let e₄ = cond_zero (leb ((view_m H m).slots (at k s)) i) 13 _ (omega arith) e₃.1 in
      let e₅ = cond_zero (not ((view_m H m).admits (at k s) i (at k x))) 14 0 (omega arith) e₄.1 in
      others F m a (Store k s i x) _ _ (turn≢ (Store k s i x) refl) (agree_store H laws pos F m a w k s i x (name_ok k s (or_parts (bad k s) (bad k x) e₁.0).0).2 (name_ok k x (or_parts (bad k s) (bad k x) e₁.0).1).2 (not-false (refs (m.reg (at k s))) e₃.0) (leb-false ((view_m H m).slots (at k s)) i e₄.0) (not-false ((view_m H m).admits (at k s) i (at k x)) e₅.0))
  agree_act F m a w (Copy k d f s) e =
      let e₁ = cond_zero (bad k d || bad f s) 3 _ (omega arith) e in
      others F m a (Copy k d f s) _ _ (turn≢ (Copy k d f s) refl) (agree_copy H laws pos F m a w k d f s (name_ok f s (or_parts (bad k d) (bad f s) e₁.0).1).2)
  agree_act F m a w (SetNumber k d n) e = others F m a (SetNumber k d n) _ _ (turn≢ (SetNumber k d n) refl) (agree_put H laws pos F m a w k d n)
  agree_act F m a w (Same k x y) e =
      let e₁ = cond_zero (bad k x || bad k y) 3 _ (omega arith) e in
      others F m a (Same k x y) _ _ (turn≢ (Same k x y) refl) (agree_same H laws pos F m a w k x y (name_ok k x (or_parts (bad k x) (bad k y) e₁.0).0).2 (name_ok k y (or_parts (bad k x) (bad k y) e₁.0).1).2)
  agree_act F m a w (Tell k s) e =
      let e₁ = cond_zero (bad k s) 3 _ (omega arith) e in
      others F m a (Tell k s) _ _ (turn≢ (Tell k s) refl) (agree_tell H laws pos F m a w k s (name_ok k s e₁.0).2)
  agree_act F m a w Count e = others F m a Count _ _ (turn≢ Count refl) (agree_count H laws pos F m a w)
  agree_act F m a w Turn e = turn_agrees H laws pos F m a w (idle_is m.phase (cond_zero (not (closed_is_idle m.phase)) 16 _ (omega arith) e).0)
  agree_act F m a w Step e = others F m a Step _ _ (turn≢ Step refl) (agree_step F m a w (busy_phase m.phase (not-false (is_busy m.phase) (cond_zero (not (is_busy m.phase)) 18 0 (omega arith) e).0)) (lowest_behind H m) refl)
  agree_act F m a w (Take k) e = others F m a (Take k) _ _ (turn≢ (Take k) refl) (agree_take H laws pos F m a w k)
  agree_act F m a w (SetNil k d) e = others F m a (SetNil k d) _ _ (turn≢ (SetNil k d) refl) (agree_wipe H laws pos F m a w k d)
  agree_act F m a w (Resolve k p n) e = others F m a (Resolve k p n) _ _ (turn≢ (Resolve k p n) refl) (agree_resolve F m a w k p n (is_busy m.phase && behind H m p) refl)
  agree_act F m a w (Mark n) e =
      let e₁ = cond_zero (ltb n (70 + half H)) 5 _ (omega arith) e in
      others F m a (Mark n) _ _ (turn≢ (Mark n) refl) (agree_mark F m a w n (idle_is m.phase (cond_zero (not (closed_is_idle m.phase)) 16 0 (omega arith) e₁.1).0))
  agree_act F m a w (Save n) e =
      let e₁ = cond_zero (ltb n (70 + half H)) 5 _ (omega arith) e in
      others F m a (Save n) _ _ (turn≢ (Save n) refl) (agree_save F m a w n (image_phase m.phase (not-false (closed_is_imaging m.phase) (cond_zero (not (closed_is_imaging m.phase)) 18 0 (omega arith) e₁.1).0)) (lowest_pend H m))

  pub simulate : (F : Flip) (m : Machine) (a : Never) (w : World H F m a) (c : Call) → Agrees H F m a c (call H m c) (n_call H a c (call H m c).told)
  simulate F m a w c = elim (cases_eq (refusal (view_m H m) c) 0) [
    | inl e ↦ rw (eq-eqb (refusal (view_m H m) c) 0 e, eq-eqb (refusal (view_a H a) c) 0 (sym (refuse_alike H laws F m a w c) ∙ e)) (agree_act F m a w c e)
    | inr ne ↦ (
        let d = agree_denied F m a w c (refusal (view_m H m) c) (refusal (view_a H a) c) (refuse_alike H laws F m a w c) in
        rw (ne_eqb (refusal (view_m H m) c) 0 ne, ne_eqb (refusal (view_a H a) c) 0 (λ z. ne (refuse_alike H laws F m a w c ∙ z))) (record {
          answer = ap refused (sym (refuse_alike H laws F m a w c));
          flip = F;
          world = d.0;
          kept = λ pc. (refl, d.1);
          fresh = λ z e. absurd (ne z);
        }))
  ]
