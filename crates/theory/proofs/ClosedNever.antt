-- The never-moving heap's calls are those of its closed form.
use Rattle.std.proofs.Common.{◌≡◌, ℕ, ◌+◌, ◌-◌, ◌<◌, ◌≤◌, ◌≢◌, List, [], ◌∷◌, ◌++◌, length, get_or, set, replicate, Some, sym, ap, ◌∙◌, ap₂, inl, inr, arith}
use Rattle.std.proofs.lemmas.Bool.{cases_eq, cases_lt, eq-eqb, ne_eqb, lt-ltb, le-ltb}
use Rattle.std.proofs.lemmas.List.{length_push, length-append, length-replicate, get_or_push, get_or-replicate, get_or_append_left, get_or-append_right, get_or_past, get_or-set_same, get_or-set_other, length-set}
use Rattle.layouts.specs.Layouts.{Rules, Lawful}
use Rattle.layouts.specs.declared.values.Value.{Value}
use Rattle.layouts.specs.declared.values.Value.TheVariants.{Nil, Number}
use Rattle.model.specs.Reaching.{Object, object_at, slot_at}
use Rattle.model.specs.Never.{new_object, assigned}
use Rattle.theory.specs.Collect.{Heap}
use Rattle.theory.specs.Steps.{initially, append, assign}
use Rattle.theory.specs.Closed.{closed_layout}
use Rattle.theory.proofs.Basics.{upd_other, upd_at}

-- the objects by place
abbrev pub placed : List Object → Heap
placed xs = record { many = length xs; hdr = λ p. (object_at xs p).header; val = slot_at xs }

abbrev none : Object
none = record { header = 0; slots = [] }

pub same_heap : (A B : Heap) → A.many ≡ B.many → ((p : ℕ) → A.hdr p ≡ B.hdr p) → ((p i : ℕ) → A.val p i ≡ B.val p i) → A ≡ B
same_heap A B m h v = λ i. record { many = m i; hdr = λ p. h p i; val = λ p j. v p j i }

-- NEW

-- another place of a longer list
other_place : (xs : List Object) (o : Object) (q : ℕ) → q ≢ length xs → object_at (xs ++ o ∷ []) q ≡ object_at xs q
other_place xs o q ne = elim (cases_lt q (length xs)) [
  | inl l ↦ get_or_append_left xs (o ∷ []) none q l
  | inr l ↦ get_or_past (xs ++ o ∷ []) q none (rw (length_push xs o) (omega arith)) ∙ sym (get_or_past xs q none l)
]

this_place : (xs : List Object) (o : Object) (q : ℕ) → q ≡ length xs → object_at (xs ++ o ∷ []) q ≡ o
this_place xs o q e = get_or_push xs o none q (sym e)

-- a new object's slots
pub new_length : (r w : ℕ) → length (replicate r Nil ++ replicate w (Number 0)) ≡ r + w
new_length r w = length-append (replicate r Nil) (replicate w (Number 0)) ∙ ap₂ ◌+◌ (length-replicate r Nil) (length-replicate w (Number 0))

new_slot : (r w i : ℕ) → get_or (replicate r Nil ++ replicate w (Number 0)) i Nil ≡ initially r w i
new_slot r w i = elim (cases_lt i (r + w)) [
  | inl l ↦ elim (cases_lt i r) [
    | inl k ↦ rw (lt-ltb i (r + w) l, lt-ltb i r k) (get_or_append_left (replicate r Nil) (replicate w (Number 0)) Nil i (rw (length-replicate r Nil) k) ∙ get_or-replicate r i Nil Nil k)
    | inr k ↦ rw (lt-ltb i (r + w) l, le-ltb i r k) (get_or-append_right (replicate r Nil) (replicate w (Number 0)) r i Nil (length-replicate r Nil) k ∙ get_or-replicate w (i - r) (Number 0) Nil (omega arith))
  ]
  | inr l ↦ rw (le-ltb i (r + w) l) (get_or_past (replicate r Nil ++ replicate w (Number 0)) i Nil (rw (new_length r w) l))
]

pub appended_as : (L : Rules) (xs : List Object) (r w : ℕ) → placed (xs ++ new_object L r w ∷ []) ≡ append (closed_layout L) (placed xs) r w
appended_as L xs r w = same_heap _ _ (length_push xs (new_object L r w) ∙ omega arith)
    (λ p. elim (cases_eq p (length xs)) [
      | inl e ↦ ap (λ o. o.header) (this_place xs (new_object L r w) p e) ∙ sym (upd_at (placed xs).hdr (length xs) p (L.header r w) e)
      | inr ne ↦ ap (λ o. o.header) (other_place xs (new_object L r w) p ne) ∙ sym (upd_other (placed xs).hdr (length xs) p (L.header r w) ne)
    ])
    (λ p i. elim (cases_eq p (length xs)) [
      | inl e ↦ rw (eq-eqb p (length xs) e) (ap (λ o. get_or o.slots i Nil) (this_place xs (new_object L r w) p e) ∙ new_slot r w i)
      | inr ne ↦ rw (ne_eqb p (length xs) ne) (ap (λ o. get_or o.slots i Nil) (other_place xs (new_object L r w) p ne))
    ])

-- STORE

-- a place with slots is one of the list
pub has_slots : (xs : List Object) (p i : ℕ) → i < length (object_at xs p).slots → p < length xs
has_slots xs p i l = elim (cases_lt p (length xs)) [
  | inl k ↦ k
  | inr k ↦ absurd (let e : length (object_at xs p).slots ≡ 0 = ap (λ o. length o.slots) (get_or_past xs p none k) in omega arith)
]

module _ (xs : List Object) (p i : ℕ) (v : Value) (l : i < length (object_at xs p).slots) where
  abbrev changed_object : Object
  changed_object = record { header = (object_at xs p).header; slots = set (object_at xs p).slots i v }

  here : (q : ℕ) → q ≡ p → object_at (assigned xs p i v) q ≡ changed_object
  here q e = ap (λ z. object_at (assigned xs p i v) z) e ∙ get_or-set_same xs p changed_object none (has_slots xs p i l)

  elsewhere : (q : ℕ) → q ≢ p → object_at (assigned xs p i v) q ≡ object_at xs q
  elsewhere q ne = get_or-set_other xs p q changed_object none ne

  pub assigned_header : (q : ℕ) → (object_at (assigned xs p i v) q).header ≡ (object_at xs q).header
  assigned_header q = elim (cases_eq q p) [
    | inl e ↦ ap (λ o. o.header) (here q e) ∙ ap (λ z. (object_at xs z).header) (sym e)
    | inr ne ↦ ap (λ o. o.header) (elsewhere q ne)
  ]

  pub assigned_length : (q : ℕ) → length (object_at (assigned xs p i v) q).slots ≡ length (object_at xs q).slots
  assigned_length q = elim (cases_eq q p) [
    | inl e ↦ ap (λ o. length o.slots) (here q e) ∙ length-set (object_at xs p).slots i v ∙ ap (λ z. length (object_at xs z).slots) (sym e)
    | inr ne ↦ ap (λ o. length o.slots) (elsewhere q ne)
  ]

  assigned_slot : (q j : ℕ) → slot_at (assigned xs p i v) q j ≡ (assign (placed xs) p i v).val q j
  assigned_slot q j = elim (cases_eq q p) [
    | inl e ↦ elim (cases_eq j i) [
      | inl f ↦ rw (eq-eqb q p e, eq-eqb j i f) (ap (λ o. get_or o.slots j Nil) (here q e) ∙ ap (λ z. get_or (set (object_at xs p).slots i v) z Nil) f ∙ get_or-set_same (object_at xs p).slots i v Nil l)
      | inr nf ↦ rw (eq-eqb q p e, ne_eqb j i nf) (ap (λ o. get_or o.slots j Nil) (here q e) ∙ get_or-set_other (object_at xs p).slots i j v Nil nf ∙ ap (λ z. slot_at xs z j) (sym e))
    ]
    | inr ne ↦ rw (ne_eqb q p ne) (ap (λ o. get_or o.slots j Nil) (elsewhere q ne))
  ]

  pub assigned_as : placed (assigned xs p i v) ≡ assign (placed xs) p i v
  assigned_as = same_heap _ _ (length-set xs p changed_object) assigned_header assigned_slot

-- Every object's header tells its slots
abbrev pub Headed : Rules → List Object → Type 0
Headed L xs = (p : ℕ) → p < length xs → L.slots (object_at xs p).header ≡ Some (length (object_at xs p).slots)

pub headed_new : (L : Rules) → Lawful L → (xs : List Object) → Headed L xs → (r w : ℕ) → r + w ≤ 255 → Headed L (xs ++ new_object L r w ∷ [])
headed_new L lawful xs h r w few p l = elim (cases_eq p (length xs)) [
  | inl e ↦ rw (this_place xs (new_object L r w) p e) (lawful.counted r w few ∙ ap Some (sym (new_length r w)))
  | inr ne ↦ rw (other_place xs (new_object L r w) p ne) (h p (omega (arith, length_push xs (new_object L r w))))
]

pub headed_assigned : (L : Rules) (xs : List Object) → Headed L xs → (p i : ℕ) (v : Value) → i < length (object_at xs p).slots → Headed L (assigned xs p i v)
headed_assigned L xs h p i v l q k = rw (assigned_header xs p i v l q, assigned_length xs p i v l q) (h q (rw (length-set xs p (record { header = (object_at xs p).header; slots = set (object_at xs p).slots i v })) at k))
