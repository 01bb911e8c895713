-- The heap that moves its objects: its state, and parts of it replaced.
use Rattle.std.specs.Prelude.{ℕ, ◌+◌, ◌-◌, ◌*◌, ◌/◌, ◌^◌, min, Bool}
use Rattle.memory.specs.Memory.{Memory, changed}
use Rattle.layouts.specs.declared.values.Value.{Value}
use Rattle.model.specs.declared.states.Half.{Half}
use Rattle.model.specs.declared.states.Half.TheVariants.{Lower, Upper}
use Rattle.model.specs.declared.states.Phase.{Phase}
use Rattle.model.specs.declared.states.State.{State}

-- Where copied objects go
pub record Space : Type 0 where
  -- the copy end: where the next copied object goes
  pub copy_end : ℕ
  -- the crossing map: for each page, the header's address of the copied object that has its first word
  pub crossing : ℕ → ℕ

-- What forwarding changes
pub record Moving : Type 0 where
  pub memory : Memory
  pub space : Space

pub record Heap : Type 0 where
  pub memory : Memory
  pub space : Space
  -- the half in use, to-space; the other is from-space
  pub half : Half
  -- the lowest word of the new objects, which grow down from the top of to-space
  pub new_start : ℕ
  -- for each page, the address of its first unscanned word
  pub unscanned : ℕ → ℕ
  -- U: the words in use at the last FLIP
  pub flip_used : ℕ
  -- the pages that the image in progress has yet to save
  pub unsaved : ℕ → Bool
  -- the lowest word of the new objects at the last MARK
  pub mark_start : ℕ
  -- register r of mutator m is number 8 m + r
  pub register : ℕ → Value
  pub state : ℕ → State
  pub phase : Phase
  -- how often a call trapped since MAKE or RESTORE
  pub traps : ℕ

-- A sum of 32-bit numbers that stops at the largest. No sum of a heap that was made comes near it.
abbrev pub plus : ℕ → ℕ → ℕ
plus a b = min (a + b) (2 ^ 32 - 1)

abbrev pub register_number : ℕ → ℕ → ℕ
register_number m r = m * 8 + r

-- Halves

abbrev pub half_number : Half → ℕ
half_number Lower = 0
half_number Upper = 1

abbrev pub other_half : Half → Half
other_half Lower = Upper
other_half Upper = Lower

-- K: the pages of a half
abbrev pub half_pages : Memory → ℕ
half_pages m = m.page_count / 2

-- S: the words of a half
abbrev pub half_words : Memory → ℕ
half_words m = half_pages m * m.page_size

abbrev pub first_page : Memory → Half → ℕ
first_page m s = half_number s * half_pages m

abbrev pub first_word : Memory → Half → ℕ
first_word m s = half_number s * half_words m

-- to-space: its first page, its first word, and the word behind its last
abbrev pub to_page : Heap → ℕ
to_page h = first_page h.memory h.half

abbrev pub to_start : Heap → ℕ
to_start h = first_word h.memory h.half

abbrev pub to_stop : Heap → ℕ
to_stop h = to_start h + half_words h.memory

-- L: the words of the copied objects
abbrev pub copied_words : Heap → ℕ
copied_words h = h.space.copy_end - to_start h

-- N: the words of the new objects
abbrev pub new_words : Heap → ℕ
new_words h = to_stop h - h.new_start

-- the whole pages that so many words take, in a half
abbrev pub whole_pages : Memory → ℕ → ℕ
whole_pages m n = min (plus n (m.page_size - 1) / m.page_size) (half_pages m)

-- Parts replaced

abbrev pub moving : Heap → Moving
moving h = record { memory = h.memory; space = h.space }

abbrev pub with_moving : Heap → Moving → Heap
with_moving h x = record { memory = x.memory; space = x.space; half = h.half; new_start = h.new_start; unscanned = h.unscanned; flip_used = h.flip_used; unsaved = h.unsaved; mark_start = h.mark_start; register = h.register; state = h.state; phase = h.phase; traps = h.traps }

abbrev pub with_memory : Heap → Memory → Heap
with_memory h m = record { memory = m; space = h.space; half = h.half; new_start = h.new_start; unscanned = h.unscanned; flip_used = h.flip_used; unsaved = h.unsaved; mark_start = h.mark_start; register = h.register; state = h.state; phase = h.phase; traps = h.traps }

abbrev pub with_unscanned : Heap → ℕ → ℕ → Heap
with_unscanned h p a = record { memory = h.memory; space = h.space; half = h.half; new_start = h.new_start; unscanned = changed h.unscanned p a; flip_used = h.flip_used; unsaved = h.unsaved; mark_start = h.mark_start; register = h.register; state = h.state; phase = h.phase; traps = h.traps }

abbrev pub with_new_start : Heap → ℕ → Heap
with_new_start h a = record { memory = h.memory; space = h.space; half = h.half; new_start = a; unscanned = h.unscanned; flip_used = h.flip_used; unsaved = h.unsaved; mark_start = h.mark_start; register = h.register; state = h.state; phase = h.phase; traps = h.traps }

abbrev pub with_unsaved : Heap → (ℕ → Bool) → Heap
with_unsaved h f = record { memory = h.memory; space = h.space; half = h.half; new_start = h.new_start; unscanned = h.unscanned; flip_used = h.flip_used; unsaved = f; mark_start = h.mark_start; register = h.register; state = h.state; phase = h.phase; traps = h.traps }

abbrev pub with_registers : Heap → (ℕ → Value) → Heap
with_registers h f = record { memory = h.memory; space = h.space; half = h.half; new_start = h.new_start; unscanned = h.unscanned; flip_used = h.flip_used; unsaved = h.unsaved; mark_start = h.mark_start; register = f; state = h.state; phase = h.phase; traps = h.traps }

-- register r of mutator m holds v
abbrev pub with_register : Heap → ℕ → ℕ → Value → Heap
with_register h m r v = with_registers h (changed h.register (register_number m r) v)

abbrev pub with_states : Heap → (ℕ → State) → Heap
with_states h f = record { memory = h.memory; space = h.space; half = h.half; new_start = h.new_start; unscanned = h.unscanned; flip_used = h.flip_used; unsaved = h.unsaved; mark_start = h.mark_start; register = h.register; state = f; phase = h.phase; traps = h.traps }

abbrev pub with_state : Heap → ℕ → State → Heap
with_state h m s = with_states h (changed h.state m s)

abbrev pub with_phase : Heap → Phase → Heap
with_phase h x = record { memory = h.memory; space = h.space; half = h.half; new_start = h.new_start; unscanned = h.unscanned; flip_used = h.flip_used; unsaved = h.unsaved; mark_start = h.mark_start; register = h.register; state = h.state; phase = x; traps = h.traps }

abbrev pub with_mark_start : Heap → ℕ → Heap
with_mark_start h a = record { memory = h.memory; space = h.space; half = h.half; new_start = h.new_start; unscanned = h.unscanned; flip_used = h.flip_used; unsaved = h.unsaved; mark_start = a; register = h.register; state = h.state; phase = h.phase; traps = h.traps }

abbrev pub with_traps : Heap → ℕ → Heap
with_traps h n = record { memory = h.memory; space = h.space; half = h.half; new_start = h.new_start; unscanned = h.unscanned; flip_used = h.flip_used; unsaved = h.unsaved; mark_start = h.mark_start; register = h.register; state = h.state; phase = h.phase; traps = n }
