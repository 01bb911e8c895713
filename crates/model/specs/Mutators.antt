-- What the mutators' calls do, where they are not refused.
use Rattle.std.specs.Prelude.{ℕ, zero, suc, ◌+◌, ◌-◌, ◌*◌, ◌/◌, min, Bool, Some, None, Ok, Err, Option, Result, nat_le}
use Rattle.memory.specs.Memory.{Memory, look_answer, put_answer, after_put}
use Rattle.memory.specs.declared.hosts.Denied.{Denied}
use Rattle.layouts.specs.Layouts.{Rules}
use Rattle.layouts.specs.declared.values.Value.{Value}
use Rattle.layouts.specs.declared.values.Value.TheVariants.{Nil, Number, Reference}
use Rattle.model.specs.declared.calls.Answer.TheVariants as Answer
use Rattle.model.specs.declared.states.Phase.{Phase}
use Rattle.model.specs.declared.states.Phase.TheVariants.{Idle, Collecting, Imaging}
use Rattle.model.specs.Heap.{Heap, plus, register_number, to_start, whole_pages, with_memory, with_register, with_new_start}
use Rattle.model.specs.Objects.{packed_word, initial, referred, same_value, kind_of}
use Rattle.model.specs.Outcomes.{Outcome, outcome, done, trapped}
use Rattle.model.specs.Scanning.{lowest}

abbrev pub held : Heap → ℕ → ℕ → Value
held h m r = h.register (register_number m r)

-- NEW

-- new objects may come down to here: to the copy end, or while collecting to the pages that the copies may fill
abbrev pub new_limit : Heap → Phase → ℕ
new_limit h Idle = h.space.copy_end
new_limit h Collecting = to_start h + whole_pages h.memory h.flip_used * h.memory.page_size
new_limit h Imaging = h.space.copy_end

abbrev pub has_room : Heap → ℕ → Bool
has_room h z = nat_le (plus (new_limit h h.phase) z) h.new_start

-- the first n slots of a new object written behind its header x at a
abbrev pub slots_put : Rules → ℕ → Memory → ℕ → ℕ → ℕ → Memory
slots_put L zero m x a r = m
slots_put L (suc n) m x a r = after_put (slots_put L n m x a r) (a + suc n) (packed_word L x n (initial r n))

-- a new object with r slots for references and w for numbers written at a
abbrev pub object_put : Rules → Memory → ℕ → ℕ → ℕ → Memory
object_put L m a r w = slots_put L (r + w) (after_put m a (L.header r w)) (L.header r w) a r

-- the lowest page that the z words from a on touch and that cannot be written: an unsaved one
abbrev pub unsaved_in : Heap → ℕ → ℕ → Phase → Option ℕ
unsaved_in h a z Idle = None
unsaved_in h a z Collecting = None
unsaved_in h a z Imaging = lowest (min (plus (plus a (z - 1) / h.memory.page_size) 1) 64 - a / h.memory.page_size) (a / h.memory.page_size) h.unsaved

abbrev pub new_at : Rules → Heap → ℕ → ℕ → ℕ → ℕ → ℕ → Option ℕ → Outcome Heap
new_at L h m d r w a (Some p) = trapped h m p
new_at L h m d r w a None = done (with_register (with_new_start (with_memory h (object_put L h.memory a r w)) a) m d (Reference a))

-- where a new object of z words lies
abbrev pub new_place : Heap → ℕ → ℕ
new_place h z = h.new_start - z

abbrev pub new : Rules → Heap → ℕ → ℕ → ℕ → ℕ → Outcome Heap
new L h m d r w = new_at L h m d r w (new_place h (suc (r + w))) (unsaved_in h (new_place h (suc (r + w))) (suc (r + w)) h.phase)

-- LOAD and STORE. A denied access traps on the page of its fault.

abbrev pub denied : Heap → ℕ → Denied → Outcome Heap
denied h m (Denied.Refused e) = outcome h (Answer.Refused e)
denied h m (Denied.Fault p) = trapped h m p

-- the header of the object in register s, read by the second view
abbrev pub header_in : Heap → ℕ → ℕ → ℕ
header_in h m s = h.memory.word (referred (held h m s))

abbrev pub slot_address : Heap → ℕ → ℕ → ℕ → ℕ
slot_address h m s i = referred (held h m s) + suc i

abbrev pub load_by : Rules → Heap → ℕ → ℕ → ℕ → ℕ → Result ℕ Denied → Outcome Heap
load_by L h m d s i (Ok x) = done (with_register h m d (L.unpacked (header_in h m s) i x))
load_by L h m d s i (Err e) = denied h m e

abbrev pub load : Rules → Heap → ℕ → ℕ → ℕ → ℕ → Outcome Heap
load L h m d s i = load_by L h m d s i (look_answer h.memory (slot_address h m s i))

abbrev pub store_by : Rules → Heap → ℕ → ℕ → ℕ → ℕ → Result (Unit {0}) Denied → Outcome Heap
store_by L h m s i x (Ok u) = done (with_memory h (after_put h.memory (slot_address h m s i) (packed_word L (header_in h m s) i (held h m x))))
store_by L h m s i x (Err e) = denied h m e

abbrev pub store : Rules → Heap → ℕ → ℕ → ℕ → ℕ → Outcome Heap
store L h m s i x = store_by L h m s i x (put_answer h.memory (slot_address h m s i))

-- Registers

abbrev pub copy : Heap → ℕ → ℕ → ℕ → ℕ → Outcome Heap
copy h m d f s = done (with_register h m d (held h f s))

abbrev pub set_number : Heap → ℕ → ℕ → ℕ → Outcome Heap
set_number h m d n = done (with_register h m d (Number n))

abbrev pub set_nil : Heap → ℕ → ℕ → Outcome Heap
set_nil h m d = done (with_register h m d Nil)

abbrev pub same : Heap → ℕ → ℕ → ℕ → Outcome Heap
same h m a b = outcome h (Answer.Same (same_value (held h m a) (held h m b)))

abbrev pub tell : Heap → ℕ → ℕ → Outcome Heap
tell h m s = outcome h (Answer.Kind (kind_of (held h m s)))

abbrev pub count : Heap → Outcome Heap
count h = outcome h (Answer.Count h.traps)
