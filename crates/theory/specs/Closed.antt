-- The heap's states in closed form: the words, rights and values as functions, the rights as numbers.
use Rattle.std.specs.Prelude.{ℕ, ◌+◌, ◌*◌, ◌/◌, ◌≤◌, cond, length, nat_lt}
use Rattle.memory.specs.Rights.{rank}
use Rattle.layouts.specs.Layouts.{Rules}
use Rattle.model.specs.Heap.{Heap, Moving, moving, half_number}
use Rattle.model.specs.Objects.{slot_count, is_header, packed_word}
use Rattle.model.specs.Outcomes.{Machine}
use Rattle.model.specs.Reaching.{object_at, slot_at}
use Rattle.model.specs.Never.{Never}
use Rattle.theory.specs.Model.{Layout}
use Rattle.theory.specs.Collect.{St}
use Rattle.theory.specs.Machine.{Shape, Machine as Closed, Never as ClosedNeverMoving}

abbrev pub closed_layout : Rules → Layout
closed_layout L = record { number = L.number; make = L.header; slots = slot_count L; head = is_header L; admits = L.admits; pack = packed_word L; unpack = L.unpacked }

-- the words of both halves, below 16384 where the sizes are legal
abbrev pub both_halves : ℕ → ℕ → ℕ
both_halves count size = count / 2 * size + count / 2 * size

-- a layout on count pages of size words
abbrev pub closed_shape : (L : Rules) (count size : ℕ) → both_halves count size ≤ 16384 → Shape
closed_shape L count size small = record { lay = closed_layout L; page = size; pages = count / 2; small = small }

-- what forwarding changes, with the lowest word of the new objects
abbrev pub closed_moving : Moving → ℕ → St
closed_moving s low = record { mem = s.memory.word; top = s.space.copy_end; low = low; right = λ p. rank (s.memory.right p); cross = s.space.crossing }

abbrev pub closed_words : Heap → St
closed_words h = closed_moving (moving h) h.new_start

-- there are at most 64 pages; a page past them counts as unscanned
abbrev pub closed : Machine → Closed
closed x = record {
  st = closed_words x.heap;
  scan = λ p. cond (nat_lt p 64) (x.heap.unscanned p) (p * x.heap.memory.page_size);
  pend = x.heap.unsaved;
  side = half_number x.heap.half;
  used = x.heap.flip_used;
  reg = x.heap.register;
  mut = x.heap.state;
  phase = x.heap.phase;
  count = x.heap.traps;
  buf = x.buffer;
  mark = x.heap.mark_start;
}

-- the objects of the never-moving heap by place
abbrev pub closed_never : Never → ClosedNeverMoving
closed_never a = record {
  heap = record { many = length a.objects; hdr = λ p. (object_at a.objects p).header; val = slot_at a.objects };
  reg = a.register;
  mut = a.state;
  phase = a.phase;
  count = a.traps;
  l = a.reached;
  n = a.new;
  u = a.used;
}
