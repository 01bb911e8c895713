-- The heap that moves its objects: every call of a list, and lists of calls. Each call is defined on every state, also on
-- one that no list of calls leads to.
use Rattle.std.specs.Prelude.{ℕ, ◌/◌, false, cond, List, [], ◌∷◌, nat_lt}
use Rattle.memory.specs.Memory.{Memory}
use Rattle.memory.specs.declared.refusals.Refusal.{Refusal}
use Rattle.memory.specs.declared.rights.Right.TheVariants as Right
use Rattle.layouts.specs.Layouts.{Rules}
use Rattle.layouts.specs.declared.values.Value.TheVariants.{Nil}
use Rattle.model.specs.declared.calls.Answer.{Answer}
use Rattle.model.specs.declared.calls.Call.{Call}
use Rattle.model.specs.declared.calls.Call.TheVariants.{New, Load, Store, Copy, SetNumber, SetNil, Same, Tell, Count, Flip, Step, Take, Resolve, Mark, Save}
use Rattle.model.specs.declared.states.Half.TheVariants.{Lower}
use Rattle.model.specs.declared.states.Phase.TheVariants.{Idle}
use Rattle.model.specs.declared.states.State.TheVariants.{Running}
use Rattle.model.specs.Heap.{Heap, half_words, with_states}
use Rattle.model.specs.Objects.{slot_count, is_reference, referred}
use Rattle.model.specs.Refusing.{View, refusal, states_refused}
use Rattle.model.specs.Outcomes.{Machine, with_heap, Outcome, outcome, on_heap, unless}
use Rattle.model.specs.Mutators.{has_room, new, load, store, copy, set_number, set_nil, same, tell, count}
use Rattle.model.specs.Collecting.{flip, step}
use Rattle.model.specs.Images.{image_words, mark, save}
use Rattle.model.specs.Faults.{take, resolve}

-- what a refusal goes by
abbrev pub moving_view : Rules → Heap → View
moving_view L h = record {
  state = h.state;
  phase = h.phase;
  refers = λ k. is_reference (h.register k);
  slots = λ k. slot_count L (h.memory.word (referred (h.register k)));
  admits = λ k i x. L.admits (h.memory.word (referred (h.register k))) i (h.register x);
  room = has_room h;
  image_words = image_words h.memory;
}

-- a call that is not refused
abbrev pub carried_out : Rules → Machine → Call → Outcome Machine
carried_out L x (New m d r w) = on_heap x (new L x.heap m d r w)
carried_out L x (Load m d s i) = on_heap x (load L x.heap m d s i)
carried_out L x (Store m s i v) = on_heap x (store L x.heap m s i v)
carried_out L x (Copy m d f s) = on_heap x (copy x.heap m d f s)
carried_out L x (SetNumber m d n) = on_heap x (set_number x.heap m d n)
carried_out L x (SetNil m d) = on_heap x (set_nil x.heap m d)
carried_out L x (Same m a b) = on_heap x (same x.heap m a b)
carried_out L x (Tell m s) = on_heap x (tell x.heap m s)
carried_out L x Count = on_heap x (count x.heap)
carried_out L x Flip = on_heap x (flip L x.heap)
carried_out L x Step = on_heap x (step L x.heap)
carried_out L x (Take m) = on_heap x (take x.heap m)
carried_out L x (Resolve m p n) = resolve L x m p
carried_out L x (Mark n) = mark L x
carried_out L x (Save n) = save x

-- a call that is refused
abbrev pub turned_down : Rules → Machine → Call → Refusal → Outcome Machine
turned_down L x c e = outcome (with_heap x (with_states x.heap (states_refused (moving_view L x.heap) c e))) (Answer.Refused e)

abbrev pub call : Rules → Machine → Call → Outcome Machine
call L x c = unless (refusal (moving_view L x.heap) c) (turned_down L x c) (carried_out L x c)

-- MAKE, on a host of these sizes, and with a buffer that holds these words
abbrev pub fresh_memory : ℕ → ℕ → Memory
fresh_memory count size = record { page_size = size; page_count = count; word = λ a. 0; right = λ p. cond (nat_lt p (count / 2)) Right.All Right.None }

abbrev pub fresh_heap : Memory → Heap
fresh_heap m = record {
  memory = m;
  space = record { copy_end = 0; crossing = λ p. 0 };
  half = Lower;
  new_start = half_words m;
  unscanned = λ p. 0;
  flip_used = 0;
  unsaved = λ p. false;
  mark_start = 0;
  register = λ k. Nil;
  state = λ m. Running;
  phase = Idle;
  traps = 0;
}

abbrev pub made : ℕ → ℕ → Heap
made count size = fresh_heap (fresh_memory count size)

-- Lists of calls

abbrev pub after : Rules → Machine → List Call → Machine
after L x [] = x
after L x (c ∷ cs) = after L (call L x c).left cs

abbrev pub answers : Rules → Machine → List Call → List Answer
answers L x [] = []
answers L x (c ∷ cs) = (call L x c).answer ∷ answers L (call L x c).left cs
