-- Forwarding: an object's words are copied to the copy end, and its old header becomes a forwarding word.
use Rattle.std.specs.Prelude.{ℕ, zero, suc, ◌+◌, ◌-◌, ◌*◌, ◌/◌, ◌%◌, Bool, cond, ◌&&◌, ◌==◌, nat_le, nat_lt}
use Rattle.memory.specs.Memory.{Memory, changed, after_set, after_protn}
use Rattle.memory.specs.declared.rights.Right.TheVariants as Right
use Rattle.layouts.specs.Layouts.{Rules}
use Rattle.layouts.specs.declared.values.Value.{Value}
use Rattle.layouts.specs.declared.values.Value.TheVariants.{Nil, Number, Reference}
use Rattle.model.specs.Heap.{Moving, plus}
use Rattle.model.specs.Objects.{object_words}

-- n words from old on, copied one by one to new on, by the second view
abbrev pub copied : ℕ → Memory → ℕ → ℕ → Memory
copied zero m old new = m
copied (suc n) m old new = after_set (copied n m old new) (new + n) ((copied n m old new).word (old + n))

-- the pages that n words from a on touch, at none
abbrev pub closed : Memory → ℕ → ℕ → Memory
closed m a n = after_protn m (a / m.page_size) (plus (plus a (n - 1) / m.page_size - a / m.page_size) 1) Right.None

-- the crossing map once n words from a on are an object's
abbrev pub crossed : ℕ → (ℕ → ℕ) → ℕ → ℕ → ℕ → ℕ
crossed size f a n p = cond (nat_lt p 64 && nat_le a (p * size) && nat_lt (p * size) (a + n)) a (f p)

-- an object that was forwarded has a forwarding word in place of its header: twice the new address, an even number
abbrev pub is_forwarded : Moving → ℕ → Bool
is_forwarded s a = s.memory.word a % 2 == 0

-- the object of n words at a moved to the copy end
abbrev pub moved : Moving → ℕ → ℕ → Moving
moved s a n = record {
  memory = closed (after_set (copied n s.memory a s.space.copy_end) a (plus s.space.copy_end s.space.copy_end)) s.space.copy_end n;
  space = record { copy_end = plus s.space.copy_end n; crossing = crossed s.memory.page_size s.space.crossing s.space.copy_end n };
}

-- what forwarding the object at a leaves, and its new address
abbrev pub forwarded : Rules → Moving → ℕ → Moving
forwarded L s a = cond (is_forwarded s a) s (moved s a (object_words L (s.memory.word a)))

abbrev pub new_address : Moving → ℕ → ℕ
new_address s a = cond (is_forwarded s a) (s.memory.word a / 2) s.space.copy_end

-- The registers, one after the other

-- what forwarding a register's value leaves, and the value it then has
abbrev pub value_forwarded : Rules → Moving → Value → Moving
value_forwarded L s Nil = s
value_forwarded L s (Number n) = s
value_forwarded L s (Reference a) = forwarded L s a

abbrev pub new_value : Moving → Value → Value
new_value s Nil = Nil
new_value s (Number n) = Number n
new_value s (Reference a) = Reference (new_address s a)

pub record Roots : Type 0 where
  pub moving : Moving
  pub register : ℕ → Value

abbrev pub root_forwarded : Rules → Roots → ℕ → Roots
root_forwarded L x k = record { moving = value_forwarded L x.moving (x.register k); register = changed x.register k (new_value x.moving (x.register k)) }

-- the first n registers forwarded, in order
unfoldable pub roots_forwarded : Rules → Roots → ℕ → Roots
roots_forwarded L x zero = x
roots_forwarded L x (suc n) = root_forwarded L (roots_forwarded L x n) n
