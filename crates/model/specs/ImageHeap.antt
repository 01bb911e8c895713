-- The never-moving heap of an image: its objects are those of the image, the copied ones first and then the new ones, each in
-- the order of their addresses; a reference is the place of its object in that list.
use Rattle.std.specs.Prelude.{ℕ, zero, suc, ◌+◌, cond, List, [], ◌∷◌, ◌++◌, map, ◌==◌, nat_lt}
use Rattle.memory.specs.Memory.{Memory}
use Rattle.layouts.specs.Layouts.{Rules}
use Rattle.model.specs.declared.states.Phase.TheVariants.{Idle}
use Rattle.model.specs.declared.states.State.TheVariants.{Running}
use Rattle.model.specs.Heap.{Heap, half_words, to_start, to_stop}
use Rattle.model.specs.Objects.{slot_count, object_words}
use Rattle.model.specs.Reaching.{Object}
use Rattle.model.specs.Never.{Never}
use Rattle.model.specs.Collections.{at_address}
use Rattle.model.specs.Restoring.{restored}

-- the addresses of the headers of a row of objects from a up to stop, at most n of them
abbrev pub row_headers : Rules → (ℕ → ℕ) → ℕ → ℕ → ℕ → List ℕ
row_headers L word zero a stop = []
row_headers L word (suc n) a stop = cond (nat_lt a stop) (a ∷ row_headers L word n (a + object_words L (word a)) stop) []

-- those of the copied objects, and those of the new ones
abbrev pub copied_headers : Rules → Heap → List ℕ
copied_headers L h = row_headers L h.memory.word (half_words h.memory) (to_start h) h.space.copy_end

abbrev pub new_headers : Rules → Heap → List ℕ
new_headers L h = row_headers L h.memory.word (half_words h.memory) h.new_start (to_stop h)

abbrev pub headers : Rules → Heap → List ℕ
headers L h = copied_headers L h ++ new_headers L h

-- the place of an address in a list of addresses; past the last place if it is not there
abbrev pub place_in : List ℕ → ℕ → ℕ
place_in [] a = 0
place_in (x ∷ xs) a = cond (x == a) 0 (suc (place_in xs a))

-- f 0, f 1 and so on, n of them
abbrev pub listed : {A : Type 0} → ℕ → (ℕ → A) → List A
listed zero f = []
listed (suc n) f = f 0 ∷ listed n (λ i. f (suc i))

-- the object whose header is at a, each address in its slots replaced by a place
abbrev pub object_from : Rules → (ℕ → ℕ) → (ℕ → ℕ) → ℕ → Object
object_from L word place a = record { header = word a; slots = listed (slot_count L (word a)) (λ i. at_address place (L.unpacked (word a) i (word (a + suc i)))) }

-- the objects of a heap at rest
abbrev pub objects_of : Rules → Heap → List Object
objects_of L h = map (object_from L h.memory.word (place_in (headers L h))) (headers L h)

-- the never-moving heap of the image b, whose words 4 and 5 are the words of the copied and of the new objects
abbrev pub never_restored : Rules → Memory → (ℕ → ℕ) → Never
never_restored L m b = record {
  objects = objects_of L (restored m b);
  register = λ k. at_address (place_in (headers L (restored m b))) ((restored m b).register k);
  state = λ k. Running;
  phase = Idle;
  traps = 0;
  reached = b 4;
  new = b 5;
  used = 0;
}
