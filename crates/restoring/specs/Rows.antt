-- A row of objects by the addresses of their headers. word a is the word at a.
use Rattle.std.specs.Prelude.{ℕ, zero, suc, ◌+◌, Bool, cond, ◌&&◌, List, [], ◌∷◌, nat_le, nat_lt}
use Rattle.layouts.specs.Layouts.{Rules}
use Rattle.layouts.specs.declared.values.Value.{Value}
use Rattle.model.specs.Objects.{is_header, slot_count, object_words}
use Rattle.model.specs.Restoring.{every_below}
use Rattle.restoring.specs.Outlines.{word_in}
use Rattle.restoring.specs.declared.rows.Headers.{Headers}

-- from a up to stop, with at most n objects
abbrev pub headers : Rules → (ℕ → ℕ) → ℕ → ℕ → ℕ → List ℕ
headers L word zero a stop = []
headers L word (suc n) a stop = cond (nat_lt a stop) (a ∷ headers L word n (a + object_words L (word a)) stop) []

-- those that are still to come
abbrev pub headers_left : {A : Type 0} → Rules → Headers A → List ℕ
headers_left L s = headers L (word_in s.objects) s.left s.a s.stop

-- the word at a is the header of an object that ends by stop
abbrev pub ends_by : Rules → (ℕ → ℕ) → ℕ → ℕ → Bool
ends_by L word stop a = is_header L (word a) && nat_le (a + object_words L (word a)) stop

-- every value in a slot of the object at a passes
abbrev pub object_passes : Rules → (ℕ → ℕ) → (Value → Bool) → ℕ → Bool
object_passes L word ok a = every_below (slot_count L (word a)) (λ i. ok (L.unpacked (word a) i (word (a + suc i))))
