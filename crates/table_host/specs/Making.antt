-- What making a table host answers.
use Rattle.std.specs.Prelude.{◌≡◌, ℕ, ◌*◌, ◌<◌, ◌≤◌, true, false, List, Ok, Err, vec_items, vec_len, Result, Vec}
use Rattle.memory.specs.Memory.{Memory, legal_sizes, fresh, word_at}
use Rattle.memory.specs.declared.refusals.Refusal.{Refusal}
use Rattle.memory.specs.declared.refusals.Refusal.TheVariants.{Size, Short}
use Rattle.memory.specs.declared.refusals.Rejected.{Rejected}
use Rattle.table_host.specs.Entries.{Frames, translate, listed_frame}
use Rattle.table_host.specs.Meaning.{table_meaning}
use Rattle.table_host.specs.declared.table.TableHost.{TableHost}

-- a host whose meaning is m is made over the words xs: what it was given is in order, every page is at all, and
-- page p has the words of the p-th frame
pub record Accepted (xs fs : List ℕ) (len count size : ℕ) (m : Memory) : Type 0 where
  pub sized : legal_sizes count size ≡ true
  pub room : count * size ≤ len
  pub frames : Frames count fs
  pub meaning : m ≡ fresh count size (λ a. word_at xs (translate (listed_frame fs) size a))

-- why no host is made: of the reasons that apply, the first
pub record Declined (fs : List ℕ) (len count size : ℕ) (r : Refusal) : Type 0 where
  pub illegal : legal_sizes count size ≡ false → r ≡ Size
  pub short : legal_sizes count size ≡ true → len < count * size → r ≡ Short
  pub unframed : legal_sizes count size ≡ true → count * size ≤ len → (r ≡ Refusal.Frames) × (Frames count fs → ⊥)

module _ {Z : Type 0} where
  -- a host, or the memory back with the reason
  abbrev pub Made : Vec ℕ Z → List ℕ → ℕ → ℕ → Result TableHost (Rejected (Vec ℕ Z)) → Type 0
  Made memory fs count size (Ok h) = Accepted (vec_items memory) fs (vec_len memory) count size (table_meaning h)
  Made memory fs count size (Err e) = Declined fs (vec_len memory) count size e.refusal × (e.given ≡ memory)
