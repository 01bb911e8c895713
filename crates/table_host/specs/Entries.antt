-- Page table entries, and lists of frames.
use Rattle.std.specs.Prelude.{◌≡◌, ℕ, ◌+◌, ◌*◌, ◌/◌, ◌%◌, ◌<◌, List, length, ◌==◌, ◌≢◌, slice_index}
use Rattle.memory.specs.Rights.{allowing}
use Rattle.memory.specs.declared.rights.Right.{Right}

-- Entries

-- bit 0 allows reading, bit 1 writing
abbrev pub entry_right : ℕ → Right
entry_right e = allowing (e % 2 == 1) (e / 2 % 2 == 1)

-- bits 8 and up are the frame
abbrev pub entry_frame : ℕ → ℕ
entry_frame e = e / 256

-- the frame of a page by a page table
abbrev pub table_frame : List ℕ → ℕ → ℕ
table_frame es p = entry_frame (slice_index es p)

-- the frame of a page by a list of frames
abbrev pub listed_frame : List ℕ → ℕ → ℕ
listed_frame fs p = slice_index fs p

-- Translation

-- where the word at address a lies in the memory, by the frame of each page: frame f is the size words from
-- f * size on
abbrev pub translate : (ℕ → ℕ) → ℕ → ℕ → ℕ
translate frame size a = frame (a / size) * size + a % size

-- Lists of frames

-- a list of frames has each number below the page count once: it is as long as there are pages, its numbers are
-- below the page count, and no two of them are equal (each_frame of the proofs shows that none is left out)
pub record Frames (count : ℕ) (fs : List ℕ) : Type 0 where
  pub long : length fs ≡ count
  pub below : (p : ℕ) → p < count → slice_index fs p < count
  pub apart : (p q : ℕ) → p < q → q < count → slice_index fs p ≢ slice_index fs q

-- Page tables

-- every page has a frame below the page count
abbrev pub Within : ℕ → List ℕ → Type 0
Within count es = (p : ℕ) → p < count → table_frame es p < count

-- no two pages have one frame; the premises are joined, since the fact stands in a ghost field
abbrev pub Apart : ℕ → List ℕ → Type 0
Apart count es = (p q : ℕ) → (p < count) × (q < count) × (table_frame es p ≡ table_frame es q) → p ≡ q

-- the page table of a new host: each page in the frame that the list gives, to be read and written
abbrev pub FreshEntries : ℕ → List ℕ → List ℕ → Type 0
FreshEntries count fs es = (p : ℕ) → p < count → slice_index es p ≡ slice_index fs p * 256 + 3
