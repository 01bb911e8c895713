-- What a layer of small pages means, over what the host below means.
use Rattle.std.specs.Prelude.{◌≡◌, ℕ, true, false}
use Rattle.memory.specs.Memory.{Memory}
use Rattle.memory.specs.declared.refusals.Refusal.TheVariants.{Size}
use Rattle.memory.specs.declared.refusals.Rejected.{Rejected}
use Rattle.small_pages.specs.Splits.{legal_split, divisor, opened, split, small_memory, LeastIn}
use Rattle.small_pages.specs.declared.pages.SmallPages.{SmallPages}

module _ {H : Type 0} (means : H → Memory) where
  -- the memory of the host below
  abbrev pub below_meaning : SmallPages H → Memory
  below_meaning s = means s.below

  -- how many small pages each page below makes
  abbrev pub parts_in : SmallPages H → ℕ
  parts_in s = divisor (below_meaning s) s.parts

  -- the layer's own memory
  abbrev pub layer_meaning : SmallPages H → Memory
  layer_meaning s = small_memory (below_meaning s) (parts_in s) s.rights

  -- each page below has the least right of its small pages
  abbrev pub Least : SmallPages H → Type 0
  Least s = LeastIn (below_meaning s) (layer_meaning s) (parts_in s)

  -- From s to t the sizes below stay, and so does the number of small pages in a page. The words below are the layer's.
  pub record SameSizes (s t : SmallPages H) : Type 0 where
    pub size : (below_meaning t).page_size ≡ (below_meaning s).page_size
    pub count : (below_meaning t).page_count ≡ (below_meaning s).page_count
    pub parts : parts_in t ≡ parts_in s

  -- s is the layer just made of a host with divisor k
  pub record Made (host : H) (k : ℕ) (s : SmallPages H) : Type 0 where
    pub legal : legal_split (means host) k ≡ true
    pub layer : layer_meaning s ≡ split (means host) k
    pub below : below_meaning s ≡ opened (means host)
    pub parts : parts_in s ≡ k
    pub least : Least s

  -- no layer may be made of a host with divisor k, and the host comes back
  pub record Unmade (host : H) (k : ℕ) (e : Rejected H) : Type 0 where
    pub illegal : legal_split (means host) k ≡ false
    pub refusal : e.refusal ≡ Size
    pub given : e.given ≡ host
