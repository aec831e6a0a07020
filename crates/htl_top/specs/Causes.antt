-- Sources that words name, and what must be answered.
use Rattle.std.specs.Prelude.{ℕ, ◌≡◌, ◌≤◌, ◌⊎◌, Option, Some, List, length}
use Rattle.htl_top.specs.{Common.MAX_SOURCE, declared.outcome.Outcome.Outcome, declared.outcome.Outcome.TheVariants.Memory}
use Rattle.htl_edge.specs.Holdings.{Holdings, HoldsUnder}
use Rattle.htl_open.specs.{Files.Files, Files.IsFaultOf, Files.IsLongFile, declared.stop.FetchStop.FetchStop, declared.stop.ShelfCause.TheVariants.Failed, declared.stop.ShelfCause.TheVariants.TooLong}
use Rattle.htl_open.specs.declared.stop.FetchStop.TheVariants as fetch

-- The words name a file with these bytes, where the shelf tells what it holds; they are at most 1,048,576.
pub record IsSource (name : Option (List ℕ)) (holds : Option Holdings) (bytes : List ℕ) : Type 0 where
  pub word : List ℕ
  pub named : name ≡ Some word
  pub held : HoldsUnder holds word bytes
  pub short : length bytes ≤ MAX_SOURCE

-- Why a file of at most 1,048,576 bytes isn't had: the shelf counted a fault of the name, or has more bytes under it.
abbrev pub IsFileStop : Option (List ℕ) → Files → FetchStop → Type 0
IsFileStop name shelf (fetch.Shelf Failed) = IsFaultOf name shelf.before shelf.after
IsFileStop name shelf (fetch.Shelf (TooLong seen)) = IsLongFile MAX_SOURCE name shelf.holds seen
IsFileStop name shelf fetch.Memory = Unit {0}

-- the words name a file of at most 1,048,576 bytes, of which the fact holds
pub record IsSourceOf (name : Option (List ℕ)) (holds : Option Holdings) (Fact : List ℕ → Type 0) : Type 0 where
  pub bytes : List ℕ
  pub source : IsSource name holds bytes
  pub fact : Fact bytes

-- ---- what must be answered

-- this answer, or Memory
abbrev pub IsOrMemory : Outcome → Outcome → Type 0
IsOrMemory result wanted = (result ≡ wanted) ⊎ (result ≡ Memory)
