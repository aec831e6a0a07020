-- What a shelf holds, and the files that words name.
use Rattle.std.specs.Prelude.{ℕ, ◌≡◌, ◌≤◌, Option, None, Some, List, length}
use Rattle.std.specs.FinMap.{get}
use Rattle.htl_base.specs.declared.limits.TheConstants.{MAX_OBJECT}
use Rattle.htl_edge.specs.{Causes.Rose, Holdings.Holdings, Holdings.HoldsUnder, Holdings.IsTooLong, declared.shelf.ShelfFault.TheVariants.TooLong as LongFile}

-- what a shelf holds, and its counts of faults before a call and after
pub record Files : Type 0 where
  pub holds : Option Holdings
  pub before : List ℕ → ℕ
  pub after : List ℕ → ℕ

abbrev pub files : {S : Type 0} → (S → Option Holdings) → (S → List ℕ → ℕ) → S → S → Files
files holds faults old new = record { holds = holds old; before = faults old; after = faults new }

-- real files, which tell their count of faults alone, one for all names
abbrev pub counted_files : ℕ → ℕ → Files
counted_files before after = record { holds = None; before = λ name. before; after = λ name. after }

-- The words name a file, and the shelf counted a fault of its name.
abbrev pub IsFaultOf : Option (List ℕ) → (List ℕ → ℕ) → (List ℕ → ℕ) → Type 0
IsFaultOf None before after = ⊥
IsFaultOf (Some word) before after = Rose (before word) (after word)

-- The words name a file, and it has more bytes than a limit. All of them were seen where the shelf tells what it holds.
abbrev pub IsLongFile : ℕ → Option (List ℕ) → Option Holdings → ℕ → Type 0
IsLongFile limit None holds seen = ⊥
IsLongFile limit (Some word) holds seen = IsTooLong holds word limit (LongFile seen)

-- The words name a file, the shelf tells that it holds these bytes under the name, and counted no fault of it.
pub record IsGiven (name : Option (List ℕ)) (holds : Option Holdings) (before after : List ℕ → ℕ) (bytes : List ℕ) : Type 0 where
  pub word : List ℕ
  pub named : name ≡ Some word
  pub held : Holdings
  pub told : holds ≡ Some held
  pub file : get held word ≡ Some bytes
  pub no_fault : Rose (before word) (after word) → ⊥

-- The words name a file with these bytes, where the shelf tells what it holds; they are at most 16,777,216.
pub record IsObjectFile (name : Option (List ℕ)) (holds : Option Holdings) (bytes : List ℕ) : Type 0 where
  pub word : List ℕ
  pub named : name ≡ Some word
  pub held : HoldsUnder holds word bytes
  pub short : length bytes ≤ MAX_OBJECT
