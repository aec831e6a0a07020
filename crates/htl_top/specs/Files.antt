-- Files of at most 16,777,216 bytes that the words name: objects and logs.
use Rattle.std.specs.Prelude.{◌≤◌, ℕ, List, length, Option}
use Rattle.htl_top.specs.Common.{MAX_OBJECT, Holdings, Object}
use Rattle.htl_open.specs.{Files.IsGiven, Files.IsObjectFile, Objects.IsAcceptedFile}

-- the words name a file of at most 16,777,216 bytes
abbrev pub IsHad : Option (List ℕ) → Option Holdings → Type 0
IsHad name holds = (bytes : List ℕ) × IsObjectFile name holds bytes

-- the words name a file of at most 16,777,216 bytes, of which the fact holds
pub record IsFileOf (name : Option (List ℕ)) (holds : Option Holdings) (Fact : List ℕ → Type 0) : Type 0 where
  pub bytes : List ℕ
  pub file : IsObjectFile name holds bytes
  pub fact : Fact bytes

-- The words name a file that an accepted object is, and a second file, of both of which the fact holds.
abbrev pub AreFilesOf : Option (List ℕ) → Option (List ℕ) → Option Holdings → (Object → List ℕ → Type 0) → Type 0
AreFilesOf name second holds Fact = IsAcceptedFile name holds (λ o. IsFileOf second holds (λ bytes. Fact o bytes))

-- The words name a file, the shelf tells that it holds these bytes under the name, at most 16,777,216, and counted no fault of it.
pub record IsReadyFile (name : Option (List ℕ)) (holds : Option Holdings) (before after : List ℕ → ℕ) (bytes : List ℕ) : Type 0 where
  pub given : IsGiven name holds before after bytes
  pub short : length bytes ≤ MAX_OBJECT
