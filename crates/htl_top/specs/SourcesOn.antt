-- The source that a command compiles for a platform: where its tables are had, and why no object is built of it.
use Rattle.std.specs.Prelude.{ℕ, ◌≡◌, ◌⊎◌, Option, List, Ok}
use Rattle.htl_top.specs.{Common.CanBuild, Common.AreTyped, Common.IsTablesOf, Common.CompileFault, Common.Holdings, Common.Tables, Common.PlatformOf, Causes.IsSource, Sources.IsInput, Sources.IsLongInput, Sources.answer_of}
use Rattle.htl_compile.specs.{OnPlatform.IsWithFault, Stops.HasTypedOn, declared.compiling_on.WithFault.WithFault}
use Rattle.htl_compile.specs.declared.compiling_on.WithFault.TheVariants as on
use Rattle.htl_platform.specs.{Applied.with_worst, Platforms.platform_of}
use Rattle.htl_top.specs.{declared.outcome.Outcome.Outcome, declared.outcome.Outcome.TheVariants.Platform}

-- a fault of compiling for a platform, as an answer
abbrev pub answer_on : WithFault → Outcome
answer_on (on.Compile f) = answer_of f
answer_on (on.Platform f) = Platform f

-- ---- of a platform file and the input

-- The words name a platform file, the input is a source with tables of which an accepted object is built on the platform, and the
-- fact holds of the platform and the tables.
pub record IsProgramOn (name : Option (List ℕ)) (holds : Option Holdings) (rest : Option (List ℕ)) (Fact : PlatformOf → Tables → Type 0) : Type 0 where
  pub file : List ℕ
  pub held : IsSource name holds file
  pub bytes : List ℕ
  pub input : IsInput rest bytes
  pub tables : Tables
  pub of : IsTablesOf bytes tables
  pub typed : AreTyped tables
  pub platform : PlatformOf
  pub says : platform_of tables file ≡ Ok platform
  pub can : CanBuild (with_worst tables platform.worst)
  pub fact : Fact platform tables

-- The words name a platform file, the input is a source with tables whose functions are typed, and the fact holds of the tables with
-- the platform's worst cases.
pub record IsTypedOn (name : Option (List ℕ)) (holds : Option Holdings) (rest : Option (List ℕ)) (Fact : Tables → Type 0) : Type 0 where
  pub file : List ℕ
  pub held : IsSource name holds file
  pub bytes : List ℕ
  pub input : IsInput rest bytes
  pub has : HasTypedOn bytes file Fact

-- The words name a platform file, and no object is built of the input for it, for this fault.
pub record IsFaultyOn (name : Option (List ℕ)) (holds : Option Holdings) (rest : Option (List ℕ)) (f : WithFault) : Type 0 where
  pub file : List ℕ
  pub held : IsSource name holds file
  pub bytes : List ℕ
  pub input : IsInput rest bytes
  pub fault : IsWithFault bytes file f

-- The words name a platform file, and the input has more than 1,048,576 bytes, of which one more than that was seen.
pub record IsLongOn (name : Option (List ℕ)) (holds : Option Holdings) (rest : Option (List ℕ)) (f : WithFault) : Type 0 where
  pub file : List ℕ
  pub held : IsSource name holds file
  pub fault : CompileFault
  pub is : f ≡ on.Compile fault
  pub long : IsLongInput rest fault

-- no object is built of the input for a platform, for this fault: it is too long, or there is the fault
abbrev pub IsInputFaultOn : Option (List ℕ) → Option Holdings → Option (List ℕ) → WithFault → Type 0
IsInputFaultOn name holds rest f = IsLongOn name holds rest f ⊎ IsFaultyOn name holds rest f
