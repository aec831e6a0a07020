-- The source that a command compiles: where its tables are had, and why no object is built of it.
use Rattle.std.specs.Prelude.{ℕ, ◌≡◌, ◌≤◌, ◌<◌, ◌+◌, ◌⊎◌, Option, IfSome, List, length}
use Rattle.htl_top.specs.{Common.MAX_SOURCE, Common.CanBuild, Common.CompileFault, Common.Holdings, Common.Tables, Causes.IsSource, declared.outcome.Outcome.Outcome}
use Rattle.htl_compile.specs.{Building.IsCompileFault, Sources.IsTablesOf, Stops.HasTypedTables}
use Rattle.htl_compile.specs.declared.compiling.CompileFault.TheVariants as compile
use Rattle.htl_compile.specs.declared.source_fault.SourceFault.TheVariants as source
use Rattle.htl_top.specs.declared.outcome.Outcome.TheVariants.{Source, IllFormed, Unschedulable, Memory}

-- a fault of compiling, as an answer
abbrev pub answer_of : CompileFault → Outcome
answer_of (compile.Source f) = Source f
answer_of (compile.IllFormed f) = IllFormed f
answer_of (compile.Unschedulable sel a b demand) = Unschedulable sel a b demand
answer_of compile.Memory = Memory

-- ---- of bytes

-- The bytes are a source with tables of which an accepted object is built, and the fact holds of the tables.
pub record HasTables (bytes : List ℕ) (Fact : Tables → Type 0) : Type 0 where
  pub tables : Tables
  pub of : IsTablesOf bytes tables
  pub can : CanBuild tables
  pub fact : Fact tables

-- ---- of a file

-- The words name a source with tables of which an accepted object is built, and the fact holds of the tables.
pub record IsProgram (name : Option (List ℕ)) (holds : Option Holdings) (Fact : Tables → Type 0) : Type 0 where
  pub bytes : List ℕ
  pub source : IsSource name holds bytes
  pub has : HasTables bytes Fact

-- The words name a source with tables whose functions are typed, and the fact holds of the tables.
pub record IsTypedProgram (name : Option (List ℕ)) (holds : Option Holdings) (Fact : Tables → Type 0) : Type 0 where
  pub bytes : List ℕ
  pub source : IsSource name holds bytes
  pub has : HasTypedTables bytes Fact

-- The words name a source of which no object is built, for this fault.
pub record IsFaultyProgram (name : Option (List ℕ)) (holds : Option Holdings) (f : CompileFault) : Type 0 where
  pub bytes : List ℕ
  pub source : IsSource name holds bytes
  pub fault : IsCompileFault bytes f

-- ---- of the input

-- The input is this source, where it is told; it has at most 1,048,576 bytes.
pub record IsInput (rest : Option (List ℕ)) (bytes : List ℕ) : Type 0 where
  pub told : IfSome rest (λ given. given ≡ bytes)
  pub short : length bytes ≤ MAX_SOURCE

-- the input is this source, where it is told, of which the fact holds
pub record IsInputOf (rest : Option (List ℕ)) (Fact : List ℕ → Type 0) : Type 0 where
  pub bytes : List ℕ
  pub input : IsInput rest bytes
  pub fact : Fact bytes

-- The input is a source with tables of which an accepted object is built, and the fact holds of the tables.
pub record IsInputProgram (rest : Option (List ℕ)) (Fact : Tables → Type 0) : Type 0 where
  pub bytes : List ℕ
  pub input : IsInput rest bytes
  pub has : HasTables bytes Fact

-- The input is a source with tables whose functions are typed, and the fact holds of the tables.
pub record IsTypedInput (rest : Option (List ℕ)) (Fact : Tables → Type 0) : Type 0 where
  pub bytes : List ℕ
  pub input : IsInput rest bytes
  pub has : HasTypedTables bytes Fact

-- The input is a source of which no object is built, for this fault.
pub record IsFaultyInput (rest : Option (List ℕ)) (f : CompileFault) : Type 0 where
  pub bytes : List ℕ
  pub input : IsInput rest bytes
  pub fault : IsCompileFault bytes f

-- The input has more than 1,048,576 bytes, of which one more than that was seen.
pub record IsLongInput (rest : Option (List ℕ)) (f : CompileFault) : Type 0 where
  pub is : f ≡ compile.Source (source.TooLong (MAX_SOURCE + 1))
  pub long : IfSome rest (λ given. MAX_SOURCE < length given)

-- no object is built of the input, for this fault: it is too long, or it is a source with the fault
abbrev pub IsInputFault : Option (List ℕ) → CompileFault → Type 0
IsInputFault rest f = IsLongInput rest f ⊎ IsFaultyInput rest f
