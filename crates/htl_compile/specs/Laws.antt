-- The laws of compiling.
use Rattle.std.specs.Prelude.{◌≡◌, ◌<◌, ◌≤◌, ℕ, ℤ, Option, List, length}
use Rattle.htl_base.specs.declared.limits.TheConstants.{MAX_MODULES, MAX_SOURCE}
use Rattle.htl_bulk.specs.BulkTree.{bulk_bytes}
use Rattle.htl_compile.specs.{Built.built_with, Built.AreSchedulable, Built.CanBuild, Building.IsBackFault, Building.IsCompileFault, Coded.coded, Coded.AreTyped, Coded.AreSourceTables, Sources.IsTablesOf, Sources.IsFrontFault}
use Rattle.htl_compile.specs.{declared.building.BackFault.BackFault, declared.compiling.CompileFault.CompileFault, declared.source.FrontFault.FrontFault}
use Rattle.htl_compile.specs.declared.building.BackFault.TheVariants as back
use Rattle.htl_compile.specs.declared.compiling.CompileFault.TheVariants as compile
use Rattle.htl_compile.specs.declared.source.FrontFault.TheVariants as front
use Rattle.htl_edf.specs.{Lists.tightened, PartLaws.NoneAreAccepted, Windows.Overloaded}
use Rattle.htl_model.specs.{Broken.Formed, Exchanged.SameRuns, Frames.paths, Ranges.AreInRange, Tables.Tables}
use Rattle.htl_object.specs.Accepted.{IsAccepted}
use Rattle.htl_walk.specs.PathJobs.{path_jobs, legs}

-- what is built is accepted, also with a platform's name
abbrev pub BuiltIsAccepted : Type 0
BuiltIsAccepted = (platform : Option (List ℕ)) (t : Tables) → CanBuild t → IsAccepted (built_with platform t)

-- with code in the place of functions, tables have the same states, values, modes and lines
abbrev pub CodedRunsTheSame : Type 0
CodedRunsTheSame = (t : Tables) → AreInRange t → SameRuns t (coded t)

-- a source has one list of tables at most
abbrev pub OneTables : Type 0
OneTables = (bytes : List ℕ) (t u : Tables) → IsTablesOf bytes t → IsTablesOf bytes u → t ≡ u

-- the tables of a source that isn't too long are in range and keep the limits, and their functions can be compiled
abbrev pub SourceTablesFit : Type 0
SourceTablesFit = (bytes : List ℕ) (t : Tables) → length bytes ≤ MAX_SOURCE → IsTablesOf bytes t → AreSourceTables t

-- no lists whatever are accepted for a path that is overloaded
abbrev pub NoneForOverloaded : Type 0
NoneForOverloaded =
    (t : Tables) (path a : ℕ) (b : ℤ) (demand : ℕ) → AreInRange t → Formed t → path < paths t
    → Overloaded (tightened (path_jobs t path)) a b demand → NoneAreAccepted (path_jobs t path) (legs t path)

-- ---- completeness

-- a source with tables whose functions are typed has no fault
abbrev pub FrontOnlyMemory : Type 0
FrontOnlyMemory = (bytes : List ℕ) (t : Tables) (f : FrontFault) → IsTablesOf bytes t → AreTyped t → IsFrontFault bytes f → f ≡ front.Memory

-- tables that break no form rule and have no overloaded path have no fault
abbrev pub BackOnlyMemory : Type 0
BackOnlyMemory = (t : Tables) (f : BackFault) → Formed t → AreSchedulable t → IsBackFault t f → f ≡ back.Memory

-- nor has a source with such tables
abbrev pub CompileOnlyMemory : Type 0
CompileOnlyMemory =
    (bytes : List ℕ) (t : Tables) (f : CompileFault) → IsTablesOf bytes t → AreTyped t → Formed t → AreSchedulable t → IsCompileFault bytes f → f ≡ compile.Memory

-- ---- the generated program

-- so its source has no fault at any size: it has tables whose functions are typed, that break no form rule and have no overloaded path
abbrev pub BulkHasTables : Type 0
BulkHasTables = (n : ℕ) → 1 ≤ n → n ≤ MAX_MODULES → (t : Tables) × IsTablesOf (bulk_bytes n) t × AreTyped t × Formed t × AreSchedulable t

-- ---- one fault

abbrev pub OneFrontFault : Type 0
OneFrontFault =
    (bytes : List ℕ) (f g : FrontFault) → (f ≡ front.Memory → ⊥) → (g ≡ front.Memory → ⊥) → IsFrontFault bytes f → IsFrontFault bytes g → f ≡ g

abbrev pub OneBackFault : Type 0
OneBackFault =
    (t : Tables) (f g : BackFault) → AreInRange t → (f ≡ back.Memory → ⊥) → (g ≡ back.Memory → ⊥) → IsBackFault t f → IsBackFault t g → f ≡ g

abbrev pub OneCompileFault : Type 0
OneCompileFault =
    (bytes : List ℕ) (f g : CompileFault) → (f ≡ compile.Memory → ⊥) → (g ≡ compile.Memory → ⊥) → IsCompileFault bytes f → IsCompileFault bytes g → f ≡ g
