-- Why no object is built of a source, with the tables that the fault speaks of.
use Rattle.std.specs.Prelude.{◌≡◌, List, ℕ, Ok}
use Rattle.htl_compile.specs.{Building.IsBackFault, Building.IsCompileFault, Coded.CanCode, Coded.coded, OnPlatform.IsWithFault, Sources.IsTablesOf, declared.building.BackFault.BackFault, declared.compiling_on.WithFault.WithFault}
use Rattle.htl_compile.specs.declared.building.BackFault.TheVariants as back
use Rattle.htl_compile.specs.declared.compiling.CompileFault.TheVariants as compile
use Rattle.htl_compile.specs.declared.compiling_on.WithFault.TheVariants as on
use Rattle.htl_compile.specs.{declared.source.FrontFault.FrontFault, declared.stop.SourceStop.SourceStop}
use Rattle.htl_compile.specs.declared.source.FrontFault.TheVariants as front
use Rattle.htl_compile.specs.declared.stop.SourceStop.TheVariants as stop
use Rattle.htl_model.specs.Tables.{Tables}
use Rattle.htl_platform.specs.{Applied.with_worst, Platforms.platform_of, declared.fault.PlatformStop.PlatformStop, declared.platform.Platform.Platform}
use Rattle.htl_platform.specs.declared.fault.PlatformStop.TheVariants as placing

-- ---- of a source, for no platform

-- The bytes are a source with tables whose functions are typed, and the fact holds of the tables.
pub record HasTypedTables (bytes : List ℕ) (Fact : Tables → Type 0) : Type 0 where
  pub tables : Tables
  pub of : IsTablesOf bytes tables
  pub can : CanCode tables
  pub fact : Fact tables

-- Why no object is built of a source, for no platform: its first fault. With a broken form rule come the tables that break it, with their
-- functions as code.
abbrev pub IsNotCompiled : List ℕ → SourceStop → Type 0
IsNotCompiled bytes (stop.Fault f) = IsCompileFault bytes (compile.Source f)
IsNotCompiled bytes (stop.IllFormed f tables) = IsCompileFault bytes (compile.IllFormed f) × HasTypedTables bytes (λ t. tables ≡ coded t)
IsNotCompiled bytes (stop.Unschedulable sel a b demand) = IsCompileFault bytes (compile.Unschedulable sel a b demand)
IsNotCompiled bytes (stop.Platform f) = ⊥
IsNotCompiled bytes stop.Memory = Unit {0}

-- ---- for a platform

-- The bytes are a source with tables whose functions are typed, the file says a platform for them, and the fact holds of the
-- tables with its worst cases.
pub record HasTypedOn (bytes file : List ℕ) (Fact : Tables → Type 0) : Type 0 where
  pub tables : Tables
  pub of : IsTablesOf bytes tables
  pub platform : Platform
  pub says : platform_of tables file ≡ Ok platform
  pub can : CanCode (with_worst tables platform.worst)
  pub fact : Fact (with_worst tables platform.worst)

-- Why no object is built of a source for a platform: the first fault. With a broken form rule come the tables that break it, with
-- the platform's worst cases and with their functions as code.
abbrev pub IsNotCompiledOn : List ℕ → List ℕ → SourceStop → Type 0
IsNotCompiledOn bytes file (stop.Fault f) = IsWithFault bytes file (on.Compile (compile.Source f))
IsNotCompiledOn bytes file (stop.Platform f) = IsWithFault bytes file (on.Platform f)
IsNotCompiledOn bytes file (stop.IllFormed f tables) = IsWithFault bytes file (on.Compile (compile.IllFormed f)) × HasTypedOn bytes file (λ t. tables ≡ coded t)
IsNotCompiledOn bytes file (stop.Unschedulable sel a b demand) = IsWithFault bytes file (on.Compile (compile.Unschedulable sel a b demand))
IsNotCompiledOn bytes file stop.Memory = Unit {0}

-- ---- from fault to fault

-- a fault of the source alone
abbrev pub unread_of : FrontFault → SourceStop
unread_of (front.Source f) = stop.Fault f
unread_of front.Memory = stop.Memory

-- a fault of the platform file
abbrev pub unplaced_of : PlatformStop → SourceStop
unplaced_of (placing.Refused f) = stop.Platform f
unplaced_of placing.Memory = stop.Memory

-- a fault of tables with code
abbrev pub stop_of : Tables → BackFault → SourceStop
stop_of u (back.IllFormed f) = stop.IllFormed f u
stop_of u (back.Unschedulable sel a b demand) = stop.Unschedulable sel a b demand
stop_of u back.Memory = stop.Memory

-- what stops tables with code is a fault of theirs
pub record IsUnbuilt (u : Tables) (s : SourceStop) : Type 0 where
  pub fault : BackFault
  pub has : IsBackFault u fault
  pub is : s ≡ stop_of u fault

-- what stops a source, without the tables
abbrev pub fault_of : SourceStop → WithFault
fault_of (stop.Fault f) = on.Compile (compile.Source f)
fault_of (stop.Platform f) = on.Platform f
fault_of (stop.IllFormed f u) = on.Compile (compile.IllFormed f)
fault_of (stop.Unschedulable sel a b demand) = on.Compile (compile.Unschedulable sel a b demand)
fault_of stop.Memory = on.Compile compile.Memory
