-- The object of a source on a platform, and why there is none.
use Rattle.std.specs.Prelude.{◌≡◌, ◌≤◌, ℕ, List, Some, Ok, Err, length}
use Rattle.htl_base.specs.declared.limits.TheConstants.{MAX_SOURCE}
use Rattle.htl_compile.specs.{Building.IsBackFault, Built.built_with, Built.CanBuild, Coded.AreTyped, Sources.IsTablesOf, Sources.IsSourceFault, declared.building.BackFault.BackFault, declared.compiling_on.WithFault.WithFault}
use Rattle.htl_compile.specs.declared.building.BackFault.TheVariants as back
use Rattle.htl_compile.specs.declared.compiling.CompileFault.TheVariants as compile
use Rattle.htl_compile.specs.declared.compiling_on.WithFault.TheVariants as on
use Rattle.htl_model.specs.Tables.{Tables}
use Rattle.htl_object.specs.{Objects.IsObject, Objects.object_bytes, declared.object.Object.Object}
use Rattle.htl_platform.specs.{Applied.with_worst, Platforms.platform_of, declared.fault.PlatformFault.PlatformFault, declared.fault.PlatformStop.PlatformStop, declared.platform.Platform.Platform}
use Rattle.htl_platform.specs.declared.fault.PlatformStop.TheVariants as stop

-- ---- of tables

-- the object of the tables with the platform's worst cases, under its name
abbrev pub built_on : Platform → Tables → Object
built_on p t = built_with (Some p.name) (with_worst t p.worst)

-- These are the tables with the worst cases of the platform that the file says, and this is its name.
pub record IsOn (t : Tables) (file : List ℕ) (u : Tables) (name : List ℕ) : Type 0 where
  pub platform : Platform
  pub says : platform_of t file ≡ Ok platform
  pub applied : u ≡ with_worst t platform.worst
  pub named : name ≡ platform.name

-- the file's first fault; want of memory is free
abbrev pub IsNoPlatform : Tables → List ℕ → PlatformStop → Type 0
IsNoPlatform t file (stop.Refused f) = platform_of t file ≡ Err f
IsNoPlatform t file stop.Memory = Unit {0}

-- ---- of a source

-- the bytes are those of the object of the source's tables on the platform of the file
pub record IsCompiledOn (source file bytes : List ℕ) : Type 0 where
  pub tables : Tables
  pub of : IsTablesOf source tables
  pub platform : Platform
  pub says : platform_of tables file ≡ Ok platform
  pub typed : AreTyped tables
  pub can : CanBuild (with_worst tables platform.worst)
  pub object : IsObject (built_on platform tables)
  pub is : bytes ≡ object_bytes (built_on platform tables)

-- the source isn't too long and has tables with typed functions, and this is the first fault of the file for them
pub record HasPlatformFault (source file : List ℕ) (f : PlatformFault) : Type 0 where
  pub short : length source ≤ MAX_SOURCE
  pub tables : Tables
  pub of : IsTablesOf source tables
  pub typed : AreTyped tables
  pub says : platform_of tables file ≡ Err f

-- the file has none, and this is the fault of the tables with the worst cases of its platform
pub record HasBackFaultOn (source file : List ℕ) (f : BackFault) : Type 0 where
  pub short : length source ≤ MAX_SOURCE
  pub tables : Tables
  pub of : IsTablesOf source tables
  pub typed : AreTyped tables
  pub platform : Platform
  pub says : platform_of tables file ≡ Ok platform
  pub fault : IsBackFault (with_worst tables platform.worst) f

-- the source's fault; where it has none, the file's; where that has none, that of the tables; want of memory is free
abbrev pub IsWithFault : List ℕ → List ℕ → WithFault → Type 0
IsWithFault source file (on.Compile (compile.Source f)) = IsSourceFault source f
IsWithFault source file (on.Platform f) = HasPlatformFault source file f
IsWithFault source file (on.Compile (compile.IllFormed f)) = HasBackFaultOn source file (back.IllFormed f)
IsWithFault source file (on.Compile (compile.Unschedulable sel a b demand)) = HasBackFaultOn source file (back.Unschedulable sel a b demand)
IsWithFault source file (on.Compile compile.Memory) = Unit {0}
