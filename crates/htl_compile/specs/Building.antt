-- Why no object is built of tables, and why none is compiled of a source.
use Rattle.std.specs.Prelude.{◌≡◌, ◌<◌, ◌≤◌, ℕ, Option, List, length, pos}
use Rattle.htl_base.specs.declared.limits.TheConstants.{MAX_SOURCE}
use Rattle.htl_compile.specs.{Built.object_for, Built.built, Built.AreSchedulable, Built.CanBuild, Coded.AreTyped, Sources.IsTablesOf, Sources.IsSourceFault, declared.building.BackFault.BackFault}
use Rattle.htl_compile.specs.declared.building.BackFault.TheVariants as back
use Rattle.htl_compile.specs.declared.compiling.CompileFault.{CompileFault}
use Rattle.htl_compile.specs.declared.compiling.CompileFault.TheVariants as compile
use Rattle.htl_edf.specs.{Lists.tightened, Windows.Reported, Windows.NoOverload, declared.plan.PlanFault.PlanFault, declared.plan.PlanFault.TheVariants.Overload, declared.plan.PlanFault.TheVariants.Memory as PlanMemory}
use Rattle.htl_model.specs.{Broken.Formed, Broken.IsFirstBroken, Frames.paths, Tables.Tables}
use Rattle.htl_object.specs.Objects.{IsObject, object_bytes}
use Rattle.htl_walk.specs.PathJobs.{path_jobs}

-- ---- of tables

-- a fault of the scheduler, as a fault of the tables
abbrev pub unplanned_of : PlanFault → BackFault
unplanned_of (Overload sel a b demand) = back.Unschedulable sel a b demand
unplanned_of PlanMemory = back.Memory

-- This path is the first that is overloaded, and of its overloaded intervals this is the one that is told. That no lists whatever are
-- accepted for it is the law NoneForOverloaded.
pub record IsFirstOverload (t : Tables) (path a b demand : ℕ) : Type 0 where
  pub there : path < paths t
  pub free : (k : ℕ) → k < path → NoOverload (tightened (path_jobs t k))
  pub here : Reported (tightened (path_jobs t path)) a (pos b) demand

-- the first form rule that is broken; where none is, the first path that is overloaded; want of memory is free
abbrev pub IsBackFault : Tables → BackFault → Type 0
IsBackFault t (back.IllFormed f) = IsFirstBroken t f
IsBackFault t (back.Unschedulable sel a b demand) = Formed t × IsFirstOverload t sel a b demand
IsBackFault t back.Memory = Unit {0}

-- The tables with code break no form rule and have no overloaded path, and the bytes are those of their object.
pub record IsObjectOf (platform : Option (List ℕ)) (t : Tables) (bytes : List ℕ) : Type 0 where
  pub formed : Formed t
  pub schedulable : AreSchedulable t
  pub object : IsObject (object_for platform t)
  pub is : bytes ≡ object_bytes (object_for platform t)

-- ---- of a source

-- the bytes are those of the object of the source's tables
pub record IsCompiledTo (source bytes : List ℕ) : Type 0 where
  pub tables : Tables
  pub of : IsTablesOf source tables
  pub can : CanBuild tables
  pub object : IsObject (built tables)
  pub is : bytes ≡ object_bytes (built tables)

-- the source isn't too long and has tables with typed functions, and this is their fault
pub record HasBackFault (source : List ℕ) (f : BackFault) : Type 0 where
  pub short : length source ≤ MAX_SOURCE
  pub tables : Tables
  pub of : IsTablesOf source tables
  pub typed : AreTyped tables
  pub fault : IsBackFault tables f

-- the source's fault; where it has none, that of its tables; want of memory is free
abbrev pub IsCompileFault : List ℕ → CompileFault → Type 0
IsCompileFault source (compile.Source f) = IsSourceFault source f
IsCompileFault source (compile.IllFormed f) = HasBackFault source (back.IllFormed f)
IsCompileFault source (compile.Unschedulable sel a b demand) = HasBackFault source (back.Unschedulable sel a b demand)
IsCompileFault source compile.Memory = Unit {0}

-- a fault of tables, as a fault of their source
abbrev pub unbuilt_of : BackFault → CompileFault
unbuilt_of (back.IllFormed f) = compile.IllFormed f
unbuilt_of (back.Unschedulable sel a b demand) = compile.Unschedulable sel a b demand
unbuilt_of back.Memory = compile.Memory
