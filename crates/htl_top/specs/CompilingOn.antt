-- What `compile with` answers: the source that the input is, as the bytes of its object on the platform that a file says.
use Rattle.std.specs.Prelude.{ℕ, List, Option, Some, Ok, Err}
use Rattle.htl_top.specs.{Common.CompileFault, Common.Holdings, Common.Tables, Common.object_bytes, Common.PlatformFault, Common.PlatformOf, Answers.Streams, Answers.IsUntouched, Causes.IsFileStop, Causes.IsSourceOf, Stops.Ended}
use Rattle.htl_compile.specs.{OnPlatform.built_on, OnPlatform.IsCompiledOn, Stops.IsNotCompiledOn, declared.stop.SourceStop.SourceStop}
use Rattle.htl_compile.specs.declared.compiling_on.WithFault.TheVariants as on
use Rattle.htl_open.specs.Files.{Files}
use Rattle.htl_top.specs.{Compiling.IsInputCompiled, Sources.IsInputFault, Sources.IsFaultyProgram, SourcesOn.IsInputFaultOn, SourcesOn.IsFaultyOn, Words.Command, Words.Go, Words.Compile, Words.CompileWith, Words.platform_file}
use Rattle.htl_top.specs.declared.stop.CompileWithStop.{CompileWithStop}
use Rattle.htl_top.specs.declared.stop.CompileWithStop.TheVariants as stop

-- the bytes of the object of tables on a platform
abbrev pub compiled_on : PlatformOf → Tables → List ℕ
compiled_on p t = object_bytes (built_on p t)

-- the bytes are those of a source's object on the platform of a file
abbrev pub IsBuiltOn : List ℕ → List ℕ → List ℕ → Type 0
IsBuiltOn file source object = IsCompiledOn source file object

-- why there is none
abbrev pub IsUnbuiltOn : List ℕ → List ℕ → SourceStop → Type 0
IsUnbuiltOn file source s = IsNotCompiledOn source file s

-- The platform file was had, the input was read to its end, and the object of its tables on the platform was written; or why not, and
-- then nothing was written, or a prefix where the output failed. Where the file wasn't had, nothing was read.
abbrev pub IsCompilingOn : Option (List ℕ) → Files → Streams → Streams → Ended CompileWithStop → Type 0
IsCompilingOn name shelf old new (Ok done) = IsSourceOf name shelf.holds (λ file. IsInputCompiled (IsBuiltOn file) (IsUnbuiltOn file) old new (Ok done))
IsCompilingOn name shelf old new (Err (stop.Compile s)) = IsSourceOf name shelf.holds (λ file. IsInputCompiled (IsBuiltOn file) (IsUnbuiltOn file) old new (Err s))
IsCompilingOn name shelf old new (Err (stop.File s)) = IsFileStop name shelf s × IsUntouched old new

-- ---- of a command

-- Why no object is built of the source that a command compiles: it is that of a file, or the input, which may be compiled
-- for a platform.
abbrev pub IsCompileCause : Option Command → Option Holdings → Option (List ℕ) → CompileFault → Type 0
IsCompileCause (Some (Go name)) holds rest f = IsFaultyProgram (Some name) holds f
IsCompileCause (Some Compile) holds rest f = IsInputFault rest f
IsCompileCause (Some (CompileWith platform)) holds rest f = IsInputFaultOn (Some platform) holds rest (on.Compile f)
IsCompileCause _ holds rest f = ⊥

-- The first fault of the platform file that a command compiles for: the source has none.
abbrev pub IsPlatformCause : Option Command → Option Holdings → Option (List ℕ) → PlatformFault → Type 0
IsPlatformCause command holds rest f = IsFaultyOn (platform_file command) holds rest (on.Platform f)
