-- What `compile` came to: the source that the input is, as the bytes of its object.
use Rattle.std.specs.Prelude.{◌≡◌, ◌<◌, ℕ, List, IfSome, length, Ok, Err}
use Rattle.htl_top.specs.{Common.append_known, Common.built, Common.MAX_SOURCE, Common.Rose, Common.AppendsPrefix, Common.none_left, Common.Tables, Common.object_bytes, Answers.Streams, Sources.IsInputOf, Stops.Ended}
use Rattle.htl_compile.specs.{Building.IsCompiledTo, Stops.IsNotCompiled, declared.stop.SourceStop.SourceStop}
use Rattle.htl_top.specs.declared.input.InputStop.TheVariants as input
use Rattle.htl_top.specs.declared.stop.CompileStop.{CompileStop}
use Rattle.htl_top.specs.declared.stop.CompileStop.TheVariants as stop

-- the bytes of the object of tables
abbrev pub compiled_bytes : Tables → List ℕ
compiled_bytes t = object_bytes (built t)

-- the bytes are those of an object of the source, and the fact holds of them
abbrev pub HasBuilt : (List ℕ → List ℕ → Type 0) → (List ℕ → Type 0) → List ℕ → Type 0
HasBuilt IsBuilt Fact source = (object : List ℕ) × IsBuilt source object × Fact object

-- The input was read to its end, and the object that is built of its source was written; or why not, and then nothing was written, or
-- a prefix where the output failed.
abbrev pub IsInputCompiled : (List ℕ → List ℕ → Type 0) → (List ℕ → SourceStop → Type 0) → Streams → Streams → Ended CompileStop → Type 0
IsInputCompiled IsBuilt IsUnbuilt old new (Ok done) =
    (new.rest ≡ none_left old.rest) × IsInputOf old.rest (HasBuilt IsBuilt (λ object. new.written ≡ append_known old.written object))
IsInputCompiled IsBuilt IsUnbuilt old new (Err stop.Write) =
    Rose old.write_faults new.write_faults × IsInputOf old.rest (HasBuilt IsBuilt (λ object. AppendsPrefix old.written new.written object))
IsInputCompiled IsBuilt IsUnbuilt old new (Err (stop.Source s)) = IsInputOf old.rest (λ source. IsUnbuilt source s) × (new.written ≡ old.written)
IsInputCompiled IsBuilt IsUnbuilt old new (Err (stop.Input input.Read)) = Rose old.read_faults new.read_faults × (new.written ≡ old.written)
IsInputCompiled IsBuilt IsUnbuilt old new (Err (stop.Input input.TooLong)) = IfSome old.rest (λ given. MAX_SOURCE < length given) × (new.written ≡ old.written)
IsInputCompiled IsBuilt IsUnbuilt old new (Err (stop.Input input.Memory)) = new.written ≡ old.written

-- for no platform
abbrev pub IsCompiling : Streams → Streams → Ended CompileStop → Type 0
IsCompiling old new result = IsInputCompiled IsCompiledTo IsNotCompiled old new result
