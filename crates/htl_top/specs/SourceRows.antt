-- What the commands that compile a source answer, row by row: each other answer and its cause, and where this must be the answer, or Memory.
use Rattle.std.specs.Prelude.{◌≡◌, ◌≤◌, ◌<◌, ℕ, List, Some, length, Ok}
use Rattle.htl_top.specs.{Common.built, Common.AreTyped, Common.IsTablesOf, Common.CompileFault, Common.Rose, Common.AppendsPrefix, Common.none_left, Common.Tables, Common.Event, Common.ScriptFault, Common.append_known, Answers.Streams}
use Rattle.htl_base.specs.declared.limits.TheConstants as limit
use Rattle.htl_compile.specs.{Building.IsCompileFault, Built.AreSchedulable, OnPlatform.IsWithFault, declared.compiling_on.WithFault.WithFault}
use Rattle.htl_bulk.specs.BulkTree.{bulk_bytes}
use Rattle.htl_compile.specs.declared.compiling.CompileFault.TheVariants as failing
use Rattle.htl_compile.specs.declared.compiling_on.WithFault.TheVariants as on
use Rattle.htl_compile.specs.declared.source_fault.SourceFault.TheVariants as fault_of
use Rattle.htl_console.specs.declared.shown.Shown.TheVariants as shown
use Rattle.htl_model.specs.Broken.{Formed}
use Rattle.htl_platform.specs.{Applied.with_worst, Platforms.platform_of, declared.platform.Platform.Platform}
use Rattle.htl_open.specs.{Files.Files, Files.IsGiven}
use Rattle.htl_top.specs.{Bulk.bulk_text, Causes.IsOrMemory, Compiling.compiled_bytes, CompilingOn.compiled_on, Going.IsReadySource, Runs.IsFaultyRun, Runs.IsCutRun, Scripts.IsWhole, Scripts.IsBad, declared.outcome.Outcome.Outcome}
use Rattle.htl_top.specs.{Sources.IsProgram, Sources.answer_of, Sources.IsInputProgram, Sources.HasTables, SourcesOn.IsProgramOn, SourcesOn.answer_on}
use Rattle.htl_top.specs.declared.outcome.Outcome.TheVariants as answer
use Rattle.htl_open.specs.declared.stop.ShelfCause.TheVariants as cause

-- `go`; the row of Done is the headline, a clause of its own
pub record GoRows (name : List ℕ) (shelf : Files) (old new : Streams) (result : Outcome) : Type 0 where
  pub script : (fault : ScriptFault) → result ≡ answer.Script fault →
      IsProgram (Some name) shelf.holds (λ t. IsFaultyRun shown.Jobs t (built t) old.rest new.rest old.written new.written fault)
  pub read : result ≡ answer.Read → Rose old.read_faults new.read_faults
      × IsProgram (Some name) shelf.holds (λ t. IsCutRun shown.Jobs t (built t) old.rest old.written new.written)
  pub write : result ≡ answer.Write → Rose old.write_faults new.write_faults
      × IsProgram (Some name) shelf.holds (λ t. IsCutRun shown.Jobs t (built t) old.rest old.written new.written)
  pub long_file : (bytes : List ℕ) → IsGiven (Some name) shelf.holds shelf.before shelf.after bytes
      → limit.MAX_SOURCE < length bytes → IsOrMemory result (answer.Shelf (cause.TooLong (length bytes)))
  pub faulty_source : (bytes : List ℕ) → IsGiven (Some name) shelf.holds shelf.before shelf.after bytes
      → (fault : CompileFault) → (fault ≡ failing.Memory → ⊥) → length bytes ≤ limit.MAX_SOURCE → IsCompileFault bytes fault → IsOrMemory result (answer_of fault)
  pub bad_script : (t : Tables) → IsReadySource (Some name) shelf.holds shelf.before shelf.after t
      → (script : List ℕ) (fault : ScriptFault) (events : List Event) → old.rest ≡ Some script → IsBad t script fault events
      → (Rose old.read_faults new.read_faults → ⊥) → (Rose old.write_faults new.write_faults → ⊥) → IsOrMemory result (answer.Script fault)
  pub complete : (t : Tables) → IsReadySource (Some name) shelf.holds shelf.before shelf.after t
      → (script : List ℕ) (events : List Event) (end : ℕ) → old.rest ≡ Some script → IsWhole t script events end
      → (Rose old.read_faults new.read_faults → ⊥) → (Rose old.write_faults new.write_faults → ⊥) → IsOrMemory result answer.Done

-- `compile`
pub record CompileRows (shelf : Files) (old new : Streams) (result : Outcome) : Type 0 where
  pub done : result ≡ answer.Done → (new.rest ≡ none_left old.rest)
      × IsInputProgram old.rest (λ t. new.written ≡ append_known old.written (compiled_bytes t))
  pub write : result ≡ answer.Write → Rose old.write_faults new.write_faults
      × IsInputProgram old.rest (λ t. AppendsPrefix old.written new.written (compiled_bytes t))
  pub read : result ≡ answer.Read → Rose old.read_faults new.read_faults
      × (new.written ≡ old.written)
  pub long_input : (bytes : List ℕ) → old.rest ≡ Some bytes → limit.MAX_SOURCE < length bytes
      → (Rose old.read_faults new.read_faults → ⊥) → IsOrMemory result (answer.Source (fault_of.TooLong 1048577))
  pub faulty_input : (bytes : List ℕ) → old.rest ≡ Some bytes → length bytes ≤ limit.MAX_SOURCE
      → (fault : CompileFault) → (fault ≡ failing.Memory → ⊥) → IsCompileFault bytes fault → (Rose old.read_faults new.read_faults → ⊥) → IsOrMemory result (answer_of fault)
  pub complete : (bytes : List ℕ) → old.rest ≡ Some bytes → length bytes ≤ limit.MAX_SOURCE
      → (t : Tables) → IsTablesOf bytes t → AreTyped t → Formed t → AreSchedulable t
      → (Rose old.read_faults new.read_faults → ⊥) → (Rose old.write_faults new.write_faults → ⊥) → IsOrMemory result answer.Done

-- `compile with`
pub record CompileWithRows (platform : List ℕ) (shelf : Files) (old new : Streams) (result : Outcome) : Type 0 where
  pub done : result ≡ answer.Done → (new.rest ≡ none_left old.rest)
      × IsProgramOn (Some platform) shelf.holds old.rest (λ p t. new.written ≡ append_known old.written (compiled_on p t))
  pub write : result ≡ answer.Write → Rose old.write_faults new.write_faults
      × IsProgramOn (Some platform) shelf.holds old.rest (λ p t. AppendsPrefix old.written new.written (compiled_on p t))
  pub read : result ≡ answer.Read → Rose old.read_faults new.read_faults
      × (new.written ≡ old.written)
  pub long_platform : (bytes : List ℕ) → IsGiven (Some platform) shelf.holds shelf.before shelf.after bytes
      → limit.MAX_SOURCE < length bytes → IsOrMemory result (answer.Shelf (cause.TooLong (length bytes)))
  pub long_input : (file : List ℕ) → IsGiven (Some platform) shelf.holds shelf.before shelf.after file → length file ≤ limit.MAX_SOURCE
      → (bytes : List ℕ) → old.rest ≡ Some bytes → limit.MAX_SOURCE < length bytes
      → (Rose old.read_faults new.read_faults → ⊥) → IsOrMemory result (answer.Source (fault_of.TooLong 1048577))
  pub faulty_input : (file : List ℕ) → IsGiven (Some platform) shelf.holds shelf.before shelf.after file → length file ≤ limit.MAX_SOURCE
      → (bytes : List ℕ) → old.rest ≡ Some bytes → length bytes ≤ limit.MAX_SOURCE
      → (fault : WithFault) → (fault ≡ on.Compile failing.Memory → ⊥) → IsWithFault bytes file fault → (Rose old.read_faults new.read_faults → ⊥) → IsOrMemory result (answer_on fault)
  pub complete : (file : List ℕ) → IsGiven (Some platform) shelf.holds shelf.before shelf.after file → length file ≤ limit.MAX_SOURCE
      → (bytes : List ℕ) → old.rest ≡ Some bytes → length bytes ≤ limit.MAX_SOURCE
      → (t : Tables) (p : Platform) → IsTablesOf bytes t → AreTyped t → platform_of t file ≡ Ok p → Formed (with_worst t p.worst) → AreSchedulable (with_worst t p.worst)
      → (Rose old.read_faults new.read_faults → ⊥) → (Rose old.write_faults new.write_faults → ⊥) → IsOrMemory result answer.Done

-- `bulk`
pub record BulkRows (n : ℕ) (shelf : Files) (old new : Streams) (result : Outcome) : Type 0 where
  pub done : result ≡ answer.Done →
      HasTables (bulk_bytes n) (λ t. new.written ≡ append_known old.written (bulk_text t))
  pub write : result ≡ answer.Write → Rose old.write_faults new.write_faults
      × HasTables (bulk_bytes n) (λ t. AppendsPrefix old.written new.written (bulk_text t))
  pub unread : new.rest ≡ old.rest
  pub complete : (Rose old.write_faults new.write_faults → ⊥) → IsOrMemory result answer.Done
