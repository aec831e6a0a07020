-- What all commands share, row by row: faults and their causes, the object, what stays, and the line that tells.
use Rattle.std.specs.Prelude.{◌≡◌, ◌⊎◌, ℕ, Option, ◌≤◌, ◌<◌, List, Some, length}
use Rattle.htl_top.specs.{Common.LogFault, Common.ObjectFault, Common.Tables, Common.PatchFault, Common.PlatformFault, Answers.Streams, Answers.IsBeforeScript, Answers.IsBeforeRun, Audited.IsLogCause, Causes.IsOrMemory, Files.IsReadyFile}
use Rattle.htl_base.specs.declared.limits.TheConstants as limit
use Rattle.htl_compile.specs.declared.compiling.CompileFault.TheVariants as failing
use Rattle.htl_compile.specs.declared.source_fault.SourceFault.{SourceFault}
use Rattle.htl_load.specs.Loading.{RefusesBytes}
use Rattle.htl_model.specs.declared.form_fault.FormFault.{FormFault}
use Rattle.htl_open.specs.{Files.Files, Lines.Tells, Files.IsFaultOf, Files.IsLongFile, Files.IsGiven, Objects.IsRefusedFile, declared.stop.ShelfCause.ShelfCause}
use Rattle.htl_top.specs.{CompilingOn.IsCompileCause, CompilingOn.IsPlatformCause, ErrorLines.IsLineTold, PatchedFiles.IsPatchCause, Slacked.IsTaskCause, declared.outcome.Outcome.TheVariants.Done, declared.outcome.Outcome.Outcome}
use Rattle.htl_top.specs.Words.{source_of, command_object, platform_file, second_file, Command, Compile, CompileWith, RunsObject}
use Rattle.htl_top.specs.declared.outcome.Outcome.TheVariants as answer
use Rattle.htl_open.specs.declared.stop.ShelfCause.TheVariants as cause

-- the causes of faults, whatever the command
pub record FaultRows (command : Option Command) (shelf : Files) (old new : Streams) (result : Outcome) : Type 0 where
  pub shelf_failed : result ≡ answer.Shelf cause.Failed →
      IsFaultOf (source_of command) shelf.before shelf.after ⊎ IsFaultOf (command_object command) shelf.before shelf.after
      ⊎ IsFaultOf (platform_file command) shelf.before shelf.after
      ⊎ IsFaultOf (second_file command) shelf.before shelf.after
  pub shelf_long : (seen : ℕ) → result ≡ answer.Shelf (cause.TooLong seen) →
      IsLongFile limit.MAX_SOURCE (source_of command) shelf.holds seen ⊎ IsLongFile limit.MAX_OBJECT (command_object command) shelf.holds seen
      ⊎ IsLongFile limit.MAX_SOURCE (platform_file command) shelf.holds seen
      ⊎ IsLongFile limit.MAX_OBJECT (second_file command) shelf.holds seen
  pub source : (fault : SourceFault) → result ≡ answer.Source fault →
      IsCompileCause command shelf.holds old.rest (failing.Source fault)
  pub ill_formed : (fault : FormFault) → result ≡ answer.IllFormed fault →
      IsCompileCause command shelf.holds old.rest (failing.IllFormed fault)
  pub unschedulable : (sel a b demand : ℕ) → result ≡ answer.Unschedulable sel a b demand →
      IsCompileCause command shelf.holds old.rest (failing.Unschedulable sel a b demand)
  pub platform : (fault : PlatformFault) → result ≡ answer.Platform fault →
      IsPlatformCause command shelf.holds old.rest fault
  pub task : result ≡ answer.Task → IsTaskCause command shelf.holds
  pub log : (fault : LogFault) → result ≡ answer.Log fault → IsLogCause command shelf.holds
      old new fault
  pub patch : (fault : PatchFault) → result ≡ answer.Patch fault → IsPatchCause command shelf.holds fault

-- the object that a command names: its faults, and where each must be the answer, or Memory. Where a second file is named, a log or a
-- donor, that is had before the object is tested.
pub record ObjectRows (command : Option Command) (shelf : Files) (old new : Streams) (result : Outcome) : Type 0 where
  pub refused : (fault : ObjectFault) → result ≡ answer.Object fault → IsRefusedFile (command_object command) shelf.holds fault
  pub long : (bytes : List ℕ) → IsGiven (command_object command) shelf.holds shelf.before shelf.after bytes
      → limit.MAX_OBJECT < length bytes → IsOrMemory result (answer.Shelf (cause.TooLong (length bytes)))
  pub faulty : (bytes : List ℕ) → IsGiven (command_object command) shelf.holds shelf.before shelf.after bytes
      → ((word : List ℕ) → second_file command ≡ Some word → (others : List ℕ) × IsReadyFile (Some word) shelf.holds shelf.before shelf.after others)
      → (fault : ObjectFault) → length bytes ≤ limit.MAX_OBJECT → RefusesBytes bytes fault → IsOrMemory result (answer.Object fault)

-- what stays as it was
pub record KeptRows (command : Option Command) (shelf : Files) (old new : Streams) (result : Outcome) : Type 0 where
  pub written : result ≡ answer.Memory → new.written ≡ old.written
  pub read : RunsObject command → result ≡ answer.Memory → new.rest ≡ old.rest
  pub unwritten : IsBeforeRun result → new.written ≡ old.written
  pub unread : (command ≡ Some Compile → ⊥) → ((file : List ℕ) → command ≡ Some (CompileWith file) → ⊥)
      → IsBeforeScript result → new.rest ≡ old.rest
  pub unfetched : (why : ShelfCause) → result ≡ answer.Shelf why → new.rest ≡ old.rest

-- the line that tells of an answer, and nothing after Done
pub record IsTold (HasSource HasObject : (Tables → Type 0) → Type 0) (old new : Option (List ℕ)) (before now : ℕ) (result : Outcome) : Type 0 where
  pub line : IsLineTold HasSource HasObject (Tells old new before now) result
  pub quiet : result ≡ Done → new ≡ old
