-- What the commands on an object answer, row by row: each other answer and its cause, and where this must be the answer, or Memory.
use Rattle.std.specs.Prelude.{◌≡◌, ℕ, List, Some, Option, ◌<◌, length, ◌≤◌}
use Rattle.htl_top.specs.Common.{LogFault, Slice, Shown, Rose, AppendsPrefix, HasBytes, Event, object_bytes, Object, PatchFault, ScriptFault, append_known}
use Rattle.htl_audit.specs.{Faults.IsFirstFault, Legal.IsLegal, Logs.log_of, Logs.Read as ReadLog, Logs.Refused as RefusedLog}
use Rattle.htl_base.specs.declared.limits.TheConstants as limit
use Rattle.htl_console.specs.declared.shown.Shown.TheVariants as shown
use Rattle.htl_patch.specs.{Combined.Replacement, Object.CanPatch}
use Rattle.htl_open.specs.{Files.Files, Files.IsGiven, Objects.IsAcceptedFile, Objects.IsReadyObject}
use Rattle.htl_top.specs.{Answers.Streams, Audited.HasLog, Audited.IsWholeAudit, Audited.IsCutAudit, Causes.IsOrMemory, Checked.check_text, Files.AreFilesOf, Files.IsReadyFile, PatchedFiles.HasPatch, PatchedFiles.IsDonorFault}
use Rattle.htl_top.specs.{Planned.IsWholePlan, Planned.IsCutPlan, Planned.IsBadSelection, Runs.IsWholeRun, Runs.IsFaultyRun, Runs.IsCutRun, Scripts.IsWhole, Scripts.IsBad, Shown.show_text, declared.outcome.Outcome.Outcome}
use Rattle.htl_plan.specs.SelectionInput.{Whole, Bad, input_of}
use Rattle.htl_top.specs.Slacked.{HasSlack, IsRootNamed, NamesNoTask}
use Rattle.htl_top.specs.declared.outcome.Outcome.TheVariants as answer
use Rattle.htl_open.specs.declared.stop.ShelfCause.TheVariants as cause

-- `run`, `jobs` and `code`
pub record RunRows (show : Shown) (name : List ℕ) (shelf : Files) (old new : Streams) (result : Outcome) : Type 0 where
  pub done : result ≡ answer.Done →
      IsAcceptedFile (Some name) shelf.holds (λ o. IsWholeRun show o.tables o old.rest new.rest old.written new.written)
  pub script : (fault : ScriptFault) → result ≡ answer.Script fault →
      IsAcceptedFile (Some name) shelf.holds (λ o. IsFaultyRun show o.tables o old.rest new.rest old.written new.written fault)
  pub read : result ≡ answer.Read → Rose old.read_faults new.read_faults
      × IsAcceptedFile (Some name) shelf.holds (λ o. IsCutRun show o.tables o old.rest old.written new.written)
  pub write : result ≡ answer.Write → Rose old.write_faults new.write_faults
      × IsAcceptedFile (Some name) shelf.holds (λ o. IsCutRun show o.tables o old.rest old.written new.written)
  pub bad_script : (o : Object) → IsReadyObject (Some name) shelf.holds shelf.before shelf.after o
      → (script : List ℕ) (fault : ScriptFault) (events : List Event) → old.rest ≡ Some script → IsBad o.tables script fault events
      → (Rose old.read_faults new.read_faults → ⊥) → (Rose old.write_faults new.write_faults → ⊥) → IsOrMemory result (answer.Script fault)
  pub complete : (o : Object) → IsReadyObject (Some name) shelf.holds shelf.before shelf.after o
      → (script : List ℕ) (events : List Event) (end : ℕ) → old.rest ≡ Some script → IsWhole o.tables script events end
      → (Rose old.read_faults new.read_faults → ⊥) → (Rose old.write_faults new.write_faults → ⊥) → IsOrMemory result answer.Done

-- `check`
pub record CheckRows (name : List ℕ) (shelf : Files) (old new : Streams) (result : Outcome) : Type 0 where
  pub done : result ≡ answer.Done →
      IsAcceptedFile (Some name) shelf.holds (λ o. new.written ≡ append_known old.written (check_text o.tables))
  pub write : result ≡ answer.Write → Rose old.write_faults new.write_faults
      × IsAcceptedFile (Some name) shelf.holds (λ o. AppendsPrefix old.written new.written (check_text o.tables))
  pub unread : new.rest ≡ old.rest
  pub complete : (o : Object) → IsReadyObject (Some name) shelf.holds shelf.before shelf.after o
      → (Rose old.write_faults new.write_faults → ⊥) → IsOrMemory result answer.Done

-- `show`
pub record ShowRows (name : List ℕ) (shelf : Files) (old new : Streams) (result : Outcome) : Type 0 where
  pub done : result ≡ answer.Done →
      IsAcceptedFile (Some name) shelf.holds (λ o. new.written ≡ append_known old.written (show_text o))
  pub write : result ≡ answer.Write → Rose old.write_faults new.write_faults
      × IsAcceptedFile (Some name) shelf.holds (λ o. AppendsPrefix old.written new.written (show_text o))
  pub unread : new.rest ≡ old.rest
  pub complete : (o : Object) → IsReadyObject (Some name) shelf.holds shelf.before shelf.after o
      → (Rose old.write_faults new.write_faults → ⊥) → IsOrMemory result answer.Done

-- `slack`
pub record SlackRows (name owner task : List ℕ) (shelf : Files) (old new : Streams) (result : Outcome) : Type 0 where
  pub done : result ≡ answer.Done →
      IsAcceptedFile (Some name) shelf.holds (λ o. HasSlack o.tables owner task (λ text. new.written ≡ append_known old.written text))
  pub write : result ≡ answer.Write → Rose old.write_faults new.write_faults
      × IsAcceptedFile (Some name) shelf.holds (λ o. HasSlack o.tables owner task (λ text. AppendsPrefix old.written new.written text))
  pub unread : new.rest ≡ old.rest
  pub unknown_task : (o : Object) → IsReadyObject (Some name) shelf.holds shelf.before shelf.after o → NamesNoTask o.tables owner task → IsOrMemory result answer.Task
  pub complete : (o : Object) → IsReadyObject (Some name) shelf.holds shelf.before shelf.after o → (k : ℕ) → IsRootNamed o.tables owner task k
      → (Rose old.write_faults new.write_faults → ⊥) → IsOrMemory result answer.Done

-- `plan`
pub record PlanRows (name : List ℕ) (shelf : Files) (old new : Streams) (result : Outcome) : Type 0 where
  pub done : result ≡ answer.Done →
      IsAcceptedFile (Some name) shelf.holds (λ o. IsWholePlan o old.rest new.rest old.written new.written)
  pub write : result ≡ answer.Write → Rose old.write_faults new.write_faults
      × IsAcceptedFile (Some name) shelf.holds (λ o. IsCutPlan o old.rest old.written new.written)
  pub script : (fault : ScriptFault) → result ≡ answer.Script fault →
      IsAcceptedFile (Some name) shelf.holds (λ o. IsBadSelection o old.rest fault) × (new.written ≡ old.written)
  pub read : result ≡ answer.Read → Rose old.read_faults new.read_faults
      × (new.written ≡ old.written)
  pub bad_selection : (o : Object) → IsReadyObject (Some name) shelf.holds shelf.before shelf.after o
      → (script : List ℕ) (fault : ScriptFault) → old.rest ≡ Some script → input_of o.tables script ≡ Bad fault.line fault.kind
      → (Rose old.read_faults new.read_faults → ⊥) → (Rose old.write_faults new.write_faults → ⊥) → IsOrMemory result (answer.Script fault)
  pub complete : (o : Object) → IsReadyObject (Some name) shelf.holds shelf.before shelf.after o
      → (script : List ℕ) (modes : List (Option ℕ)) → old.rest ≡ Some script → input_of o.tables script ≡ Whole modes
      → (Rose old.read_faults new.read_faults → ⊥) → (Rose old.write_faults new.write_faults → ⊥) → IsOrMemory result answer.Done

-- `audit`
pub record AuditRows (name log : List ℕ) (shelf : Files) (old new : Streams) (result : Outcome) : Type 0 where
  pub done : result ≡ answer.Done →
      IsAcceptedFile (Some name) shelf.holds (λ o. HasLog log shelf.holds o.tables (λ slices. IsWholeAudit o slices old.rest new.rest old.written new.written))
  pub script : (fault : ScriptFault) → result ≡ answer.Script fault →
      IsAcceptedFile (Some name) shelf.holds (λ o. HasLog log shelf.holds o.tables (λ slices. IsFaultyRun shown.Values o.tables o old.rest new.rest old.written new.written fault))
  pub read : result ≡ answer.Read → Rose old.read_faults new.read_faults
      × IsAcceptedFile (Some name) shelf.holds (λ o. HasLog log shelf.holds o.tables (λ slices. IsCutAudit o slices old.rest old.written new.written))
  pub write : result ≡ answer.Write → Rose old.write_faults new.write_faults
      × IsAcceptedFile (Some name) shelf.holds (λ o. HasLog log shelf.holds o.tables (λ slices. IsCutAudit o slices old.rest old.written new.written))
  pub long_log : (bytes : List ℕ) → IsReadyFile (Some name) shelf.holds shelf.before shelf.after bytes
      → (others : List ℕ) → IsGiven (Some log) shelf.holds shelf.before shelf.after others
      → limit.MAX_OBJECT < length others → IsOrMemory result (answer.Shelf (cause.TooLong (length others)))
  pub faulty_log : (o : Object) → IsReadyObject (Some name) shelf.holds shelf.before shelf.after o
      → (bytes : List ℕ) → IsReadyFile (Some log) shelf.holds shelf.before shelf.after bytes
      → (fault : LogFault) → log_of o.tables bytes ≡ RefusedLog fault.line fault.kind → IsOrMemory result (answer.Log fault)
  pub bad_script : (o : Object) → IsReadyObject (Some name) shelf.holds shelf.before shelf.after o
      → (bytes : List ℕ) → IsReadyFile (Some log) shelf.holds shelf.before shelf.after bytes → (slices : List Slice) → log_of o.tables bytes ≡ ReadLog slices
      → (script : List ℕ) (fault : ScriptFault) (events : List Event) → old.rest ≡ Some script → IsBad o.tables script fault events
      → (Rose old.read_faults new.read_faults → ⊥) → (Rose old.write_faults new.write_faults → ⊥) → IsOrMemory result (answer.Script fault)
  pub illegal_log : (o : Object) → IsReadyObject (Some name) shelf.holds shelf.before shelf.after o
      → (bytes : List ℕ) → IsReadyFile (Some log) shelf.holds shelf.before shelf.after bytes → (slices : List Slice) → log_of o.tables bytes ≡ ReadLog slices
      → (script : List ℕ) (events : List Event) (end : ℕ) → old.rest ≡ Some script → IsWhole o.tables script events end
      → (fault : LogFault) → IsFirstFault o.tables events end slices fault
      → (Rose old.read_faults new.read_faults → ⊥) → (Rose old.write_faults new.write_faults → ⊥) → IsOrMemory result (answer.Log fault)
  pub complete : (o : Object) → IsReadyObject (Some name) shelf.holds shelf.before shelf.after o
      → (bytes : List ℕ) → IsReadyFile (Some log) shelf.holds shelf.before shelf.after bytes → (slices : List Slice) → log_of o.tables bytes ≡ ReadLog slices
      → (script : List ℕ) (events : List Event) (end : ℕ) → old.rest ≡ Some script → IsWhole o.tables script events end → IsLegal o.tables events end slices
      → (Rose old.read_faults new.read_faults → ⊥) → (Rose old.write_faults new.write_faults → ⊥) → IsOrMemory result answer.Done

-- `patch`
pub record PatchRows (name unit mode donor : List ℕ) (shelf : Files) (old new : Streams) (result : Outcome) : Type 0 where
  pub done : result ≡ answer.Done →
      AreFilesOf (Some name) (Some donor) shelf.holds (λ o bytes. HasPatch o unit mode bytes (λ p. new.written ≡ append_known old.written (object_bytes p)))
  pub write : result ≡ answer.Write → Rose old.write_faults new.write_faults
      × AreFilesOf (Some name) (Some donor) shelf.holds (λ o bytes. HasPatch o unit mode bytes (λ p. AppendsPrefix old.written new.written (object_bytes p)))
  pub unread : new.rest ≡ old.rest
  pub long_donor : (host bytes : List ℕ) → IsReadyFile (Some name) shelf.holds shelf.before shelf.after host → IsGiven (Some donor) shelf.holds shelf.before shelf.after bytes
      → limit.MAX_OBJECT < length bytes → IsOrMemory result (answer.Shelf (cause.TooLong (length bytes)))
  pub faulty_donor : (bytes : List ℕ) (o : Object) → IsReadyObject (Some name) shelf.holds shelf.before shelf.after o → IsGiven (Some donor) shelf.holds shelf.before shelf.after bytes
      → length bytes ≤ limit.MAX_OBJECT → (fault : PatchFault) → IsDonorFault o unit mode bytes fault → IsOrMemory result (answer.Patch fault)
  pub complete : (bytes : List ℕ) (o d : Object) (g : Replacement) → IsReadyObject (Some name) shelf.holds shelf.before shelf.after o → IsGiven (Some donor) shelf.holds shelf.before shelf.after bytes
      → length bytes ≤ limit.MAX_OBJECT → HasBytes bytes d → CanPatch o d unit mode g → (Rose old.write_faults new.write_faults → ⊥) → IsOrMemory result answer.Done
