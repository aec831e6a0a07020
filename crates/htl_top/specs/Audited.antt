-- What `audit` comes to: of the files, of the log, and of the run that it is audited for.
use Rattle.std.specs.Prelude.{◌≡◌, ◌⊎◌, ℕ, suc, List, [], ◌++◌, length, Option, Some, None, Ok, Err, codes, decimal}
use Rattle.htl_top.specs.Common.{append_known, LogFault, Slice, Values, Rose, AppendsPrefix, none_left, Holdings, before_of, Tables, Event, Object, OfScript, Script, Whole, Bad, script_of}
use Rattle.htl_audit.specs.{Faults.IsFirstFault, Jobs.all_rounds, Legal.IsLegal, Legal.first_fault, Legal.jobs_done, Logs.log_of, Logs.Read as ReadLog, Logs.Refused as RefusedLog}
use Rattle.htl_open.specs.{Files.Files, Objects.IsAcceptedFile}
use Rattle.htl_top.specs.{Answers.Streams, Answers.IsUntouched, Fetching.IsOnBoth, Files.IsFileOf, Runs.IsFaultyRun, Scripts.IsWhole, Texts.text_before_fault, Words.Command, Words.Audit, Stops.Ended, declared.stop.AuditStop.AuditStop}
use Rattle.htl_top.specs.declared.stop.AuditStop.TheVariants as audit
use Rattle.htl_top.specs.declared.stop.OnObject.{OnObject}
use Rattle.htl_top.specs.declared.stop.RunStop.TheVariants as run

-- ---- the files

-- the bytes are a log for the tables, and the fact holds of its slices
pub record HasSlices (t : Tables) (bytes : List ℕ) (Fact : List Slice → Type 0) : Type 0 where
  pub slices : List Slice
  pub read : log_of t bytes ≡ ReadLog slices
  pub fact : Fact slices

-- the same of the bytes of a file
abbrev pub HasLog : List ℕ → Option Holdings → Tables → (List Slice → Type 0) → Type 0
HasLog log holds t Fact = IsFileOf (Some log) holds (λ bytes. HasSlices t bytes Fact)

-- ---- the text

-- `audited T jobs N slices K`
abbrev pub audited_line : ℕ → ℕ → ℕ → List ℕ
audited_line at jobs slices = codes "audited " ++ decimal at ++ codes " jobs " ++ decimal jobs ++ codes " slices " ++ decimal slices ++ codes "\n"

-- with the numbers of a log for a run that ends with `end`
abbrev pub audited_text : Tables → List Event → ℕ → List Slice → List ℕ
audited_text t es end log = audited_line end (jobs_done (all_rounds t es (suc end)) log) (length log)

-- that, where the log has no fault
abbrev pub verdict_text : Tables → List Event → ℕ → List Slice → List ℕ
verdict_text t es end log = elim (first_fault t es end log) [ None ↦ audited_text t es end log | Some f ↦ [] ]

-- what an audit of a log writes of a script: values and modes as a run does, and behind those of a whole script what was audited
abbrev pub audit_text : Object → List Slice → Script → List ℕ
audit_text o log (Whole events end) = before_of o events Values (suc end) ++ verdict_text o.tables events end log
audit_text o log (Bad line kind events) = text_before_fault o Values events

-- ---- the audit of a log that was read

-- The input had a whole script, which was read to its end; the log is legal for its run; values and modes were written, and what was
-- audited.
pub record IsWholeAudit (o : Object) (log : List Slice) (rest left old new : Option (List ℕ)) : Type 0 where
  pub events : List Event
  pub end : ℕ
  pub script : OfScript rest (λ script. IsWhole o.tables script events end)
  pub read : left ≡ none_left rest
  pub legal : IsLegal o.tables events end log
  pub written : new ≡ append_known old (before_of o events Values (suc end) ++ audited_text o.tables events end log)

-- The input had a whole script, which was read to its end; this is the first fault of the log for its run; values and modes were
-- written.
pub record IsIllegalAudit (o : Object) (log : List Slice) (rest left old new : Option (List ℕ)) (f : LogFault) : Type 0 where
  pub events : List Event
  pub end : ℕ
  pub script : OfScript rest (λ script. IsWhole o.tables script events end)
  pub read : left ≡ none_left rest
  pub fault : IsFirstFault o.tables events end log f
  pub written : new ≡ append_known old (before_of o events Values (suc end))

-- A prefix was written of the text that the input as a script makes the audit write.
pub record IsCutAudit (o : Object) (log : List Slice) (rest old new : Option (List ℕ)) : Type 0 where
  pub given : Script
  pub script : OfScript rest (λ script. script_of o.tables script ≡ given)
  pub written : AppendsPrefix old new (audit_text o log given)

-- The log is audited for the run of the input as script. For want of memory nothing is read.
abbrev pub IsAuditRun : List Slice → Object → Streams → Streams → Ended AuditStop → Type 0
IsAuditRun log o old new (Ok done) = IsWholeAudit o log old.rest new.rest old.written new.written
IsAuditRun log o old new (Err (audit.Log f)) = IsIllegalAudit o log old.rest new.rest old.written new.written f
IsAuditRun log o old new (Err (audit.Run (run.Script f))) = IsFaultyRun Values o.tables o old.rest new.rest old.written new.written f
IsAuditRun log o old new (Err (audit.Run run.Read)) = Rose old.read_faults new.read_faults × IsCutAudit o log old.rest old.written new.written
IsAuditRun log o old new (Err (audit.Run run.Write)) = Rose old.write_faults new.write_faults × IsCutAudit o log old.rest old.written new.written
IsAuditRun log o old new (Err (audit.Run run.Memory)) = IsUntouched old new

-- ---- the bytes of a log

-- The log has this fault: it is the first of its lines with a form or a name that is refused, and nothing was read and nothing written; or
-- its audit ended with it.
abbrev pub IsLogFault : List ℕ → Object → Streams → Streams → LogFault → Type 0
IsLogFault bytes o old new f =
    HasSlices o.tables bytes (λ log. IsIllegalAudit o log old.rest new.rest old.written new.written f)
    ⊎ ((log_of o.tables bytes ≡ RefusedLog f.line f.kind) × IsUntouched old new)

-- They are a log, which is audited for the run; or they have a fault; or no memory was left, and nothing was read and nothing written.
abbrev pub IsAuditOf : List ℕ → Object → Streams → Streams → Ended AuditStop → Type 0
IsAuditOf bytes o old new (Ok done) = HasSlices o.tables bytes (λ log. IsAuditRun log o old new (Ok done))
IsAuditOf bytes o old new (Err (audit.Log f)) = IsLogFault bytes o old new f
IsAuditOf bytes o old new (Err (audit.Run run.Memory)) = IsUntouched old new
IsAuditOf bytes o old new (Err (audit.Run s)) = HasSlices o.tables bytes (λ log. IsAuditRun log o old new (Err (audit.Run s)))

-- ---- the command

-- Both files were had, the object is accepted, and the bytes of the log were audited; or not, and nothing was read and nothing written.
abbrev pub IsAudit : List ℕ → List ℕ → Files → Streams → Streams → Ended (OnObject AuditStop) → Type 0
IsAudit name log shelf old new result = IsOnBoth (λ o bytes. IsAuditOf bytes o old new) (IsUntouched old new) (Some name) (Some log) shelf result

-- ---- of a command

-- The command audits a log for an accepted object, and the log has this fault.
abbrev pub IsLogCause : Option Command → Option Holdings → Streams → Streams → LogFault → Type 0
IsLogCause (Some (Audit name log)) holds old new f = IsAcceptedFile (Some name) holds (λ o. IsFileOf (Some log) holds (λ bytes. IsLogFault bytes o old new f))
IsLogCause _ holds old new f = ⊥
