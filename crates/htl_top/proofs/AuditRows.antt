-- From the answer of `audit` to its rows.
use Rattle.std.proofs.Common.{◌≡◌, ℕ, List, Option, None, Some, subst, inl, inr}
use Rattle.htl_top.proofs.Vocabulary.{LogFault, Values, Rose, Object, Files, Streams, AreFilesOf, IsReadyFile, HasLog, HasSlices, IsAuditOf, IsCutAudit, IsLogCause, IsLogFault, IsUntouched, IsWholeAudit, IsOrMemory, IsAcceptedFile, IsReadyObject, IsFaultyRun, Command, Audit, Outcome, Done, Log, Faulty, Read, Write}
use Rattle.htl_top.proofs.Auditing as audited
use Rattle.htl_top.proofs.{Auditing.AuditAs, Auditing.AuditOf, BothFiles.UnhadAs, Calling.tells, Seen.IsSeen, Stops.must}
use Rattle.htl_top.proofs.AuditScripts as scripts
use Rattle.htl_top.proofs.BothFiles as both
use Rattle.htl_top.specs.{ObjectRows.AuditRows, Stops.Ended, Stops.audit_as, Stops.ended_as, declared.stop.AuditStop.AuditStop}

module _ (shelf : Files) (old new : Streams) (outcome : Outcome) (name log : List ℕ) (call : AuditAs name log shelf old new outcome) where
  -- what was audited, where the outcome isn't one of files that weren't had
  did : (other : Outcome) → outcome ≡ other → (UnhadAs (Some name) (Some log) shelf other → ⊥) → (Fact : Object → List ℕ → Type 0)
      → ((o : Object) (bytes : List ℕ) (r : Ended AuditStop) → other ≡ ended_as audit_as r → IsAuditOf bytes o old new r → Fact o bytes)
      → AreFilesOf (Some name) (Some log) shelf.holds Fact
  did other same had Fact f = elim (subst (λ (o : Outcome). AuditAs name log shelf old new o) same call) [
    | inl a ↦ both.AreFilesOf-map (Some name) (Some log) shelf (λ o bytes. AuditOf old new o bytes other) Fact (λ o bytes d. f o bytes d.result d.is d.came) a
    | inr s ↦ absurd (had s.0)
  ]

  -- a fact of what was cut is one with its cause
  parted : (Rise : Type 0) → AreFilesOf (Some name) (Some log) shelf.holds (λ o bytes. HasSlices o.tables bytes (λ slices. Rise × IsCutAudit o slices old.rest old.written new.written))
      → Rise × IsAcceptedFile (Some name) shelf.holds (λ o. HasLog log shelf.holds o.tables (λ slices. IsCutAudit o slices old.rest old.written new.written))
  parted Rise a = (
    a.fact.fact.fact.0,
    both.AreFilesOf-map (Some name) (Some log) shelf (λ o bytes. HasSlices o.tables bytes (λ slices. Rise × IsCutAudit o slices old.rest old.written new.written))
        (λ o bytes. HasSlices o.tables bytes (λ slices. IsCutAudit o slices old.rest old.written new.written)) (λ o bytes h. record { slices = h.slices; read = h.read; fact = h.fact.1 }) a,
  )

  -- with files that are ready it was done, or there was no memory
  ready : (wanted : Outcome) (o : Object) → IsReadyObject (Some name) shelf.holds shelf.before shelf.after o → (bytes : List ℕ) → IsReadyFile (Some log) shelf.holds shelf.before shelf.after bytes
      → ((r : Ended AuditStop) → IsAuditOf bytes o old new r → IsOrMemory (ended_as audit_as r) wanted) → IsOrMemory outcome wanted
  ready wanted o is bytes file f = elim (both.ready (AuditOf old new) (IsUntouched old new) (Some name) (Some log) shelf o is bytes file.given file.short outcome call) [
    | inl d ↦ must audit_as (IsAuditOf bytes o old new) outcome wanted d f
    | inr m ↦ inr m
  ]

  pub audit_rows : AuditRows name log shelf old new outcome
  audit_rows = record {
    done = λ same. did Done same (λ u. u) (λ o bytes. HasSlices o.tables bytes (λ slices. IsWholeAudit o slices old.rest new.rest old.written new.written))
        (λ o bytes r e is. audited.whole o old new bytes r e is);
    script = λ f same. did (Faulty f) same (λ u. u) (λ o bytes. HasSlices o.tables bytes (λ slices. IsFaultyRun Values o.tables o old.rest new.rest old.written new.written f))
        (λ o bytes r e is. audited.faulty o old new bytes f r e is);
    read = λ same. parted (Rose old.read_faults new.read_faults)
        (did Read same (λ u. u) (λ o bytes. HasSlices o.tables bytes (λ slices. Rose old.read_faults new.read_faults × IsCutAudit o slices old.rest old.written new.written))
        (λ o bytes r e is. audited.read_cut o old new bytes r e is));
    write = λ same. parted (Rose old.write_faults new.write_faults)
        (did Write same (λ u. u) (λ o bytes. HasSlices o.tables bytes (λ slices. Rose old.write_faults new.write_faults × IsCutAudit o slices old.rest old.written new.written))
        (λ o bytes r e is. audited.write_cut o old new bytes r e is));
    long_log = λ bytes is others given long. both.long_second (AuditOf old new) (IsUntouched old new) (Some name) (Some log) shelf bytes is.given others given outcome call is.short long;
    faulty_log = λ o is bytes file f refused. ready (Log f) o is bytes file (scripts.faulty_log o old new bytes f refused);
    bad_script = λ o is bytes file slices read s f events told bad quiet still.
        ready (Faulty f) o is bytes file (λ r a. scripts.bad_script o slices old new s told f events bad quiet still r (scripts.of_slices o old new bytes slices read r a));
    illegal_log = λ o is bytes file slices read s events end told whole f fault quiet still.
        ready (Log f) o is bytes file (λ r a. scripts.illegal_log o slices old new s told events end whole quiet still f fault r (scripts.of_slices o old new bytes slices read r a));
    complete = λ o is bytes file slices read s events end told whole legal quiet still.
        ready Done o is bytes file (λ r a. scripts.legal_log o slices old new s told events end whole quiet still legal r (scripts.of_slices o old new bytes slices read r a));
  }

module _ (shelf : Files) (old new : Streams) where
  -- no other command has this answer
  pub log_cause : (command : Option Command) (f : LogFault) → IsSeen command shelf old new (Log f) → IsLogCause command shelf.holds old new f
  log_cause None f call = let e = call.0 in cc
  log_cause (Some (Audit name log)) f call = elim call [
    | inl a ↦
        both.AreFilesOf-map (Some name) (Some log) shelf (λ o bytes. AuditOf old new o bytes (Log f)) (λ o bytes. IsLogFault bytes o old new f)
        (λ o bytes d. audited.log_fault o old new bytes f d.result d.is d.came) a
    | inr s ↦ absurd s.0
  ]
  log_cause (Some command) f call = tells shelf old new command (Log f) call (λ w. w)
