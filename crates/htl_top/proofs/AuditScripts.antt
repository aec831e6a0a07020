-- What an audit comes to of a log and a script that are given.
use Rattle.std.proofs.Common.{◌≡◌, ℕ, List, Some, Ok, Err, refl, sym, ap, ◌∙◌, subst, inl, inr}
use Rattle.htl_top.proofs.Vocabulary.{legal_without_fault, one_first_fault, IsFirstFault, IsLegal, LogOf, ReadLog, RefusedLog, log_of, LogFault, LogKind, Slice, Rose, Values, Event, Object, Whole, script_of, ScriptFault, Streams, HasSlices, IsAuditOf, IsAuditRun, IsOrMemory, IsWhole, IsBad, Done, Log, Faulty}
use Rattle.htl_top.proofs.Running as runs
use Rattle.htl_top.specs.{Stops.Ended, Stops.audit_as, Stops.ended_as, declared.stop.AuditStop.AuditStop}
use Rattle.htl_top.specs.declared.stop.AuditStop.TheVariants as stop
use Rattle.htl_top.specs.declared.stop.RunStop.TheVariants as running

-- ---- the bytes of a log

read_or_refused : (l : LogOf) (slices : List Slice) (line : ℕ) (k : LogKind) → l ≡ ReadLog slices → l ≡ RefusedLog line k → ⊥
read_or_refused l slices line k p q = cc

one_read : (l : LogOf) (slices others : List Slice) → l ≡ ReadLog slices → l ≡ ReadLog others → slices ≡ others
one_read l slices others p q = cc

same_refusal : (line other : ℕ) (k j : LogKind) → RefusedLog line k ≡ RefusedLog other j → (line ≡ other) × (k ≡ j)
same_refusal line other k j e = (cc, cc)

one_refused : (l : LogOf) (f g : LogFault) → l ≡ RefusedLog f.line f.kind → l ≡ RefusedLog g.line g.kind → f ≡ g
one_refused l f g p q =
    let same = same_refusal f.line g.line f.kind g.kind (sym p ∙ q) in
    let make : ℕ → LogKind → LogFault = λ line kind. record { line = line; kind = kind } in
    ap (λ (line : ℕ). make line f.kind) same.0 ∙ ap (λ (kind : LogKind). make g.line kind) same.1

module _ (o : Object) (old new : Streams) (bytes : List ℕ) where
  -- a line of them is refused
  pub faulty_log : (f : LogFault) → log_of o.tables bytes ≡ RefusedLog f.line f.kind → (r : Ended AuditStop) → IsAuditOf bytes o old new r → IsOrMemory (ended_as audit_as r) (Log f)
  faulty_log f refused (Ok done) is = absurd (read_or_refused (log_of o.tables bytes) is.slices f.line f.kind is.read refused)
  faulty_log f refused (Err (stop.Log g)) is = elim is [
    | inl h ↦ absurd (read_or_refused (log_of o.tables bytes) h.slices f.line f.kind h.read refused)
    | inr r ↦ inl (ap (λ (h : LogFault). Log h) (one_refused (log_of o.tables bytes) g f r.0 refused))
  ]
  faulty_log f refused (Err (stop.Run running.Memory)) is = inr refl
  faulty_log f refused (Err (stop.Run _)) is = absurd (read_or_refused (log_of o.tables bytes) is.slices f.line f.kind is.read refused)

  -- they are a log
  module _ (slices : List Slice) (read : log_of o.tables bytes ≡ ReadLog slices) where
    same_log : (r : Ended AuditStop) → HasSlices o.tables bytes (λ log. IsAuditRun log o old new r) → IsAuditRun slices o old new r
    same_log r h = subst (λ (log : List Slice). IsAuditRun log o old new r) (one_read (log_of o.tables bytes) h.slices slices h.read read) h.fact

    pub of_slices : (r : Ended AuditStop) → IsAuditOf bytes o old new r → IsAuditRun slices o old new r
    of_slices (Ok done) is = same_log (Ok done) is
    of_slices (Err (stop.Log f)) is = elim is [ inl h ↦ same_log (Err (stop.Log f)) h | inr r ↦ absurd (read_or_refused (log_of o.tables bytes) slices f.line f.kind read r.0) ]
    of_slices (Err (stop.Run running.Memory)) is = is
    of_slices (Err (stop.Run (running.Script f))) is = same_log (Err (stop.Run (running.Script f))) is
    of_slices (Err (stop.Run running.Read)) is = same_log (Err (stop.Run running.Read)) is
    of_slices (Err (stop.Run running.Write)) is = same_log (Err (stop.Run running.Write)) is

-- ---- the script

same_whole : (events others : List Event) (end last : ℕ) → Whole events end ≡ Whole others last → (events ≡ others) × (end ≡ last)
same_whole events others end last e = (cc, cc)

module _ (o : Object) (log : List Slice) (old new : Streams) (script : List ℕ) (told : old.rest ≡ Some script) where
  -- a whole script is what was given
  whole_script : (events others : List Event) (end last : ℕ) → IsWhole o.tables script events end → IsWhole o.tables script others last → (events ≡ others) × (end ≡ last)
  whole_script events others end last p q = same_whole events others end last (sym p ∙ q)

  pub bad_script : (f : ScriptFault) (events : List Event) → IsBad o.tables script f events → (Rose old.read_faults new.read_faults → ⊥)
      → (Rose old.write_faults new.write_faults → ⊥) → (r : Ended AuditStop) → IsAuditRun log o old new r → IsOrMemory (ended_as audit_as r) (Faulty f)
  bad_script f events bad quiet still (Ok done) run =
      absurd
      (runs.whole_or_bad (script_of o.tables script) run.events events run.end f.line f.kind (runs.given Values o.tables o old new script told (λ s. IsWhole o.tables s run.events run.end) run.script)
      bad)
  bad_script f events bad quiet still (Err (stop.Log g)) run =
      absurd
      (runs.whole_or_bad (script_of o.tables script) run.events events run.end f.line f.kind (runs.given Values o.tables o old new script told (λ s. IsWhole o.tables s run.events run.end) run.script)
      bad)
  bad_script f events bad quiet still (Err (stop.Run (running.Script g))) run =
      inl
      (ap (λ (h : ScriptFault). Faulty h)
      (runs.one_bad (script_of o.tables script) g f run.events events (runs.given Values o.tables o old new script told (λ s. IsBad o.tables s g run.events) run.script) bad))
  bad_script f events bad quiet still (Err (stop.Run running.Read)) run = absurd (quiet run.0)
  bad_script f events bad quiet still (Err (stop.Run running.Write)) run = absurd (still run.0)
  bad_script f events bad quiet still (Err (stop.Run running.Memory)) run = inr refl

  module _ (events : List Event) (end : ℕ) (whole : IsWhole o.tables script events end) (quiet : Rose old.read_faults new.read_faults → ⊥) (still : Rose old.write_faults new.write_faults → ⊥) where
    not_faulty : (g : ScriptFault) → IsAuditRun log o old new (Err (stop.Run (running.Script g))) → ⊥
    not_faulty g run =
        runs.whole_or_bad (script_of o.tables script) events run.events end g.line g.kind whole (runs.given Values o.tables o old new script told (λ s. IsBad o.tables s g run.events) run.script)

    -- the audit is that of the script
    legal_for : IsAuditRun log o old new (Ok tt) → IsLegal o.tables events end log
    legal_for run =
        let same = whole_script run.events events run.end end (runs.given Values o.tables o old new script told (λ s. IsWhole o.tables s run.events run.end) run.script) whole in
        subst (λ (n : ℕ). IsLegal o.tables events n log) same.1 (subst (λ (es : List Event). IsLegal o.tables es run.end log) same.0 run.legal)

    fault_for : (g : LogFault) → IsAuditRun log o old new (Err (stop.Log g)) → IsFirstFault o.tables events end log g
    fault_for g run =
        let same = whole_script run.events events run.end end (runs.given Values o.tables o old new script told (λ s. IsWhole o.tables s run.events run.end) run.script) whole in
        subst (λ (n : ℕ). IsFirstFault o.tables events n log g) same.1 (subst (λ (es : List Event). IsFirstFault o.tables es run.end log g) same.0 run.fault)

    pub illegal_log : (f : LogFault) → IsFirstFault o.tables events end log f → (r : Ended AuditStop) → IsAuditRun log o old new r → IsOrMemory (ended_as audit_as r) (Log f)
    illegal_log f fault (Ok done) run = absurd ((legal_without_fault o.tables events end log).1 (legal_for run) f fault)
    illegal_log f fault (Err (stop.Log g)) run = inl (ap (λ (h : LogFault). Log h) (one_first_fault o.tables events end log g f (fault_for g run) fault))
    illegal_log f fault (Err (stop.Run (running.Script g))) run = absurd (not_faulty g run)
    illegal_log f fault (Err (stop.Run running.Read)) run = absurd (quiet run.0)
    illegal_log f fault (Err (stop.Run running.Write)) run = absurd (still run.0)
    illegal_log f fault (Err (stop.Run running.Memory)) run = inr refl

    pub legal_log : IsLegal o.tables events end log → (r : Ended AuditStop) → IsAuditRun log o old new r → IsOrMemory (ended_as audit_as r) Done
    legal_log legal (Ok done) run = inl refl
    legal_log legal (Err (stop.Log g)) run = absurd ((legal_without_fault o.tables events end log).1 legal g (fault_for g run))
    legal_log legal (Err (stop.Run (running.Script g))) run = absurd (not_faulty g run)
    legal_log legal (Err (stop.Run running.Read)) run = absurd (quiet run.0)
    legal_log legal (Err (stop.Run running.Write)) run = absurd (still run.0)
    legal_log legal (Err (stop.Run running.Memory)) run = inr refl
