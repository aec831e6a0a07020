-- What `audit` came to, by its outcome, its files and what it does with an accepted object.
use Rattle.std.proofs.Common.{◌≡◌, ◌⊎◌, ℕ, suc, Bool, true, false, cond, not, ◌&&◌, List, [], ◌∷◌, ◌++◌, take, Some, None, Ok, Err, refl, sym, subst, inl, inr}
use Rattle.htl_top.proofs.Vocabulary.{IsFirstFault, IsFirstFaultIn, BeginningJobs, all_rounds, any_job, is_free, slice_is_out_of_order, is_over, lies_in, line_fault, LogFault, LogKind, Slice, Values, Rose, Tables, Event, Object, ScriptFault, Files, Streams, IsBeforeRun, IsBeforeScript, IsOfReading, HasSlices, IsAudit, IsAuditOf, IsCutAudit, IsLogFault, IsUntouched, IsWholeAudit, IsFaultyRun, Outcome, Done, Log, Faulty, Read, Write, Memory}
use Rattle.htl_audit.specs.declared.slice.LogKind.TheVariants as kind
use Rattle.htl_top.proofs.BothFiles.{BothAs, UnhadAs, both_as}
use Rattle.htl_top.specs.{Stops.Came, Stops.Ended, Stops.audit_as, Stops.ended_as, Stops.object_as, declared.stop.AuditStop.AuditStop}
use Rattle.htl_top.specs.declared.stop.AuditStop.TheVariants as stop
use Rattle.htl_top.specs.declared.stop.RunStop.TheVariants as running

-- ---- the first fault of an audit isn't one of reading

line_kinds : (a b c d : Bool) (k : LogKind) → cond a (Some kind.Order) (cond b (Some kind.Outside) (cond c (Some kind.Over) (cond d (Some kind.Before) None))) ≡ Some k → IsOfReading k → ⊥
line_kinds true b c d k e is = subst IsOfReading (let z : k ≡ kind.Order = cc in z) is
line_kinds false true c d k e is = subst IsOfReading (let z : k ≡ kind.Outside = cc in z) is
line_kinds false false true d k e is = subst IsOfReading (let z : k ≡ kind.Over = cc in z) is
line_kinds false false false true k e is = subst IsOfReading (let z : k ≡ kind.Before = cc in z) is
line_kinds false false false false k e is = absurd (let z : ⊥ = cc in z)

line_kind : (rounds : List BeginningJobs) (now : ℕ) (log : List Slice) (x : Slice) (k : LogKind) → line_fault rounds now log x ≡ Some k → IsOfReading k → ⊥
line_kind rounds now log x k e is =
    line_kinds (slice_is_out_of_order now log x) (not (any_job (λ r j. lies_in r j.1 x) rounds)) (any_job (λ r j. lies_in r j.1 x && is_over r (log ++ x ∷ []) j) rounds)
    (any_job (λ r j. lies_in r j.1 x && not (is_free r log j.1)) rounds) k e is

fault_kind : (rounds : List BeginningJobs) (now : ℕ) (log : List Slice) (f : LogFault) → IsFirstFaultIn rounds now log f → IsOfReading f.kind → ⊥
fault_kind rounds now log f (inl r) is = line_kind rounds now (take r.place log) r.slice f.kind r.kind is
fault_kind rounds now log f (inr r) is = subst IsOfReading r.kind is

pub not_of_reading : (t : Tables) (es : List Event) (end : ℕ) (log : List Slice) (f : LogFault) → IsFirstFault t es end log f → IsOfReading f.kind → ⊥
not_of_reading t es end log f fault is = fault_kind (all_rounds t es (suc end)) (suc end) log f fault is

-- ---- by outcomes

-- what was done with an accepted object and the bytes of a log, by its outcome
abbrev pub AuditOf : Streams → Streams → Object → List ℕ → Outcome → Type 0
AuditOf old new o bytes outcome = Came audit_as (IsAuditOf bytes o old new) outcome

-- the command
abbrev pub AuditAs : List ℕ → List ℕ → Files → Streams → Streams → Outcome → Type 0
AuditAs name log shelf old new outcome = BothAs (AuditOf old new) (IsUntouched old new) (Some name) (Some log) shelf outcome

pub seen_audit : (name log : List ℕ) (shelf : Files) (old new : Streams) (outcome : Outcome) → Came (object_as audit_as) (IsAudit name log shelf old new) outcome → AuditAs name log shelf old new outcome
seen_audit name log shelf old new outcome call =
    both_as AuditStop audit_as (λ o bytes. IsAuditOf bytes o old new) (AuditOf old new) (IsUntouched old new) (Some name) (Some log) shelf
    (λ o bytes r d. record { result = r; is = refl; came = d }) outcome call

-- outcomes that an accepted object with a log may have
abbrev pub IsOfAudit : Outcome → Type 0
IsOfAudit Done = Unit {0}
IsOfAudit (Log f) = Unit {0}
IsOfAudit (Faulty f) = Unit {0}
IsOfAudit Read = Unit {0}
IsOfAudit Write = Unit {0}
IsOfAudit Memory = Unit {0}
IsOfAudit _ = ⊥

ended_audit : (r : Ended AuditStop) → IsOfAudit (ended_as audit_as r)
ended_audit (Ok done) = tt
ended_audit (Err (stop.Log f)) = tt
ended_audit (Err (stop.Run (running.Script f))) = tt
ended_audit (Err (stop.Run running.Read)) = tt
ended_audit (Err (stop.Run running.Write)) = tt
ended_audit (Err (stop.Run running.Memory)) = tt

module _ (o : Object) (old new : Streams) (bytes : List ℕ) where
  -- ---- what is told before anything is read leaves the input and the output as they were

  unread_by : (r : Ended AuditStop) → IsAuditOf bytes o old new r → IsBeforeScript (ended_as audit_as r) → new.rest ≡ old.rest
  unread_by (Err (stop.Log f)) is early = elim is [ inl h ↦ absurd (not_of_reading o.tables h.fact.events h.fact.end h.slices f h.fact.fault early) | inr r ↦ r.1.rest ]
  unread_by (Err (stop.Run running.Memory)) is early = absurd early
  unread_by _ is early = absurd early

  unwritten_by : (r : Ended AuditStop) → IsAuditOf bytes o old new r → IsBeforeRun (ended_as audit_as r) → new.written ≡ old.written
  unwritten_by (Err (stop.Log f)) is early = elim is [ inl h ↦ absurd (not_of_reading o.tables h.fact.events h.fact.end h.slices f h.fact.fault early) | inr r ↦ r.1.written ]
  unwritten_by (Err (stop.Run running.Memory)) is early = is.written
  unwritten_by _ is early = absurd early

  -- ---- what each outcome tells

  memory_by : (r : Ended AuditStop) → Memory ≡ ended_as audit_as r → IsAuditOf bytes o old new r → IsUntouched old new
  memory_by (Err (stop.Run running.Memory)) e is = is
  memory_by (Err (stop.Log f)) e is = absurd (let p = e in cc)
  memory_by _ e is = absurd (let p = e in cc)

  pub whole : (r : Ended AuditStop) → Done ≡ ended_as audit_as r → IsAuditOf bytes o old new r
      → HasSlices o.tables bytes (λ log. IsWholeAudit o log old.rest new.rest old.written new.written)
  whole (Ok done) e is = is
  whole (Err (stop.Run running.Memory)) e is = absurd (let p = e in cc)
  whole _ e is = absurd (let p = e in cc)

  pub faulty : (f : ScriptFault) (r : Ended AuditStop) → Faulty f ≡ ended_as audit_as r → IsAuditOf bytes o old new r
      → HasSlices o.tables bytes (λ log. IsFaultyRun Values o.tables o old.rest new.rest old.written new.written f)
  faulty f (Err (stop.Run (running.Script g))) e is =
      let same : g ≡ f = let p = e in cc in
      subst (λ (h : ScriptFault). HasSlices o.tables bytes (λ log. IsFaultyRun Values o.tables o old.rest new.rest old.written new.written h)) same is
  faulty f (Err (stop.Log g)) e is = absurd (let p = e in cc)
  faulty f _ e is = absurd (let p = e in cc)

  pub read_cut : (r : Ended AuditStop) → Read ≡ ended_as audit_as r → IsAuditOf bytes o old new r
      → HasSlices o.tables bytes (λ log. Rose old.read_faults new.read_faults × IsCutAudit o log old.rest old.written new.written)
  read_cut (Err (stop.Run running.Read)) e is = is
  read_cut (Err (stop.Log f)) e is = absurd (let p = e in cc)
  read_cut _ e is = absurd (let p = e in cc)

  pub write_cut : (r : Ended AuditStop) → Write ≡ ended_as audit_as r → IsAuditOf bytes o old new r
      → HasSlices o.tables bytes (λ log. Rose old.write_faults new.write_faults × IsCutAudit o log old.rest old.written new.written)
  write_cut (Err (stop.Run running.Write)) e is = is
  write_cut (Err (stop.Log f)) e is = absurd (let p = e in cc)
  write_cut _ e is = absurd (let p = e in cc)

  pub log_fault : (f : LogFault) (r : Ended AuditStop) → Log f ≡ ended_as audit_as r → IsAuditOf bytes o old new r → IsLogFault bytes o old new f
  log_fault f (Err (stop.Log g)) e is =
      let same : g ≡ f = let p = e in cc in
      subst (λ (h : LogFault). IsLogFault bytes o old new h) same is
  log_fault f (Err (stop.Run running.Memory)) e is = absurd (let p = e in cc)
  log_fault f _ e is = absurd (let p = e in cc)

-- ---- of files

module _ (name log : List ℕ) (shelf : Files) (old new : Streams) where
  -- an outcome that no audit has
  pub stopped : (outcome : Outcome) → AuditAs name log shelf old new outcome → (IsOfAudit outcome → ⊥) → UnhadAs (Some name) (Some log) shelf outcome
  stopped outcome audit none = elim audit [
    | inl a ↦ absurd (none (subst IsOfAudit (sym a.fact.fact.is) (ended_audit a.fact.fact.result)))
    | inr s ↦ s.0
  ]

  pub unread : (outcome : Outcome) → AuditAs name log shelf old new outcome → IsBeforeScript outcome → new.rest ≡ old.rest
  unread outcome audit early = elim audit [ inl a ↦ unread_by a.object old new a.fact.bytes a.fact.fact.result a.fact.fact.came (subst IsBeforeScript a.fact.fact.is early) | inr s ↦ s.1.rest ]

  pub unwritten : (outcome : Outcome) → AuditAs name log shelf old new outcome → IsBeforeRun outcome → new.written ≡ old.written
  unwritten outcome audit early = elim audit [ inl a ↦ unwritten_by a.object old new a.fact.bytes a.fact.fact.result a.fact.fact.came (subst IsBeforeRun a.fact.fact.is early) | inr s ↦ s.1.written ]

  pub memory_unread : AuditAs name log shelf old new Memory → new.rest ≡ old.rest
  memory_unread audit = elim audit [ inl a ↦ (memory_by a.object old new a.fact.bytes a.fact.fact.result a.fact.fact.is a.fact.fact.came).rest | inr s ↦ s.1.rest ]
