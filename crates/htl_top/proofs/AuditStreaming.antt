-- From event to event of a script that an auditor is told, and the end of its audit.
use Rattle.std.proofs.Common.{◌≡◌, Bool, true, false, ℕ, suc, List, [], ◌∷◌, ◌++◌, Option, Some, None, Result, Ok, Err, is_some, refl, sym, ap, ◌∙◌, subst, length}
use Rattle.htl_top.proofs.Vocabulary.{StopsAtLine, append_known, append-nil, first_fault_found, legal_without_fault, rounds_same, BeginningJobs, all_rounds, LogFault, Slice, Shown, Values, append_known-more, AppendsPrefix-more, AppendsPrefix, Puts, sense_end, took_end, text_between, before_of, Tables, Event, IsAccepted, Object, EndWith, at_first, past_after, past_of, behind, Ahead, Gives, still, at_start, IsAnswer, Goes, ScriptFault, Past, Streams, IsAuditBehind, IsAuditPlaying, IsAuditTold, IsConcluded, IsAuditRun, IsCutAudit, audit_text, audited_line, audited_text, verdict_text, HaveNoEnd, IsBehind, IsPlaying, text_more, IsFaultyRun, text_before_fault}
use Rattle.htl_audit.specs.{Auditing.Audit, Auditing.AuditFollows, Auditing.IsAudited, Auditing.IsSameAudit, Legal.first_fault, Legal.first_fault_in, Legal.jobs_done}
use Rattle.htl_model.specs.declared.event.Event.TheVariants as event
use Rattle.htl_script.specs.Script.{Script, Whole, Bad, events_of, script_of}
use Rattle.htl_script.specs.declared.fault.ScriptStop.TheVariants as stop
use Rattle.htl_top.proofs.{Playing.past_more, StreamEnd.IsOver, StreamEnd.one_end, Streaming.IsHeard, Streaming.none_ended, Streaming.rose_since, Streaming.whole_text}
use Rattle.htl_top.proofs.Streaming as streaming
use Rattle.htl_top.proofs.StreamEnd as ending
use Rattle.htl_top.specs.{Stops.Ended, declared.stop.AuditStop.AuditStop, declared.stop.RunStop.RunStop}
use Rattle.htl_top.specs.declared.stop.AuditStop.TheVariants as audit

-- ---- the end among the events changes nothing of an audit

rounds_end : (t : Tables) (es : List Event) (end now : ℕ) → all_rounds t (es ++ event.End end ∷ []) now ≡ all_rounds t es now
rounds_end t es end now = rounds_same t (es ++ event.End end ∷ []) es now (λ c u h. sense_end t es end c u) (λ i u. took_end t es end i u)

fault_end : (t : Tables) (es : List Event) (end : ℕ) (log : List Slice) → first_fault t (es ++ event.End end ∷ []) end log ≡ first_fault t es end log
fault_end t es end log = ap (λ (rs : List BeginningJobs). first_fault_in rs (suc end) log) (rounds_end t es end (suc end))

jobs_end : (t : Tables) (es : List Event) (end : ℕ) (log : List Slice) → jobs_done (all_rounds t (es ++ event.End end ∷ []) (suc end)) log ≡ jobs_done (all_rounds t es (suc end)) log
jobs_end t es end log = ap (λ (rs : List BeginningJobs). jobs_done rs log) (rounds_end t es end (suc end))

numbers_end : (t : Tables) (es : List Event) (end : ℕ) (log : List Slice) → audited_text t (es ++ event.End end ∷ []) end log ≡ audited_text t es end log
numbers_end t es end log = ap (λ (n : ℕ). audited_line end n (length log)) (jobs_end t es end log)

-- ---- what an audit writes

verdict_is : (t : Tables) (es : List Event) (end : ℕ) (log : List Slice) → first_fault t es end log ≡ None → verdict_text t es end log ≡ audited_text t es end log
verdict_is t es end log e = ap (λ (o : Option LogFault). elim o as (λ _. List ℕ) [ None ↦ audited_text t es end log | Some f ↦ [] ]) e

module _ (o : Object) (accepted : IsAccepted o) (log : List Slice) where
  -- it begins as a run does
  audit_begins : (given : Script) → ((events : List Event) (end : ℕ) → given ≡ Whole events end → EndWith events end)
      → (back : List ℕ) × (audit_text o log given ≡ text_before_fault o Values (events_of given) ++ back)
  audit_begins (Bad line kind events) last = ([], sym (append-nil (text_before_fault o Values events)))
  audit_begins (Whole events end) last =
      (verdict_text o.tables events end log, ap (λ (bs : List ℕ). bs ++ verdict_text o.tables events end log) (whole_text o Values accepted events end (last events end refl)))

  cut_audit : (told : List Event) (n : Bool) (a : Ahead) (known rest old new : Option (List ℕ)) → Gives false n known rest (λ bytes later. script_of o.tables bytes ≡ behind told (still o.tables a later))
      → AppendsPrefix old new (text_before_fault o Values told) → IsCutAudit o log known old new
  cut_audit told n a known rest old new given part =
      let cut = streaming.cut_text o Values accepted (audit_text o log) audit_begins told n a known rest old new given part in
      record { given = cut.given; script = cut.script; written = cut.written }

-- ---- what one call writes

pub audit_text_at : {T E : Type 0} (a : Audit) (es : List Event) (e : Event) (to : ℕ) (w w1 : Option (List ℕ)) (f f1 : ℕ) (r : Result T E) → AuditFollows a es → e ≡ event.At to
    → Puts w w1 f f1 (text_between a.machine.object es Values a.machine.run_state.reading to) r → Puts w w1 f f1 (text_more a.machine.object a.machine.show es e) r
audit_text_at a es e to w w1 f f1 r follows is puts =
    streaming.text_at a.machine es e to w w1 f f1 r follows.machine is
    (subst (λ (s : Shown). Puts w w1 f f1 (text_between a.machine.object es s a.machine.run_state.reading to) r) (sym follows.shown) puts)

pub audit_text_last : {T E : Type 0} (a : Audit) (es : List Event) (e : Event) (to : ℕ) (w w1 : Option (List ℕ)) (f f1 : ℕ) (r : Result T E) → AuditFollows a es → e ≡ event.End to
    → Puts w w1 f f1 (text_between a.machine.object es Values a.machine.run_state.reading (suc to)) r → Puts w w1 f f1 (text_more a.machine.object a.machine.show es e) r
audit_text_last a es e to w w1 f f1 r follows is puts =
    streaming.text_last a.machine es e to w w1 f f1 r follows.machine is
    (subst (λ (s : Shown). Puts w w1 f f1 (text_between a.machine.object es s a.machine.run_state.reading (suc to)) r) (sym follows.shown) puts)

-- ---- the loop

pub audit_start : (t : Tables) (a : Audit) (s : Ahead) (known w : Option (List ℕ)) → AuditFollows a [] → s ≡ at_start → IsAuditPlaying t a a s known known w w
audit_start t a s known w follows at =
    let p = streaming.playing_start t a.machine s known w follows.machine at in
    record { run = p; told = first p (streaming.playing_start-told t a.machine s known w follows.machine at); log = refl }
  where
    first : (p : IsPlaying t a.machine a.machine s known known w w) → p.told ≡ [] → IsAuditTold a p.told (past_of p.told).end
    first p e = subst (λ (es : List Event). IsAuditTold a es (past_of es).end) (sym e) follows

-- an event was read, and the auditor follows those before it
pub record IsAuditHeard (t : Tables) (a0 a : Audit) (b : Ahead) (known rest w0 w : Option (List ℕ)) (e : Event) : Type 0 where
  pub heard : IsHeard t a0.machine a.machine b known rest w0 w e
  pub follows : AuditFollows a heard.told
  pub log : a.log ≡ a0.log

module _ (t : Tables) (a0 a : Audit) (accepted : IsAccepted a0.machine.object) (tables : t ≡ a0.machine.object.tables) (s b : Ahead) (known rest left w0 w : Option (List ℕ)) where
  pub audit_heard : (e : Event) → IsAuditPlaying t a0 a s known rest w0 w → Gives s.ahead.over b.ahead.over rest left (IsAnswer t s b (Ok (Some e))) → Goes t s.here.past b.here.past (Ok (Some e))
      → IsAuditHeard t a0 a b known left w0 w e
  audit_heard e p answer goes =
      let h = streaming.heard t a0.machine a.machine accepted tables s b known rest left w0 w e p.run answer goes in
      let same = streaming.heard-told t a0.machine a.machine accepted tables s b known rest left w0 w e p.run answer goes in
      let running : (past_of p.run.told).end ≡ None = sym (ap (λ (z : Past). z.end) p.run.past) ∙ goes.0.running in
      record { heard = h; follows = subst (AuditFollows a) (sym same) (subst (IsAuditTold a p.run.told) running p.told); log = p.log }

  -- a line of the script has a fault
  pub audit_faulty : (fault : ScriptFault) → a0.machine.show ≡ Values → IsAuditPlaying t a0 a s known rest w0 w → Gives s.ahead.over b.ahead.over rest left (IsAnswer t s b (Err (stop.Script fault)))
      → StopsAtLine fault.line known left → IsFaultyRun Values a0.machine.object.tables a0.machine.object known left w0 w fault
  audit_faulty fault shown p answer stops =
      subst (λ (x : Shown). IsFaultyRun x a0.machine.object.tables a0.machine.object known left w0 w fault) shown
      (streaming.faulty t a0.machine a.machine accepted tables s b known rest left w0 w fault p.run answer stops)

  -- the input failed
  pub audit_read_cut : a0.machine.show ≡ Values → IsAuditPlaying t a0 a s known rest w0 w → IsCutAudit a0.machine.object a0.log known w0 w
  audit_read_cut shown p =
      let o = a0.machine.object in
      let told = p.run.told in
      cut_audit o accepted a0.log told s.ahead.over s known rest w0 w
      (subst (λ (z : Tables). Gives false s.ahead.over known rest (λ bytes later. script_of z bytes ≡ behind told (still z s later))) tables p.run.script) (
        text_before_fault o Values told,
        ([], sym (append-nil (text_before_fault o Values told))),
        p.run.text ∙ ap (λ (x : Shown). append_known w0 (text_before_fault o x told)) shown,
      )

module _ (t : Tables) (a0 a : Audit) (accepted : IsAccepted a0.machine.object) (tables : t ≡ a0.machine.object.tables) (b : Ahead) (known rest w0 w w1 : Option (List ℕ)) (f f1 : ℕ) (e : Event)
    (h : IsAuditHeard t a0 a b known rest w0 w e) where
  machine_behind : (a1 : Audit) (e : Event) (es : List Event) → IsAuditBehind a1 es e → IsBehind a1.machine es e
  machine_behind a1 (event.At to) es is = is.machine
  machine_behind a1 _ es is = is.machine

  auditor_told : (a1 : Audit) (e : Event) (es : List Event) → HaveNoEnd es → IsAuditBehind a1 es e → IsAuditTold a1 (es ++ e ∷ []) (past_of (es ++ e ∷ [])).end
  auditor_told a1 e es none is = subst (IsAuditTold a1 (es ++ e ∷ [])) (sym (ap (λ (z : Past). z.end) (past_more at_first es e))) (by e is)
    where
      open_end : (past_of es).end ≡ None
      open_end = none_ended at_first es none

      by : (e : Event) → IsAuditBehind a1 es e → IsAuditTold a1 (es ++ e ∷ []) (past_after (past_of es) e).end
      by (event.At to) is = subst (IsAuditTold a1 (es ++ event.At to ∷ [])) (sym open_end) is
      by (event.Sense c y) is = subst (IsAuditTold a1 (es ++ event.Sense c y ∷ [])) (sym open_end) is
      by (event.Took i n) is = subst (IsAuditTold a1 (es ++ event.Took i n ∷ [])) (sym open_end) is
      by (event.End to) is = (es, refl, is)

  pub audit_told_on : {T E : Type 0} (a1 : Audit) (x : T) → Puts {T = T} {E = E} w w1 f f1 (text_more a.machine.object a.machine.show h.heard.told e) (Ok x) → IsAuditBehind a1 h.heard.told e
      → IsSameAudit a a1 → IsAuditPlaying t a0 a1 b known rest w0 w1
  audit_told_on a1 x puts behind_it same =
      let is = machine_behind a1 e h.heard.told behind_it in
      let p = streaming.told_on t a0.machine a.machine accepted tables b known rest w0 w w1 f f1 e h.heard a1.machine x puts is same.run in
      let on = streaming.told_on-told t a0.machine a.machine accepted tables b known rest w0 w w1 f f1 e h.heard a1.machine x puts is same.run in
      record {
        run = p;
        told = subst (λ (es : List Event). IsAuditTold a1 es (past_of es).end) (sym on) (auditor_told a1 e h.heard.told h.heard.none behind_it);
        log = same.log ∙ h.log;
      }

  pub audit_told_cut : {T E : Type 0} (x : E) → a0.machine.show ≡ Values → Puts {T = T} {E = E} w w1 f f1 (text_more a.machine.object a.machine.show h.heard.told e) (Err x)
      → IsCutAudit a0.machine.object a0.log known w0 w1
  audit_told_cut x shown puts =
      cut_audit a0.machine.object accepted a0.log (h.heard.told ++ e ∷ []) b.ahead.over b known rest w0 w1
      (streaming.script_here t a0.machine a.machine accepted tables b known rest w0 w w1 f f1 e h.heard)
      (subst (λ (z : Shown). AppendsPrefix w0 w1 (text_before_fault a0.machine.object z (h.heard.told ++ e ∷ []))) shown
      (streaming.told_part t a0.machine a.machine accepted tables b known rest w0 w w1 f f1 e h.heard x puts))

-- ---- the end

-- the input has ended: the run of the auditor has
pub record IsAuditOver (a0 a : Audit) (known left w0 w : Option (List ℕ)) : Type 0 where
  pub over : IsOver a0.machine a.machine known left w0 w
  pub front : List Event
  pub cut : over.told ≡ front ++ event.End over.end ∷ []
  pub audited : IsAudited a front over.end
  pub log : a.log ≡ a0.log

module _ (t : Tables) (a0 a : Audit) (tables : t ≡ a0.machine.object.tables) (s b : Ahead) (known rest left w0 w : Option (List ℕ)) (p : IsAuditPlaying t a0 a s known rest w0 w)
    (answer : Gives s.ahead.over b.ahead.over rest left (IsAnswer t s b (Ok None))) where
  -- the end among the events told
  ended : (o : Option ℕ) → is_some o ≡ true → IsAuditTold a p.run.told o → (end : ℕ) × (front : List Event) × (p.run.told ≡ front ++ event.End end ∷ []) × IsAudited a front end
  ended None some h = absurd (let z : ⊥ = cc in z)
  ended (Some end) some h = (end, h.0, h.1, h.2)

  pub audit_over : Goes t s.here.past b.here.past (Ok None) → IsAuditOver a0 a known left w0 w
  audit_over goes =
      let e = ended (past_of p.run.told).end (subst (λ (z : Past). is_some z.end ≡ true) (goes.0 ∙ p.run.past) goes.1) p.told in
      let o = ending.over t a0.machine a.machine tables s b known rest left w0 w p.run answer goes in
      let same = ending.over-told t a0.machine a.machine tables s b known rest left w0 w p.run answer goes in
      let last = o.last.last in
      let one = one_end e.1 last.0 o.told e.0 o.end (same ∙ e.2) last.1 in
      record {
        over = o;
        front = e.1;
        cut = same ∙ e.2 ∙ ap (λ (n : ℕ). e.1 ++ event.End n ∷ []) one.1;
        audited = subst (λ (n : ℕ). IsAudited a e.1 n) one.1 e.3;
        log = p.log;
      }

-- ---- the verdict

module _ (a0 a : Audit) (accepted : IsAccepted a0.machine.object) (shown : a0.machine.show ≡ Values) (old new : Streams) (w : Option (List ℕ)) (f : ℕ) (still : f ≡ old.write_faults)
    (h : IsAuditOver a0 a old.rest new.rest old.written w) where
  reading_is : a.machine.run_state.reading ≡ h.over.end
  reading_is = h.audited.machine.reading

  -- the first fault is that of the whole script's run
  fault_there : first_fault a.machine.object.tables h.front a.machine.run_state.reading a.log ≡ first_fault a0.machine.object.tables h.over.told h.over.end a0.log
  fault_there =
      ap (λ (p : Object). first_fault p.tables h.front a.machine.run_state.reading a.log) h.over.same.object
      ∙ ap (λ (n : ℕ). first_fault a0.machine.object.tables h.front n a.log) reading_is
      ∙ ap (λ (log : List Slice). first_fault a0.machine.object.tables h.front h.over.end log) h.log
      ∙ sym (fault_end a0.machine.object.tables h.front h.over.end a0.log)
      ∙ ap (λ (es : List Event). first_fault a0.machine.object.tables es h.over.end a0.log) (sym h.cut)

  -- and so are the numbers
  text_there : audited_text a.machine.object.tables h.front a.machine.run_state.reading a.log ≡ audited_text a0.machine.object.tables h.over.told h.over.end a0.log
  text_there =
      ap (λ (p : Object). audited_text p.tables h.front a.machine.run_state.reading a.log) h.over.same.object
      ∙ ap (λ (n : ℕ). audited_text a0.machine.object.tables h.front n a.log) reading_is
      ∙ ap (λ (log : List Slice). audited_text a0.machine.object.tables h.front h.over.end log) h.log
      ∙ sym (numbers_end a0.machine.object.tables h.front h.over.end a0.log)
      ∙ ap (λ (es : List Event). audited_text a0.machine.object.tables es h.over.end a0.log) (sym h.cut)

  lines : w ≡ append_known old.written (before_of a0.machine.object h.over.told Values (suc h.over.end))
  lines =
      h.over.text ∙ ap (λ (x : Shown). append_known old.written (text_before_fault a0.machine.object x h.over.told)) shown
      ∙ ap (append_known old.written) (sym (whole_text a0.machine.object Values accepted h.over.told h.over.end h.over.last.last))

  cut_line : first_fault a0.machine.object.tables h.over.told h.over.end a0.log ≡ None → AppendsPrefix w new.written (audited_text a.machine.object.tables h.front a.machine.run_state.reading a.log)
      → AppendsPrefix old.written new.written (audit_text a0.machine.object a0.log (Whole h.over.told h.over.end))
  cut_line none part =
      let o = a0.machine.object in
      let first = before_of o h.over.told Values (suc h.over.end) in
      let second = audited_text o.tables h.over.told h.over.end a0.log in
      let whole : first ++ (second ++ []) ≡ first ++ verdict_text o.tables h.over.told h.over.end a0.log =
      ap (λ (bs : List ℕ). first ++ bs) (append-nil second ∙ sym (verdict_is o.tables h.over.told h.over.end a0.log none)) in
      subst (AppendsPrefix old.written new.written) whole (AppendsPrefix-more old.written w new.written first second [] lines (subst (AppendsPrefix w new.written) text_there part))

  pub concluded : (r : Ended AuditStop) → IsConcluded a.machine.object.tables h.front a.machine.run_state.reading a.log w new.written f new.write_faults r → IsAuditRun a0.log a0.machine.object old new r
  concluded (Ok done) c = record {
    events = h.over.told;
    end = h.over.end;
    script = h.over.script;
    read = h.over.read;
    legal = (legal_without_fault a0.machine.object.tables h.over.told h.over.end a0.log).0 (sym fault_there ∙ c.0);
    written =
        append_known-more old.written w new.written (before_of a0.machine.object h.over.told Values (suc h.over.end)) (audited_text a0.machine.object.tables h.over.told h.over.end a0.log) lines
        (c.1 ∙ ap (append_known w) text_there);
  }
  concluded (Err (audit.Log g)) c = record {
    events = h.over.told;
    end = h.over.end;
    script = h.over.script;
    read = h.over.read;
    fault = (first_fault_found a0.machine.object.tables h.over.told h.over.end a0.log g).0 (sym fault_there ∙ c.0);
    written = c.1 ∙ lines;
  }
  concluded (Err (audit.Run s)) c =
      subst (λ (x : RunStop). IsAuditRun a0.log a0.machine.object old new (Err (audit.Run x))) (sym c.0)
      (rose_since old.write_faults f new.write_faults still c.1, record { given = Whole h.over.told h.over.end; script = h.over.script; written = cut_line (sym fault_there ∙ c.2) c.3 })
