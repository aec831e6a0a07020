use Rattle.std.proofs.Common.{Option, Ok, Err, refl, sym, ap, ◌∙◌, arith, subst}
use Rattle.htl_top.proofs.Vocabulary.{IsAudited, Values, Event, taken_none, taken_on, taken_more, taken_all, taken_to_line, LosesFront, Gives, Goes, IsAnswer, LosesPiece, at_start, ScriptFault, ScriptStop, streams, IsFaultyRun}
use Rattle.htl_top.proofs.AuditStreaming.{IsAuditHeard, IsAuditOver, audit_start, audit_heard, audit_told_on, audit_told_cut, audit_read_cut, audit_over, audit_faulty, concluded}
use Rattle.htl_top.proofs.Streaming.{rose_since}
use Rattle.htl_top.proofs.audit_play.play_audit.Given as given
use Rattle.htl_top.proofs.audit_play.play_audit.Goals as goal
use Rattle.htl_top.proofs.audit_play.play_audit.Goals.{After-next, In-Ok-Some, In-Ok-None}

pub events-init : goal.events-init
events-init g c = (
  audit_start c.args.t.now c.args.auditor.now c.new-script.result.stream (g.R.Source.rest c.args.input.now) (g.W.Sink.written c.args.out.now) c.requires.follows c.new-script.ensures.stream,
  refl,
  refl,
  subst (λ z. LosesPiece {T = Unit {0}} {E = Unit {0}} at_start z (g.R.Source.rest c.args.input.now) (g.R.Source.rest c.args.input.now) (Ok tt)) (sym c.new-script.ensures.stream)
      (taken_none at_start (g.R.Source.rest c.args.input.now) tt),
  λ ready. absurd (let no = c.new-script.ensures.ready in cc),
)

-- an event was read ..
event_heard_by : (g : given.Over) (c : In-Ok-Some g) → IsAuditHeard c.args.t.now c.args.auditor.now c.events.auditor c.next.new.self.stream (g.R.Source.rest c.args.input.now) (g.R.Source.rest c.next.new.src) (g.W.Sink.written c.args.out.now) (g.W.Sink.written c.events.out) c.in-Ok-Some.event
event_heard_by g c =
    let t = c.args.t.now in
    let a = c.events.script.stream in
    let b = c.next.new.self.stream in
    audit_heard t c.args.auditor.now c.events.auditor c.requires.accepted c.requires.tables a b (g.R.Source.rest c.args.input.now) (g.R.Source.rest c.events.input) (g.R.Source.rest c.next.new.src) (g.W.Sink.written c.args.out.now) (g.W.Sink.written c.events.out) c.in-Ok-Some.event c.events.invariant.0
    (subst (λ (o : Option Event). Gives a.ahead.over b.ahead.over (g.R.Source.rest c.events.input) (g.R.Source.rest c.next.new.src) (IsAnswer t a b (Ok o))) c.in-Ok-Some.field-0-is c.in-Ok-Some.ensures.answer)
    (subst (λ (o : Option Event). Goes t a.here.past b.here.past (Ok o)) c.in-Ok-Some.field-0-is c.in-Ok-Some.ensures.event)

-- .. or the script has ended
script_over_for : (g : given.Over) (c : In-Ok-None g) → IsAuditOver c.args.auditor.now c.events.auditor (g.R.Source.rest c.args.input.now) (g.R.Source.rest c.next.new.src) (g.W.Sink.written c.args.out.now) (g.W.Sink.written c.events.out)
script_over_for g c =
    let t = c.args.t.now in
    let a = c.events.script.stream in
    let b = c.next.new.self.stream in
    audit_over t c.args.auditor.now c.events.auditor c.requires.tables a b (g.R.Source.rest c.args.input.now) (g.R.Source.rest c.events.input) (g.R.Source.rest c.next.new.src) (g.W.Sink.written c.args.out.now) (g.W.Sink.written c.events.out) c.events.invariant.0
    (subst (λ (o : Option Event). Gives a.ahead.over b.ahead.over (g.R.Source.rest c.events.input) (g.R.Source.rest c.next.new.src) (IsAnswer t a b (Ok o))) c.in-Ok-None.field-0-is c.in-Ok-None.ensures.answer)
    (subst (λ (o : Option Event). Goes t a.here.past b.here.past (Ok o)) c.in-Ok-None.field-0-is c.in-Ok-None.ensures.event)

-- what the input lost so far
piece_lost : (g : given.Over) (c : After-next g) → LosesPiece at_start c.next.new.self.stream (g.R.Source.rest c.args.input.now) (g.R.Source.rest c.next.new.src) c.next.result
piece_lost g c =
    taken_more at_start c.events.script.stream c.next.new.self.stream (g.R.Source.rest c.args.input.now) (g.R.Source.rest c.events.input) (g.R.Source.rest c.next.new.src) tt c.next.result c.events.invariant.3 c.next.ensures.taken

input_lost : (g : given.Over) (c : After-next g) → LosesFront 1073742080 (g.R.Source.rest c.args.input.now) (g.R.Source.rest c.next.new.src)
input_lost g c = taken_all c.next.new.self.stream (g.R.Source.rest c.args.input.now) (g.R.Source.rest c.next.new.src) c.next.result (piece_lost g c) 1073742080 (omega arith)

pub tell-requires : goal.tell-requires
tell-requires g c = let h = event_heard_by g (goal.at.tell-requires g c).In-Ok-Some in (h.heard.told, h.follows, h.heard.may)

pub returns-in-Err-clause-answer : goal.returns-in-Err-clause-answer
returns-in-Err-clause-answer g c =
    let h = event_heard_by g (goal.at.returns-in-Err-clause-answer g c).In-Ok-Some in
    let puts = c.in-Err.ensures.text h.heard.told h.follows in (
      rose_since (g.W.Sink.faults c.args.out.now) (g.W.Sink.faults c.events.out) (g.W.Sink.faults c.tell.new.out) c.events.invariant.2 puts.cause.refused,
      audit_told_cut _ _ _ c.requires.accepted c.requires.tables _ _ _ _ _ (g.W.Sink.written c.tell.new.out) (g.W.Sink.faults c.events.out) (g.W.Sink.faults c.tell.new.out) _ h c.in-Err.field-0 c.requires.follows.shown puts,
    )

pub events-preserved : goal.events-preserved
events-preserved g c =
    let h = event_heard_by g (goal.at.events-preserved g c).In-Ok-Some in
    let puts = c.in_default.ensures.text h.heard.told h.follows in
    let gone_before = taken_more at_start c.events.script.stream c.next.new.self.stream (g.R.Source.rest c.args.input.now) (g.R.Source.rest c.events.input) (g.R.Source.rest c.next.new.src) tt (Ok c.in-Ok-Some.field-0) c.events.invariant.3 c.in-Ok-Some.ensures.taken in (
      audit_told_on _ _ _ c.requires.accepted c.requires.tables _ _ _ _ _ (g.W.Sink.written c.tell.new.out) (g.W.Sink.faults c.events.out) (g.W.Sink.faults c.tell.new.out) _ h c.tell.new.auditor c.in_default.field-0 puts
          (c.in_default.ensures.behind h.heard.told h.follows) c.tell.ensures.same,
      c.in-Ok-Some.ensures.kept (λ e. cc) ∙ c.events.invariant.1,
      puts.cause.kept ∙ c.events.invariant.2,
      taken_on at_start c.next.new.self.stream (g.R.Source.rest c.args.input.now) (g.R.Source.rest c.next.new.src) c.in-Ok-Some.field-0 tt gone_before,
      λ ready. c.next.ensures.index,
    )

pub conclude-requires : goal.conclude-requires
conclude-requires g c =
    let over = script_over_for g (goal.at.conclude-requires g c).In-Ok-None in
    (over.front, subst (IsAudited c.events.auditor over.front) (sym over.audited.machine.reading) over.audited)

pub returns-in-Ok-None-clause-answer : goal.returns-in-Ok-None-clause-answer
returns-in-Ok-None-clause-answer g c =
    let a1 = c.events.auditor in
    let over = script_over_for g (goal.at.returns-in-Ok-None-clause-answer g c).In-Ok-None in
    let side = streams g.R.Source.rest g.R.Source.faults g.W.Sink.written g.W.Sink.faults in
    concluded c.args.auditor.now a1 c.requires.accepted c.requires.follows.shown (side c.args.input.now c.args.out.now) (side c.next.new.src c.conclude.new.out) (g.W.Sink.written c.events.out) (g.W.Sink.faults c.events.out) c.events.invariant.2 over c.conclude.result
    (c.conclude.ensures.answer over.front (subst (IsAudited a1 over.front) (sym over.audited.machine.reading) over.audited))

pub returns-in-Err-Script-clause-answer : goal.returns-in-Err-Script-clause-answer
returns-in-Err-Script-clause-answer g c =
    let a0 = c.args.auditor.now in
    let a = c.events.script.stream in
    let b = c.next.new.self.stream in
    subst (λ (f : ScriptFault). IsFaultyRun Values a0.machine.object.tables a0.machine.object (g.R.Source.rest c.args.input.now) (g.R.Source.rest c.next.new.src) (g.W.Sink.written c.args.out.now) (g.W.Sink.written c.events.out) f) (sym c.in-Err-Script.fault-is)
    (audit_faulty c.args.t.now a0 c.events.auditor c.requires.accepted c.requires.tables a b (g.R.Source.rest c.args.input.now) (g.R.Source.rest c.events.input) (g.R.Source.rest c.next.new.src) (g.W.Sink.written c.args.out.now) (g.W.Sink.written c.events.out) c.in-Err-Script.fault c.requires.follows.shown c.events.invariant.0
    (subst (λ (s : ScriptStop). Gives a.ahead.over b.ahead.over (g.R.Source.rest c.events.input) (g.R.Source.rest c.next.new.src) (IsAnswer c.args.t.now a b (Err s))) c.in-Err-Script.field-0-is c.in-Err-Script.ensures.answer)
    (taken_to_line b (g.R.Source.rest c.args.input.now) (g.R.Source.rest c.next.new.src) c.next.result (piece_lost g (goal.at.returns-in-Err-Script-clause-answer g c).After-next) c.in-Err-Script.fault.line
    (c.in-Err-Script.ensures.line c.in-Err-Script.fault (ap (λ (s : ScriptStop). Err s) c.in-Err-Script.field-0-is))))

pub returns-in-Err-Read-clause-answer : goal.returns-in-Err-Read-clause-answer
returns-in-Err-Read-clause-answer g c = (
  rose_since (g.R.Source.faults c.args.input.now) (g.R.Source.faults c.events.input) (g.R.Source.faults c.next.new.src) c.events.invariant.1
      (c.in-Err-Read.ensures.read (ap (λ (s : ScriptStop). Err s) c.in-Err-Read.field-0-is)),
  audit_read_cut c.args.t.now c.args.auditor.now c.events.auditor c.requires.accepted c.requires.tables c.events.script.stream c.next.new.self.stream (g.R.Source.rest c.args.input.now) (g.R.Source.rest c.events.input) (g.R.Source.rest c.next.new.src) (g.W.Sink.written c.args.out.now) (g.W.Sink.written c.events.out) c.requires.follows.shown
      c.events.invariant.0,
)

pub returns-in-Err-clause-taken : goal.returns-in-Err-clause-taken
returns-in-Err-clause-taken g c = input_lost g (goal.at.returns-in-Err-clause-taken g c).After-next

pub returns-in-Ok-None-clause-taken : goal.returns-in-Ok-None-clause-taken
returns-in-Ok-None-clause-taken g c = input_lost g (goal.at.returns-in-Ok-None-clause-taken g c).After-next

pub returns-in-Err-Script-clause-taken : goal.returns-in-Err-Script-clause-taken
returns-in-Err-Script-clause-taken g c = input_lost g (goal.at.returns-in-Err-Script-clause-taken g c).After-next

pub returns-in-Err-Read-clause-taken : goal.returns-in-Err-Read-clause-taken
returns-in-Err-Read-clause-taken g c = input_lost g (goal.at.returns-in-Err-Read-clause-taken g c).After-next
