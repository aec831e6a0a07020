use Rattle.std.proofs.Common.{Option, Ok, Err, refl, sym, ap, ◌∙◌, arith, subst}
use Rattle.htl_top.proofs.Vocabulary.{Event, taken_none, taken_on, taken_more, taken_all, taken_to_line, LosesFront, Gives, Goes, IsAnswer, LosesPiece, at_start, ScriptFault, ScriptStop, IsFaultyRun}
use Rattle.htl_top.proofs.StreamEnd.{IsOver, over, over_done, over_cut}
use Rattle.htl_top.proofs.Streaming.{IsHeard, playing_start, heard, told_on, told_cut, read_cut, faulty, rose_since}
use Rattle.htl_top.proofs.play.play.Given as given
use Rattle.htl_top.proofs.play.play.Goals as goal
use Rattle.htl_top.proofs.play.play.Goals.{After-next, In-Ok-Some, In-Ok-None, in-Ok, in-Err-write_totals}

pub events-init : goal.events-init
events-init g c = (
  playing_start c.args.t.now c.args.machine.now c.new-script.result.stream (g.R.Source.rest c.args.input.now) (g.W.Sink.written c.args.out.now) c.requires.follows c.new-script.ensures.stream,
  refl,
  refl,
  subst (λ z. LosesPiece {T = Unit {0}} {E = Unit {0}} at_start z (g.R.Source.rest c.args.input.now) (g.R.Source.rest c.args.input.now) (Ok tt)) (sym c.new-script.ensures.stream)
      (taken_none at_start (g.R.Source.rest c.args.input.now) tt),
  λ ready. absurd (let no = c.new-script.ensures.ready in cc),
)

-- an event was read ..
event_heard : (g : given.Over) (c : In-Ok-Some g) → IsHeard c.args.t.now c.args.machine.now c.events.machine c.next.new.self.stream (g.R.Source.rest c.args.input.now) (g.R.Source.rest c.next.new.src) (g.W.Sink.written c.args.out.now) (g.W.Sink.written c.events.out) c.in-Ok-Some.event
event_heard g c =
    let t = c.args.t.now in
    let a = c.events.script.stream in
    let b = c.next.new.self.stream in
    heard t c.args.machine.now c.events.machine c.requires.accepted c.requires.tables a b (g.R.Source.rest c.args.input.now) (g.R.Source.rest c.events.input) (g.R.Source.rest c.next.new.src) (g.W.Sink.written c.args.out.now) (g.W.Sink.written c.events.out) c.in-Ok-Some.event c.events.invariant.0
    (subst (λ (o : Option Event). Gives a.ahead.over b.ahead.over (g.R.Source.rest c.events.input) (g.R.Source.rest c.next.new.src) (IsAnswer t a b (Ok o))) c.in-Ok-Some.field-0-is c.in-Ok-Some.ensures.answer)
    (subst (λ (o : Option Event). Goes t a.here.past b.here.past (Ok o)) c.in-Ok-Some.field-0-is c.in-Ok-Some.ensures.event)

-- .. or the script has ended
script_over : (g : given.Over) (c : In-Ok-None g) → IsOver c.args.machine.now c.events.machine (g.R.Source.rest c.args.input.now) (g.R.Source.rest c.next.new.src) (g.W.Sink.written c.args.out.now) (g.W.Sink.written c.events.out)
script_over g c =
    let t = c.args.t.now in
    let a = c.events.script.stream in
    let b = c.next.new.self.stream in
    over t c.args.machine.now c.events.machine c.requires.tables a b (g.R.Source.rest c.args.input.now) (g.R.Source.rest c.events.input) (g.R.Source.rest c.next.new.src) (g.W.Sink.written c.args.out.now) (g.W.Sink.written c.events.out) c.events.invariant.0
    (subst (λ (o : Option Event). Gives a.ahead.over b.ahead.over (g.R.Source.rest c.events.input) (g.R.Source.rest c.next.new.src) (IsAnswer t a b (Ok o))) c.in-Ok-None.field-0-is c.in-Ok-None.ensures.answer)
    (subst (λ (o : Option Event). Goes t a.here.past b.here.past (Ok o)) c.in-Ok-None.field-0-is c.in-Ok-None.ensures.event)

-- what the input lost so far
piece_lost : (g : given.Over) (c : After-next g) → LosesPiece at_start c.next.new.self.stream (g.R.Source.rest c.args.input.now) (g.R.Source.rest c.next.new.src) c.next.result
piece_lost g c =
    taken_more at_start c.events.script.stream c.next.new.self.stream (g.R.Source.rest c.args.input.now) (g.R.Source.rest c.events.input) (g.R.Source.rest c.next.new.src) tt c.next.result c.events.invariant.3 c.next.ensures.taken

input_lost : (g : given.Over) (c : After-next g) → LosesFront 1073742080 (g.R.Source.rest c.args.input.now) (g.R.Source.rest c.next.new.src)
input_lost g c = taken_all c.next.new.self.stream (g.R.Source.rest c.args.input.now) (g.R.Source.rest c.next.new.src) c.next.result (piece_lost g c) 1073742080 (omega arith)

pub tell-requires : goal.tell-requires
tell-requires g c = let h = event_heard g (goal.at.tell-requires g c).In-Ok-Some in (h.told, h.follows, h.may)

pub returns-in-Err-clause-answer : goal.returns-in-Err-clause-answer
returns-in-Err-clause-answer g c =
    let h = event_heard g (goal.at.returns-in-Err-clause-answer g c).In-Ok-Some in
    let puts = c.in-Err.ensures.text h.told h.follows in (
      rose_since (g.W.Sink.faults c.args.out.now) (g.W.Sink.faults c.events.out) (g.W.Sink.faults c.tell.new.out) c.events.invariant.2 puts.cause.refused,
      told_cut _ _ _ c.requires.accepted c.requires.tables _ _ _ _ _ (g.W.Sink.written c.tell.new.out) (g.W.Sink.faults c.events.out) (g.W.Sink.faults c.tell.new.out) _ h c.in-Err.field-0 puts,
    )

pub events-preserved : goal.events-preserved
events-preserved g c =
    let h = event_heard g (goal.at.events-preserved g c).In-Ok-Some in
    let puts = c.in_default.ensures.text h.told h.follows in
    let gone_before = taken_more at_start c.events.script.stream c.next.new.self.stream (g.R.Source.rest c.args.input.now) (g.R.Source.rest c.events.input) (g.R.Source.rest c.next.new.src) tt (Ok c.in-Ok-Some.field-0) c.events.invariant.3 c.in-Ok-Some.ensures.taken in (
      told_on _ _ _ c.requires.accepted c.requires.tables _ _ _ _ _ (g.W.Sink.written c.tell.new.out) (g.W.Sink.faults c.events.out) (g.W.Sink.faults c.tell.new.out) _ h c.tell.new.machine c.in_default.field-0 puts
          (c.in_default.ensures.behind h.told h.follows) c.tell.ensures.same,
      c.in-Ok-Some.ensures.kept (λ e. cc) ∙ c.events.invariant.1,
      puts.cause.kept ∙ c.events.invariant.2,
      taken_on at_start c.next.new.self.stream (g.R.Source.rest c.args.input.now) (g.R.Source.rest c.next.new.src) c.in-Ok-Some.field-0 tt gone_before,
      λ ready. c.next.ensures.index,
    )

pub returns-in-Ok-None-clause-answer : goal.returns-in-Ok-None-clause-answer
returns-in-Ok-None-clause-answer g c =
    let h = script_over g (goal.at.returns-in-Ok-None-clause-answer g c).In-Ok-None in
    elim c.match-write_totals.branch [
      | in-Ok w ↦ rw w.result-is (over_done _ _ _ _ _ _ (g.W.Sink.written c.write_totals.new.out) (g.W.Sink.faults c.events.out) (g.W.Sink.faults c.write_totals.new.out) h w.in-Ok.field-0 w.in-Ok.ensures)
      | in-Err-write_totals w ↦ rw w.result-is (
        rose_since (g.W.Sink.faults c.args.out.now) (g.W.Sink.faults c.events.out) (g.W.Sink.faults c.write_totals.new.out) c.events.invariant.2 w.in-Err-write_totals.ensures.cause.refused,
        over_cut _ _ _ _ _ _ (g.W.Sink.written c.write_totals.new.out) (g.W.Sink.faults c.events.out) (g.W.Sink.faults c.write_totals.new.out) h w.in-Err-write_totals.field-0 w.in-Err-write_totals.ensures,
      )
    ]

pub returns-in-Err-Script-clause-answer : goal.returns-in-Err-Script-clause-answer
returns-in-Err-Script-clause-answer g c =
    let m0 = c.args.machine.now in
    let a = c.events.script.stream in
    let b = c.next.new.self.stream in
    subst (λ (f : ScriptFault). IsFaultyRun m0.show m0.object.tables m0.object (g.R.Source.rest c.args.input.now) (g.R.Source.rest c.next.new.src) (g.W.Sink.written c.args.out.now) (g.W.Sink.written c.events.out) f) (sym c.in-Err-Script.fault-is)
    (faulty c.args.t.now m0 c.events.machine c.requires.accepted c.requires.tables a b (g.R.Source.rest c.args.input.now) (g.R.Source.rest c.events.input) (g.R.Source.rest c.next.new.src) (g.W.Sink.written c.args.out.now) (g.W.Sink.written c.events.out) c.in-Err-Script.fault c.events.invariant.0
    (subst (λ (s : ScriptStop). Gives a.ahead.over b.ahead.over (g.R.Source.rest c.events.input) (g.R.Source.rest c.next.new.src) (IsAnswer c.args.t.now a b (Err s))) c.in-Err-Script.field-0-is c.in-Err-Script.ensures.answer)
    (taken_to_line b (g.R.Source.rest c.args.input.now) (g.R.Source.rest c.next.new.src) c.next.result (piece_lost g (goal.at.returns-in-Err-Script-clause-answer g c).After-next) c.in-Err-Script.fault.line
    (c.in-Err-Script.ensures.line c.in-Err-Script.fault (ap (λ (s : ScriptStop). Err s) c.in-Err-Script.field-0-is))))

pub returns-in-Err-Read-clause-answer : goal.returns-in-Err-Read-clause-answer
returns-in-Err-Read-clause-answer g c = (
  rose_since (g.R.Source.faults c.args.input.now) (g.R.Source.faults c.events.input) (g.R.Source.faults c.next.new.src) c.events.invariant.1
      (c.in-Err-Read.ensures.read (ap (λ (s : ScriptStop). Err s) c.in-Err-Read.field-0-is)),
  read_cut c.args.t.now c.args.machine.now c.events.machine c.requires.accepted c.requires.tables c.events.script.stream c.next.new.self.stream (g.R.Source.rest c.args.input.now) (g.R.Source.rest c.events.input) (g.R.Source.rest c.next.new.src) (g.W.Sink.written c.args.out.now) (g.W.Sink.written c.events.out) c.events.invariant.0,
)

pub returns-in-Err-Read-clause-read_count : goal.returns-in-Err-Read-clause-read_count
returns-in-Err-Read-clause-read_count g c = λ other. absurd (other refl)

pub returns-in-Ok-None-clause-write_count : goal.returns-in-Ok-None-clause-write_count
returns-in-Ok-None-clause-write_count g c = elim c.match-write_totals.branch [
  | in-Ok w ↦ λ other. w.in-Ok.ensures.cause.kept ∙ c.events.invariant.2
  | in-Err-write_totals w ↦ rw w.result-is (λ other. absurd (other refl))
]

pub returns-in-Err-clause-taken : goal.returns-in-Err-clause-taken
returns-in-Err-clause-taken g c = input_lost g (goal.at.returns-in-Err-clause-taken g c).After-next

pub returns-in-Ok-None-clause-taken : goal.returns-in-Ok-None-clause-taken
returns-in-Ok-None-clause-taken g c = input_lost g (goal.at.returns-in-Ok-None-clause-taken g c).After-next

pub returns-in-Err-Script-clause-taken : goal.returns-in-Err-Script-clause-taken
returns-in-Err-Script-clause-taken g c = input_lost g (goal.at.returns-in-Err-Script-clause-taken g c).After-next

pub returns-in-Err-Read-clause-taken : goal.returns-in-Err-Read-clause-taken
returns-in-Err-Read-clause-taken g c = input_lost g (goal.at.returns-in-Err-Read-clause-taken g c).After-next
