use Rattle.std.proofs.Common.{[], ◌∷◌, ◌++◌, drop, refl, sym, subst}
use Rattle.htl_model.specs.declared.event.Event.TheVariants as V
use Rattle.htl_machine.specs.Calls as machines
use Rattle.htl_audit.proofs.{Words.Audit, Words.passed, Going.stop_first, Going.turn_text, Going.going_text, Going.going_gone, Going.advance_all}
use Rattle.htl_audit.proofs.auditor.Auditor.advance.Goals as goal

pub run_to-requires-clause-follows : goal.run_to-requires-clause-follows
run_to-requires-clause-follows g c =
    let w = c.requires.follows in
    let st = c.in_default.ensures.stopped w.0 (stop_first c.args.self.now w.0 c.in_default.ensures.accepted w.1) in
    let gs = w.0 ++ V.At c.pass_starts.new.self.machine.run_state.reading ∷ [] in
    (gs, subst (λ (z : Audit). machines.Follows z.machine gs) (sym c.judge_before.ensures.kept) st.machine)

pub returns-in-Err-clause-text : goal.returns-in-Err-clause-text
returns-in-Err-clause-text g c = λ es f. c.in-Err.ensures.text es (stop_first c.args.self.now es c.in-Err.ensures.accepted f)

pub returns-clause-text : goal.returns-clause-text
returns-clause-text g c = λ es f.
    let first = stop_first c.args.self.now es c.in_default.ensures.accepted f in
    let st = c.in_default.ensures.stopped es first in
    let so_far = going_gone c.args.self.now c.pass_starts.new.self es (g.W.Sink.written c.args.sink.now) (g.W.Sink.written c.pass_starts.new.sink) (g.W.Sink.faults c.args.sink.now) (g.W.Sink.faults c.pass_starts.new.sink) c.in_default.field-0 (c.in_default.ensures.text es first) st in
    let rest = turn_text c.pass_starts.new.self c.judge_before.new.self es (passed c.pass_starts.new.self.machine.object.tables c.args.to (drop c.pass_starts.new.self.kept.place c.pass_starts.new.self.log) c.pass_starts.new.self.kept) c.args.to c.args.to (g.W.Sink.written c.pass_starts.new.sink) (g.W.Sink.written c.run_to.new.sink)
    (g.W.Sink.faults c.pass_starts.new.sink) (g.W.Sink.faults c.run_to.new.sink) c.run_to.result c.judge_before.ensures.accepted c.judge_before.ensures.kept refl st c.run_to.ensures.text in
    going_text c.args.self.now c.pass_starts.new.self es c.args.to (g.W.Sink.written c.args.sink.now) (g.W.Sink.written c.pass_starts.new.sink) (g.W.Sink.written c.run_to.new.sink) (g.W.Sink.faults c.args.sink.now) (g.W.Sink.faults c.pass_starts.new.sink) (g.W.Sink.faults c.run_to.new.sink)
    c.run_to.result c.in_default.ensures.low c.in_default.ensures.high c.in_default.ensures.same.run so_far rest

pub returns-clause-follows : goal.returns-clause-follows
returns-clause-follows g c = λ es f.
    let st = c.in_default.ensures.stopped es (stop_first c.args.self.now es c.in_default.ensures.accepted f) in
    advance_all c.run_to.result c.pass_starts.new.self c.judge_before.new.self c.run_to.new.self es c.args.to c.judge_before.ensures.accepted c.judge_before.ensures.sized c.judge_before.ensures.kept c.run_to.ensures.rest c.in_default.ensures.high c.in_default.ensures.none c.run_to.ensures.run c.run_to.ensures.follows st
