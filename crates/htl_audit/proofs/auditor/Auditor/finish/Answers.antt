use Rattle.std.proofs.Common.{◌≡◌, ◌≤◌, ◌+◌, suc, [], ◌∷◌, ◌++◌, drop, refl, sym, subst, arith}
use Rattle.htl_model.specs.declared.event.Event.TheVariants as V
use Rattle.htl_machine.specs.Calls as machines
use Rattle.htl_audit.proofs.{Words.Audit, Words.passed, Going.stop_first, Going.turn_text, Going.going_start, Going.going_text, Going.going_failed, Going.going_gone, Going.finish_all}
use Rattle.htl_audit.proofs.auditor.Auditor.finish.Goals as goal

pub end_run-requires-clause-follows : goal.end_run-requires-clause-follows
end_run-requires-clause-follows g c =
    let w = c.requires.follows in
    let st = c.in_default.ensures.stopped w.0 (stop_first c.args.self.now w.0 c.in_default.ensures.accepted w.1) in
    let gs = w.0 ++ V.At c.pass_starts.new.self.machine.run_state.reading ∷ [] in
    (gs, subst (λ (z : Audit). machines.Follows z.machine gs) (sym c.judge_before.ensures.kept) st.machine)

pub returns-in-Err-clause-text : goal.returns-in-Err-clause-text
returns-in-Err-clause-text g c = λ es f.
    let first = stop_first c.args.self.now es c.in-Err.ensures.accepted f in
    let order : c.args.to ≤ suc c.args.to = omega arith in
    let same : c.args.self.now.machine.run_state.reading ≤ c.args.self.now.machine.run_state.reading = omega arith in
    going_failed c.args.self.now c.args.self.now es c.args.to (suc c.args.to) (g.W.Sink.written c.args.sink.now) (g.W.Sink.written c.args.sink.now) (g.W.Sink.written c.pass_starts.new.sink) (g.W.Sink.faults c.args.sink.now) (g.W.Sink.faults c.args.sink.now) (g.W.Sink.faults c.pass_starts.new.sink)
    c.in-Err.failed c.in-Err.failed same c.requires.order order (record { object = refl; show = refl }) (going_start c.args.self.now es (g.W.Sink.written c.args.sink.now) (g.W.Sink.faults c.args.sink.now) first) (c.in-Err.ensures.text es first)

pub returns-clause-text : goal.returns-clause-text
returns-clause-text g c = λ es f.
    let first = stop_first c.args.self.now es c.in_default.ensures.accepted f in
    let st = c.in_default.ensures.stopped es first in
    let so_far = going_gone c.args.self.now c.pass_starts.new.self es (g.W.Sink.written c.args.sink.now) (g.W.Sink.written c.pass_starts.new.sink) (g.W.Sink.faults c.args.sink.now) (g.W.Sink.faults c.pass_starts.new.sink) c.in_default.field-0 (c.in_default.ensures.text es first) st in
    let rest = turn_text c.pass_starts.new.self c.judge_before.new.self es (passed c.pass_starts.new.self.machine.object.tables (c.args.to + 1) (drop c.pass_starts.new.self.kept.place c.pass_starts.new.self.log) c.pass_starts.new.self.kept) (suc c.args.to) (suc c.args.to) (g.W.Sink.written c.pass_starts.new.sink) (g.W.Sink.written c.end_run.new.sink)
    (g.W.Sink.faults c.pass_starts.new.sink) (g.W.Sink.faults c.end_run.new.sink) c.end_run.result c.judge_before.ensures.accepted c.judge_before.ensures.kept refl st c.end_run.ensures.text in
    let high : c.pass_starts.new.self.machine.run_state.reading ≤ suc c.args.to = omega (arith, c.in_default.ensures.high) in
    going_text c.args.self.now c.pass_starts.new.self es (suc c.args.to) (g.W.Sink.written c.args.sink.now) (g.W.Sink.written c.pass_starts.new.sink) (g.W.Sink.written c.end_run.new.sink) (g.W.Sink.faults c.args.sink.now) (g.W.Sink.faults c.pass_starts.new.sink) (g.W.Sink.faults c.end_run.new.sink)
    c.end_run.result c.in_default.ensures.low high c.in_default.ensures.same.run so_far rest

pub returns-clause-audited : goal.returns-clause-audited
returns-clause-audited g c = λ es f.
    let st = c.in_default.ensures.stopped es (stop_first c.args.self.now es c.in_default.ensures.accepted f) in
    finish_all c.end_run.result c.pass_starts.new.self c.judge_before.new.self c.end_run.new.self es (c.args.to + 1) c.args.to c.judge_before.ensures.accepted c.judge_before.ensures.sized c.judge_before.ensures.kept c.end_run.ensures.rest (let z : c.args.to + 1 ≡ suc c.args.to = omega arith in z)
    c.in_default.ensures.high c.in_default.ensures.none c.end_run.ensures.run c.end_run.ensures.finished st
