use Rattle.std.proofs.Common.{◌≡◌, ◌+◌, suc, drop, Ok, Err, arith}
use Rattle.htl_audit.specs.Keeping.{passed}
use Rattle.htl_audit.proofs.Going.{turn_text, turn_done}
use Rattle.htl_audit.proofs.auditor.Auditor.begin_rounds.Goals as goal

pub returns-in-Err-clause-text : goal.returns-in-Err-clause-text
returns-in-Err-clause-text g c = λ es f.
    turn_text c.args.self.now c.judge_before.new.self es (passed c.args.self.now.machine.object.tables (c.args.at + 1) (drop c.args.self.now.kept.place c.args.self.now.log) c.args.self.now.kept) (c.args.at + 1) (suc c.args.at)
    (g.W.Sink.written c.args.sink.now) (g.W.Sink.written c.run_to.new.sink) (g.W.Sink.faults c.args.sink.now) (g.W.Sink.faults c.run_to.new.sink) (Err c.in-Err.failed)
    c.judge_before.ensures.accepted c.judge_before.ensures.kept (let z : c.args.at + 1 ≡ suc c.args.at = omega arith in z) f c.in-Err.ensures.text

pub returns-clause-text : goal.returns-clause-text
returns-clause-text g c = λ es f.
    turn_text c.args.self.now c.judge_before.new.self es (passed c.args.self.now.machine.object.tables (c.args.at + 1) (drop c.args.self.now.kept.place c.args.self.now.log) c.args.self.now.kept) (c.args.at + 1) (suc c.args.at)
    (g.W.Sink.written c.args.sink.now) (g.W.Sink.written c.run_to.new.sink) (g.W.Sink.faults c.args.sink.now) (g.W.Sink.faults c.run_to.new.sink) (Ok tt)
    c.judge_before.ensures.accepted c.judge_before.ensures.kept (let z : c.args.at + 1 ≡ suc c.args.at = omega arith in z) f c.in_default.ensures.text

pub returns-clause-stopped : goal.returns-clause-stopped
returns-clause-stopped g c = λ es f.
    (turn_done c.args.self.now c.judge_before.new.self c.run_to.new.self c.begin.new.self es (c.args.at + 1) c.args.at c.judge_before.ensures.accepted c.judge_before.ensures.sized c.judge_before.ensures.kept c.in_default.ensures.rest c.begin.ensures
    (let z : c.args.at + 1 ≡ suc c.args.at = omega arith in z) c.requires.order c.requires.start c.requires.none c.in_default.ensures.run c.in_default.ensures.follows f).0

pub returns-clause-reading : goal.returns-clause-reading
returns-clause-reading g c =
    (turn_done c.args.self.now c.judge_before.new.self c.run_to.new.self c.begin.new.self c.requires.stopped.0 (c.args.at + 1) c.args.at c.judge_before.ensures.accepted c.judge_before.ensures.sized c.judge_before.ensures.kept c.in_default.ensures.rest c.begin.ensures
    (let z : c.args.at + 1 ≡ suc c.args.at = omega arith in z) c.requires.order c.requires.start c.requires.none c.in_default.ensures.run c.in_default.ensures.follows c.requires.stopped.1).1
