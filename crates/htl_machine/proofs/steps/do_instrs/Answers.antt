use Rattle.htl_ecode.specs.Phases.{number_of}
use Rattle.htl_emach.proofs.{Instants.starts, Overdue.nothing_overdue}
use Rattle.htl_runs.proofs.values.PhaseSteps.{phase_replayed, phase_ends}
use Rattle.htl_machine.proofs.Doing.{doing_start, doing_end, doing_counted, doing_told}
use Rattle.htl_machine.proofs.steps.do_instrs.Goals as goal
use Rattle.std.proofs.Common.{refl}

pub is_due-requires-clause-order : goal.is_due-requires-clause-order
is_due-requires-clause-order g c =
    let w = c.requires.starts in
    let t = c.args.program.now.tables.now in
    let code = c.args.program.now.code.now in
    let phase = number_of c.args.phase in
    let machine = c.args.machines.now.emach in
    nothing_overdue t code w.0 c.args.at phase machine _ _ c.parts-parts.ensures.ranges (starts t code w.0 c.args.at phase machine w.1.idle w.1.calendar)

pub returns-then-not-is_due-clause-text : goal.returns-then-not-is_due-clause-text
returns-then-not-is_due-clause-text g c = λ es s.
    let t = c.args.program.now.tables.now in
    let code = c.args.program.now.code.now in
    let phase = number_of c.args.phase in
    let show = c.args.program.now.show in
    let m = c.args.machines.now in
    let fitted = c.requires.given.fitted in
    let here = doing_start t code es c.args.at phase show m.emach m.works.world m.works.s_machine (g.W.Sink.written c.args.sink.now) (g.W.Sink.faults c.args.sink.now) m.works.tally (starts t code es c.args.at phase m.emach s.idle s.calendar) fitted.safe fitted.shaped in
    let on = c.if-not-is_due.ensures.onward refl es here.running.done here.running.rest here.running.midway in
    doing_end t code es c.args.at phase show m.emach m.emach m.works.world m.works.world m.works.s_machine m.works.s_machine _ _ _ _ m.works.tally m.works.tally _ here on

pub returns-then-not-is_due-clause-events : goal.returns-then-not-is_due-clause-events
returns-then-not-is_due-clause-events g c = λ es s.
    let t = c.args.program.now.tables.now in
    let code = c.args.program.now.code.now in
    let phase = number_of c.args.phase in
    let show = c.args.program.now.show in
    let m = c.args.machines.now in
    let fitted = c.requires.given.fitted in
    let here = doing_start t code es c.args.at phase show m.emach m.works.world m.works.s_machine (g.W.Sink.written c.args.sink.now) (g.W.Sink.faults c.args.sink.now) m.works.tally (starts t code es c.args.at phase m.emach s.idle s.calendar) fitted.safe fitted.shaped in
    let on = c.if-not-is_due.ensures.onward refl es here.running.done here.running.rest here.running.midway in
    record {
      counts = doing_counted t code es c.args.at phase show m.emach m.emach m.works.world m.works.world m.works.s_machine m.works.s_machine _ _ _ _ m.works.tally m.works.tally here on;
      world = phase_replayed t code es c.args.at phase m.emach m.emach m.works.world m.works.world m.works.world here.running on refl;
      s_machine = doing_told t code es c.args.at phase show m.emach m.emach m.works.world m.works.world m.works.s_machine m.works.s_machine _ _ _ _ m.works.tally m.works.tally here on;
      ends = phase_ends t code es c.args.at phase m.emach m.emach m.works.world m.works.world here.running on;
    }
