use Rattle.std.proofs.Common.{◌∙◌, refl, arith}
use Rattle.htl_ecode.specs.Phases.{number_of}
use Rattle.htl_emach.proofs.{Overdue.nothing_overdue, PhaseNumbers.number_range, Instants.starts}
use Rattle.htl_runs.proofs.{values.PhaseSteps.phase_replayed, values.PhaseSteps.phase_ends, values.PhaseLengths.fewer_then}
use Rattle.htl_machine.proofs.{Doing.doing_start, Doing.doing_on, Doing.doing_cut, Doing.doing_end, Doing.doing_counted, Doing.doing_told, Marking.noted_on, Marking.module_done, Marking.sensors_then}
use Rattle.htl_machine.proofs.steps.do_due.Goals as goal

pub loop-done-init : goal.loop-done-init
loop-done-init g c = record {
  doing = λ es s. doing_start c.args.program.now.tables.now c.args.program.now.code.now es c.args.at (number_of c.args.phase) c.args.program.now.show c.args.machines.now.emach c.args.machines.now.works.world c.args.machines.now.works.s_machine _ _ _ (starts c.args.program.now.tables.now c.args.program.now.code.now es c.args.at (number_of c.args.phase) c.args.machines.now.emach s.idle s.calendar) c.requires.given.fitted.safe c.requires.given.fitted.shaped;
  safe = c.requires.given.fitted.safe;
  shaped = c.requires.given.fitted.shaped;
  values = λ two. refl;
  stands = λ s st. st;
  jobs = refl;
  marked = c.requires.given.fitted.marked;
  noted_stays = record { values = refl; modes = refl };
  sensors = λ k x at is. refl;
}

pub do_next-requires-clause-order : goal.do_next-requires-clause-order
do_next-requires-clause-order g c =
    let w = c.requires.starts in
    let here = (c.loop-done.invariant.doing w.0 w.1).running in
    nothing_overdue c.args.program.now.tables.now c.args.program.now.code.now w.0 c.args.at (number_of c.args.phase) c.loop-done.machines.emach here.done here.rest c.parts-parts.ensures.ranges here.midway

pub note-requires : goal.note-requires
note-requires g c =
    let inside =
    module_done c.args.program.now.tables.now c.args.program.now.code.now (number_of c.args.phase) c.args.at c.loop-done.machines.emach c.loop-done.machines.works.world c.in-Some.done c.parts-parts.ensures.ranges c.requires.given.sound.form c.requires.given.sound.spells (number_range c.args.phase) c.loop-done.invariant.shaped c.loop-done.invariant.safe
    c.in-Some.ensures.answer in
    omega (arith, inside, c.parts-parts.ensures.ranges.few_modules)

pub returns-in-Err-clause-text : goal.returns-in-Err-clause-text
returns-in-Err-clause-text g c = λ es s.
    let here = c.loop-done.invariant.doing es s in
    doing_cut c.args.program.now.tables.now c.args.program.now.code.now es c.args.at (number_of c.args.phase) c.args.program.now.show c.loop-done.machines.emach c.do_next.new.self c.loop-done.machines.works.world c.args.machines.now.works.world c.args.machines.now.works.s_machine c.loop-done.machines.works.s_machine _ _ _ _ _ _ _ _ c.in-Some.done _ _ here
    (c.in-Some.ensures.onward es here.running.done here.running.rest (λ two. here.running.values two ∙ s.values two) here.running.midway) c.in-Err.ensures

pub loop-done-smaller : goal.loop-done-smaller
loop-done-smaller g c =
    let w = c.requires.starts in
    let here = c.loop-done.invariant.doing w.0 w.1 in
    fewer_then c.args.program.now.tables.now c.args.program.now.code.now w.0 c.args.at (number_of c.args.phase) c.args.machines.now.works.world.values c.loop-done.machines.emach c.do_next.new.self c.in-Some.done here.running.done here.running.rest c.args.machines.now.emach.calendar c.parts-parts.ensures.ranges
    c.requires.given.sound.form c.requires.given.sound.spells (number_range c.args.phase) w.1.values w.1.calendar here.running.midway
    (c.in-Some.ensures.onward w.0 here.running.done here.running.rest (λ two. here.running.values two ∙ w.1.values two) here.running.midway)

pub loop-done-preserved : goal.loop-done-preserved
loop-done-preserved g c =
    let w = c.requires.starts in
    let now = c.loop-done.invariant.doing w.0 w.1 in
    let one = doing_on c.args.program.now.tables.now c.args.program.now.code.now w.0 c.args.at (number_of c.args.phase) c.args.program.now.show c.loop-done.machines.emach c.do_next.new.self c.loop-done.machines.works.world c.do_next.new.world c.args.machines.now.works.world c.args.machines.now.works.s_machine c.loop-done.machines.works.s_machine c.release_in.new.s_machine _ _ _ _ _ _ _ _ _
    c.in-Some.done _ now c.in-Some.ensures.safe c.in-Some.ensures.shaped
    (c.in-Some.ensures.onward w.0 now.running.done now.running.rest (λ two. now.running.values two ∙ w.1.values two) now.running.midway) c.in-Some.ensures.world
    c.instr.ensures c.release_in.ensures.s_machine c.release_in.ensures.stands c.in_default.ensures in
    record {
      doing = λ es s.
          let here = c.loop-done.invariant.doing es s in
          doing_on c.args.program.now.tables.now c.args.program.now.code.now es c.args.at (number_of c.args.phase) c.args.program.now.show c.loop-done.machines.emach c.do_next.new.self c.loop-done.machines.works.world c.do_next.new.world c.args.machines.now.works.world c.args.machines.now.works.s_machine c.loop-done.machines.works.s_machine c.release_in.new.s_machine _ _ _ _ _ _ _ _ _
          c.in-Some.done _ here c.in-Some.ensures.safe c.in-Some.ensures.shaped
          (c.in-Some.ensures.onward es here.running.done here.running.rest (λ two. here.running.values two ∙ s.values two) here.running.midway) c.in-Some.ensures.world
          c.instr.ensures c.release_in.ensures.s_machine c.release_in.ensures.stands c.in_default.ensures;
      safe = c.in-Some.ensures.safe;
      shaped = c.in-Some.ensures.shaped;
      values = one.running.values;
      stands = λ s st. c.release_in.ensures.stands s (c.loop-done.invariant.stands s st);
      jobs = c.release_in.ensures.jobs ∙ c.loop-done.invariant.jobs;
      marked =
          noted_on c.loop-done.machines.noted c.note.new.self c.args.program.now.tables.now c.args.program.now.code.now c.loop-done.machines.works.world.values (number_of c.args.phase) c.args.at c.loop-done.machines.emach c.do_next.new.self c.loop-done.machines.works.world c.do_next.new.world c.in-Some.done c.loop-done.invariant.marked
          c.in-Some.ensures.machine c.in-Some.ensures.world c.note.ensures.written c.note.ensures.decided c.note.ensures.kept;
      noted_stays = record { values = c.note.ensures.kept.values ∙ c.loop-done.invariant.noted_stays.values; modes = c.note.ensures.kept.modes ∙ c.loop-done.invariant.noted_stays.modes };
      sensors = sensors_then c.args.program.now.tables.now c.args.machines.now.works.world.values c.loop-done.machines.works.world.values c.do_next.new.world.values c.loop-done.invariant.sensors c.in-Some.ensures.sensors;
    }

pub returns-in-None-clause-text : goal.returns-in-None-clause-text
returns-in-None-clause-text g c = λ es s.
    let here = c.loop-done.invariant.doing es s in
    doing_end c.args.program.now.tables.now c.args.program.now.code.now es c.args.at (number_of c.args.phase) c.args.program.now.show c.loop-done.machines.emach c.do_next.new.self c.loop-done.machines.works.world c.args.machines.now.works.world c.args.machines.now.works.s_machine c.loop-done.machines.works.s_machine _ _ _ _ _ _ _ here
    (c.in-None.ensures.onward es here.running.done here.running.rest (λ two. here.running.values two ∙ s.values two) here.running.midway)

pub returns-in-None-clause-events : goal.returns-in-None-clause-events
returns-in-None-clause-events g c = λ es s.
    let t = c.args.program.now.tables.now in
    let code = c.args.program.now.code.now in
    let phase = number_of c.args.phase in
    let show = c.args.program.now.show in
    let old = c.loop-done.machines in
    let first = c.args.machines.now in
    let here = c.loop-done.invariant.doing es s in
    let run = here.running in
    let on = c.in-None.ensures.onward es run.done run.rest (λ two. run.values two ∙ s.values two) run.midway in
    record {
      counts = doing_counted t code es c.args.at phase show old.emach c.do_next.new.self old.works.world first.works.world first.works.s_machine old.works.s_machine _ _ _ _ _ _ here on;
      world = phase_replayed t code es c.args.at phase old.emach c.do_next.new.self old.works.world c.do_next.new.world first.works.world run on c.in-None.ensures.world;
      s_machine = doing_told t code es c.args.at phase show old.emach c.do_next.new.self old.works.world first.works.world first.works.s_machine old.works.s_machine _ _ _ _ _ _ here on;
      ends = phase_ends t code es c.args.at phase old.emach c.do_next.new.self old.works.world first.works.world run on;
    }
