use Rattle.std.proofs.Common.{List, [], ℤ, length, sym, ap, ◌∙◌, subst}
use Rattle.htl_machine.proofs.{Words.phase_path, Words.with_instrs, Words.Puts-second, Words.path_lines, Words.MarksChanges, Words.replay, Words.AreShown, Beginnings.then_more, Marking.sensors_then, Marking.sensors_same}
use Rattle.htl_machine.proofs.{Openings.opens_failed, Openings.opens_second, Openings.opened, Openings.writes_start, Waits.waiting_stays, Waits.waiting_same}
use Rattle.htl_runs.proofs.values.SensorSteps.{sensors_shaped}
use Rattle.htl_machine.proofs.open.open_instant.Goals as goal

pub do_instrs-requires-clause-starts : goal.do_instrs-requires-clause-starts
do_instrs-requires-clause-starts g c =
    let w = c.requires.follows in
    (w.0, writes_start c.args.program.now.tables.now c.args.program.now.code.now w.0 c.args.at c.args.machines.now.emach c.leave_records.new.works.world w.1)

pub do_instrs-requires-clause-given : goal.do_instrs-requires-clause-given
do_instrs-requires-clause-given g c =
    let p = c.requires.given.part in
    let left = c.in_default.ensures.left in
    record {
      sound = p.sound;
      at = p.at;
      fitted =
          record {
            shaped = left.shaped;
            safe = p.fitted.safe;
            few = p.fitted.few;
            modules = p.fitted.modules;
            marked = subst (λ (xs : List ℤ). MarksChanges c.args.machines.now.noted xs c.args.machines.now.emach.calendar.modes) (sym left.values) p.fitted.marked;
          };
      jobs = left.jobs ∙ p.jobs;
    }

pub show-requires-clause-waiting : goal.show-requires-clause-waiting
show-requires-clause-waiting g c =
    waiting_stays c.args.program.now.tables.now c.args.sensors.now c.leave_records.new.works.world.values c.do_instrs.new.machines.works.world.values
    (waiting_same c.args.program.now.tables.now c.args.sensors.now c.args.machines.now.works.world.values c.leave_records.new.works.world.values c.requires.given.sensors.waiting c.in_default.ensures.left.values) c.in_default-do_instrs.ensures.keeps.part.sensors

pub show-requires-clause-before : goal.show-requires-clause-before
show-requires-clause-before g c =
    let kept = c.in_default-do_instrs.ensures.keeps.noted.values ∙ c.requires.given.sensors.before in
    sensors_then c.args.program.now.tables.now c.do_instrs.new.machines.noted.values c.leave_records.new.works.world.values c.do_instrs.new.machines.works.world.values
    (sensors_same c.args.program.now.tables.now c.do_instrs.new.machines.noted.values c.leave_records.new.works.world.values (c.in_default.ensures.left.values ∙ sym kept)) c.in_default-do_instrs.ensures.keeps.part.sensors

pub returns-in-Err-clause-text : goal.returns-in-Err-clause-text
returns-in-Err-clause-text g c = λ es q.
    let t = c.args.program.now.tables.now in
    let code = c.args.program.now.code.now in
    record {
      running = opens_failed t code es c.args.program.now.show c.args.list.now.node c.args.machines.now.works.s_machine c.args.list.now.schedule.now.instrs c.args.at _ _ _ _ _ _ c.in-Err.ensures.text.running;
      idle = λ over. then_more [] (path_lines t code c.args.program.now.show c.args.at (phase_path t code es c.args.at 1)) _ _ _ _ c.in-Err.failed c.in-Err.failed (c.in-Err.ensures.text.idle over);
    }

pub returns-in-Err-do_instrs-clause-text : goal.returns-in-Err-do_instrs-clause-text
returns-in-Err-do_instrs-clause-text g c = λ es q.
    let t = c.args.program.now.tables.now in
    let code = c.args.program.now.code.now in
    let text = c.in-Err-do_instrs.ensures.text es (writes_start t code es c.args.at c.args.machines.now.emach c.leave_records.new.works.world q) in
    record {
      running = opens_second t code es c.args.program.now.show c.args.list.now.node c.args.machines.now.works.s_machine c.args.list.now.schedule.now.instrs c.args.at _ _ _ _ _ _ _ _ c.in_default.ensures.text.running text;
      idle = λ over. let first = c.in_default.ensures.text.idle over in Puts-second _ _ _ _ _ _ [] _ _ first.whole first.cause.kept text;
    }

pub returns-clause-text : goal.returns-clause-text
returns-clause-text g c = λ es q.
    let t = c.args.program.now.tables.now in
    let code = c.args.program.now.code.now in
    let text = c.in_default-do_instrs.ensures.text es (writes_start t code es c.args.at c.args.machines.now.emach c.leave_records.new.works.world q) in
    record {
      running = opens_second t code es c.args.program.now.show c.args.list.now.node c.args.machines.now.works.s_machine c.args.list.now.schedule.now.instrs c.args.at _ _ _ _ _ _ _ _ c.in_default.ensures.text.running text;
      idle = λ over. let first = c.in_default.ensures.text.idle over in Puts-second _ _ _ _ _ _ [] _ _ first.whole first.cause.kept text;
    }

pub returns-clause-events : goal.returns-clause-events
returns-clause-events g c = λ es q.
    let t = c.args.program.now.tables.now in
    let code = c.args.program.now.code.now in
    let path = phase_path t code es c.args.at 1 in
    let d = c.in_default-do_instrs.ensures.events es (writes_start t code es c.args.at c.args.machines.now.emach c.leave_records.new.works.world q) in
    let left = c.in_default.ensures.left in
    let shown = subst (λ (xs : List ℤ). AreShown t c.args.sensors.now.shows xs c.args.at c.do_instrs.new.machines.works.world c.show.new.world) c.in_default-do_instrs.ensures.keeps.noted.values c.show.ensures.shown in
    record {
      counts = λ p s k i same past few was. d.counts ∙ ap (with_instrs (length path)) (left.counts p s k i same past few was);
      world =
          opened t code es c.args.at c.args.list.now.schedule.now.instrs c.args.sensors.now.shows c.args.machines.now.noted.values c.args.machines.now.works.s_machine c.leave_records.new.works.s_machine c.do_instrs.new.machines.works.s_machine c.args.machines.now.works.world c.leave_records.new.works.world c.do_instrs.new.machines.works.world c.show.new.world
          left.records d.s_machine d.world shown;
      idle = λ over.
          let i = left.idle over in
          record {
            wrote = c.do_instrs.new.machines.works.world;
            writes = d.world ∙ ap (replay t code path) i.1;
            sensors = shown;
            s_machine = d.s_machine ∙ i.0;
            count = d.counts ∙ ap (with_instrs (length path)) i.2;
          };
      ends = d.ends;
    }

pub returns-clause-keeps : goal.returns-clause-keeps
returns-clause-keeps g c =
    let t = c.args.program.now.tables.now in
    let one = c.in_default-do_instrs.ensures.keeps in
    let done = one.part.fitted in
    let left = c.in_default.ensures.left in
    let given = c.requires.given.sensors in
    record {
      waiting = c.show.ensures.waiting;
      fitted =
          record {
            shaped =
                sensors_shaped t c.args.sensors.now.shows c.args.machines.now.noted.values c.args.at c.do_instrs.new.machines.works.world c.show.new.world given.shows given.values done.shaped
                (subst (λ (xs : List ℤ). AreShown t c.args.sensors.now.shows xs c.args.at c.do_instrs.new.machines.works.world c.show.new.world) one.noted.values c.show.ensures.shown);
            safe = done.safe;
            few = ap length c.show.ensures.kept.values ∙ done.few;
            modules = ap length c.show.ensures.kept.modes ∙ done.modules;
            marked = c.show.ensures.marked c.do_instrs.new.machines.emach.calendar.modes done.marked;
          };
      noted = record { values = c.show.ensures.kept.values ∙ one.noted.values; modes = c.show.ensures.kept.modes ∙ one.noted.modes };
      jobs = one.part.jobs ∙ left.jobs;
      stands = one.part.stands c.args.list.now.schedule.now.instrs left.stands;
    }
