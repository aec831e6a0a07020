use Rattle.std.proofs.Common.{◌≡◌, ℕ, List, sym, ap, ◌∙◌, subst, length, ◌≤◌, suc, arith}
use Rattle.htl_machine.proofs.Words.{IsSelection, SInstr, Round, IsInForm, Stands, phase_path, states_are_selections, modes_at, Event, AreToRead, AreToCloseAndBegin, CanFollow, with_instrs, with_records, MarksChanges, IsPath, first_records, AreOf, turn_at, replay, instrs_of}
use Rattle.htl_machine.proofs.Beginnings.{HasBegun, may_follow, node_there, has_begun_so, first_done, first_counted, first_told, then_more, fails_so, ends_so, began_last}
use Rattle.htl_machine.proofs.{Closings.switches_fail, Closings.reads_second, Closings.switches_start, Marking.reads_next, Marking.sensors_then, Marking.sensors_same, Modes.modes_are}
use Rattle.htl_runs.proofs.instants.FirstRecords.{at_told}
use Rattle.htl_machine.proofs.beginning.close_and_begin.Given as given
use Rattle.htl_machine.proofs.beginning.close_and_begin.Goals as goal
use Rattle.htl_machine.proofs.beginning.close_and_begin.Goals.{In_default, After-schedule}

-- ---- where events ask for it: the modes behind the switches, what the reads ask for, and the list that has begun

modes_now : (g : given.Over) (c : In_default g) {es : List Event}
    → AreToCloseAndBegin c.args.program.now es c.args.at c.args.takes.now c.args.path.now.list c.args.machines.now
    → c.do_instrs.new.machines.emach.calendar.modes ≡ modes_at c.args.program.now.tables.now es c.args.at
modes_now g c {es} q =
    modes_are c.args.program.now.tables.now c.args.program.now.code.now es c.args.at c.do_instrs.new.machines.emach.calendar c.parts-parts.ensures.ranges (c.in_default.ensures.events es (switches_start q.closes)).ends.2

reads_come : (g : given.Over) (c : In_default g) {es : List Event}
    → AreToCloseAndBegin c.args.program.now es c.args.at c.args.takes.now c.args.path.now.list c.args.machines.now
    → AreToRead c.args.program.now es c.args.at c.do_instrs.new.machines
reads_come g c {es} q =
    let s = switches_start q.closes in
    reads_next c.in_default.ensures.keeps.noted q.closes (c.in_default.ensures.events es s).ends (c.in_default.ensures.events es s).world

has_begun_here : (g : given.Over) (c : After-schedule g) {es : List Event}
    → AreToCloseAndBegin c.args.program.now es c.args.at c.args.takes.now c.args.path.now.list c.args.machines.now
    → HasBegun c.args.program.now.tables.now (instrs_of c.args.program.now.schedules.now) es c.args.at c.begin.new.self.list c.schedule.result.now.instrs c.begin.new.s_machine c.read_instant.new.machines.works.s_machine
has_begun_here g c {es} q =
    let s = switches_start q.closes in
    let r = reads_next c.in_default.ensures.keeps.noted q.closes (c.in_default.ensures.events es s).ends (c.in_default.ensures.events es s).world in
    has_begun_so c.args.program.now.tables.now c.args.program.now.code.now c.args.program.now.schedules.now es c.args.at c.args.takes.now c.args.path.now.list c.args.machines.now.works.s_machine c.do_instrs.new.machines.emach.calendar c.parts-parts.ensures.ranges (c.in_default.ensures.events es s).ends.2
    q.begins c.begin.new.self.list c.begin.ensures.list c.begin.new.self.idle.instrs c.schedule.result.now.instrs c.do_instrs.new.machines.works.s_machine c.begin.new.s_machine c.read_instant.new.machines.works.s_machine (c.in_default.ensures.events es s).s_machine c.begin.ensures.s_machine
    (c.in_default-read_instant.ensures.events es r).s_machine c.schedule.ensures c.in_default-read_instant.ensures.keeps.stands

-- ---- the answers

pub do_instrs-requires-clause-starts : goal.do_instrs-requires-clause-starts
do_instrs-requires-clause-starts g c =
    let es = c.requires.begins.0 in
    let q = c.requires.begins.1 in
    let s = switches_start q.closes in
    (es, s)

pub returns-in-Err-clause-text : goal.returns-in-Err-clause-text
returns-in-Err-clause-text g c = λ es q.
    let s = switches_start q.closes in
    then_more {T = ℕ} _ _ _ _ _ _ c.in-Err.failed _ (switches_fail c.args.program.now.tables.now c.args.program.now.code.now es c.args.program.now.show c.args.at _ _ _ _ _ c.in-Err.failed (c.in-Err.ensures.text es s))

pub begin-requires-clause-selection : goal.begin-requires-clause-selection
begin-requires-clause-selection g c =
    let es = c.requires.begins.0 in
    let q = c.requires.begins.1 in
    let ms = modes_now g (goal.at.begin-requires-clause-selection g c).In_default q in
    subst (IsSelection c.args.program.now.tables.now) (sym ms) (states_are_selections c.args.program.now.tables.now c.parts-parts.ensures.ranges es c.args.at)

pub begin-requires-clause-follows : goal.begin-requires-clause-follows
begin-requires-clause-follows g c =
    let es = c.requires.begins.0 in
    let q = c.requires.begins.1 in
    let s = switches_start q.closes in
    let ms = modes_now g (goal.at.begin-requires-clause-follows g c).In_default q in
    let modes = c.do_instrs.new.machines.emach.calendar.modes in
    subst (CanFollow c.args.program.now.tables.now modes c.args.takes.now c.args.at c.args.path.now.list) (sym (c.in_default.ensures.events es s).s_machine)
    (may_follow c.args.program.now.tables.now c.args.program.now.code.now c.args.program.now.schedules.now es c.args.at c.args.takes.now c.args.path.now.list c.args.machines.now.works.s_machine modes ms q.begins)

pub read_instant-requires-clause-reads : goal.read_instant-requires-clause-reads
read_instant-requires-clause-reads g c =
    let es = c.requires.begins.0 in
    let q = c.requires.begins.1 in
    let r = reads_come g (goal.at.read_instant-requires-clause-reads g c).In_default q in
    (es, r)

pub returns-in-Err-read_instant-clause-text : goal.returns-in-Err-read_instant-clause-text
returns-in-Err-read_instant-clause-text g c = λ es q.
    let s = switches_start q.closes in
    let r = reads_come g (goal.at.returns-in-Err-read_instant-clause-text g c).In_default q in
    then_more _ _ _ _ _ _ c.in-Err-read_instant.failed _ (reads_second c.args.program.now.tables.now c.args.program.now.code.now es c.args.program.now.show c.args.at _ _ _ _ _ _ _ _ (c.in_default.ensures.text es s) (c.in-Err-read_instant.ensures.text es r))

pub schedule-requires : goal.schedule-requires
schedule-requires g c =
    let es = c.requires.begins.0 in
    let q = c.requires.begins.1 in
    let ms = modes_now g (goal.at.schedule-requires g c).In_default q in
    node_there c.args.program.now.tables.now c.args.program.now.code.now c.args.program.now.schedules.now es c.args.at c.args.takes.now c.args.path.now.list c.args.machines.now.works.s_machine c.do_instrs.new.machines.emach.calendar.modes ms q.begins c.begin.new.self.list c.begin.ensures.list

pub leave_records-requires-clause-works : goal.leave_records-requires-clause-works
leave_records-requires-clause-works g c = record {
  kept = c.requires.given.sound.form;
  places = c.requires.given.sound.places;
  shaped = c.in_default-read_instant.ensures.keeps.fitted.shaped;
  jobs = c.in_default-read_instant.ensures.keeps.jobs ∙ sym (c.jobs-3.ensures ∙ c.begin.ensures.path.are);
}

pub leave_records-requires-clause-list : goal.leave_records-requires-clause-list
leave_records-requires-clause-list g c =
    let es = c.requires.begins.0 in
    let q = c.requires.begins.1 in
    let t = c.args.program.now.tables.now in
    let r = c.read_instant.new.machines.works.s_machine in
    let b = has_begun_here g (goal.at.leave_records-requires-clause-list g c).After-schedule q in
    let u = turn_at t (instrs_of c.args.program.now.schedules.now) es c.args.at in
    record {
      of = subst (AreOf t) (sym (c.jobs-3.ensures ∙ c.begin.ensures.path.are ∙ b.jobs)) q.begins.of;
      form = λ runs. subst (IsInForm r) b.same (q.begins.form r (c.in_default-read_instant.ensures.keeps.jobs ∙ b.jobs));
      slots = subst (λ (z : List SInstr). length z ≤ 4294967295) b.same q.begins.short;
      stands = subst (Stands r) b.same b.told_at.stands;
      told = λ p pend. let late = at_told u.plan u.frame 0 (suc c.args.at) r (omega (arith, b.past)) b.told_at p pend in omega (arith, late);
    }

pub returns-in-Err-leave_records-clause-text : goal.returns-in-Err-leave_records-clause-text
returns-in-Err-leave_records-clause-text g c = λ es q.
    let at = goal.at.returns-in-Err-leave_records-clause-text g c in
    let s = switches_start q.closes in
    let r = reads_come g at.In_default q in
    let b = has_begun_here g at.After-schedule q in
    began_last c.args.program.now.tables.now c.args.program.now.code.now (instrs_of c.args.program.now.schedules.now) es c.args.program.now.show c.args.at _ _ _ _ _ _ _ _ _ _ _ (c.in_default.ensures.text es s) (c.in_default-read_instant.ensures.text es r)
    (fails_so _ _ _ _ _ c.in-Err-leave_records.failed c.in-Err-leave_records.failed (first_told c.args.program.now.tables.now (instrs_of c.args.program.now.schedules.now) es c.args.at c.begin.new.self.list c.schedule.result.now.instrs c.begin.new.s_machine c.read_instant.new.machines.works.s_machine b c.args.program.now.show c.node.result _ _ _ _ _ c.node.ensures c.in-Err-leave_records.ensures.text.running))

pub returns-clause-text : goal.returns-clause-text
returns-clause-text g c = λ es q.
    let at = goal.at.returns-clause-text g c in
    let s = switches_start q.closes in
    let r = reads_come g at.In_default q in
    let b = has_begun_here g at.After-schedule q in
    began_last c.args.program.now.tables.now c.args.program.now.code.now (instrs_of c.args.program.now.schedules.now) es c.args.program.now.show c.args.at _ _ _ _ _ _ _ _ _ _ _ (c.in_default.ensures.text es s) (c.in_default-read_instant.ensures.text es r)
    (ends_so _ _ _ _ _ _ _ (first_told c.args.program.now.tables.now (instrs_of c.args.program.now.schedules.now) es c.args.at c.begin.new.self.list c.schedule.result.now.instrs c.begin.new.s_machine c.read_instant.new.machines.works.s_machine b c.args.program.now.show c.node.result _ _ _ _ _ c.node.ensures c.in_default-leave_records.ensures.text.running))

pub returns-clause-events : goal.returns-clause-events
returns-clause-events g c = λ es q.
    let at = goal.at.returns-clause-events g c in
    let t = c.args.program.now.tables.now in
    let code = c.args.program.now.code.now in
    let lists = instrs_of c.args.program.now.schedules.now in
    let reads = phase_path t code es c.args.at 3 in
    let d = c.in_default.ensures.events es (switches_start q.closes) in
    let r = c.in_default-read_instant.ensures.events es (reads_come g at.In_default q) in
    let b = has_begun_here g at.After-schedule q in
    let left = c.in_default-leave_records.ensures.left in
    let then = c.read_instant.new.machines.works in
    let done = first_done t lists es c.args.at c.begin.new.self.list c.schedule.result.now.instrs c.begin.new.s_machine then.s_machine b c.leave_records.new.works.s_machine then.world c.leave_records.new.works.world left.records in
    record {
      counts =
          first_counted t lists es c.args.at c.begin.new.self.list c.schedule.result.now.instrs c.begin.new.s_machine then.s_machine b then.tally c.leave_records.new.works.tally left.counts
          ∙ ap (with_records (first_records t lists es c.args.at)) (r.counts ∙ ap (with_instrs (length reads)) d.counts);
      world = done.1 ∙ r.world ∙ ap (replay t code reads) d.world;
      s_machine = done.0;
      list = b.list_is;
      ends = r.ends;
    }

pub returns-clause-keeps : goal.returns-clause-keeps
returns-clause-keeps g c =
    let t = c.args.program.now.tables.now in
    let read = c.in_default-read_instant.ensures.keeps in
    let left = c.in_default-leave_records.ensures.left in
    let old = c.args.machines.now.works.world.values in
    let then = c.read_instant.new.machines.works.world.values in
    record {
      fitted =
          record {
            shaped = left.shaped;
            safe = read.fitted.safe;
            few = read.fitted.few;
            modules = read.fitted.modules;
            marked = subst (λ vs. MarksChanges c.read_instant.new.machines.noted vs c.read_instant.new.machines.emach.calendar.modes) (sym left.values) read.fitted.marked;
          };
      sensors =
          sensors_then t old then c.leave_records.new.works.world.values (sensors_then t old c.do_instrs.new.machines.works.world.values then c.in_default.ensures.keeps.part.sensors read.sensors)
          (sensors_same t then c.leave_records.new.works.world.values left.values);
      path = subst (IsPath t c.begin.new.self) (sym (left.jobs ∙ read.jobs)) c.begin.ensures.path;
    }

pub begin-requires-clause-path : goal.begin-requires-clause-path
begin-requires-clause-path g c = subst (IsPath c.args.program.now.tables.now c.args.path.now) (sym c.in_default.ensures.keeps.part.jobs) c.requires.given.path

pub begin-requires-clause-over : goal.begin-requires-clause-over
begin-requires-clause-over g c =
    let es = c.requires.begins.0 in
    let q = c.requires.begins.1 in
    let s = switches_start q.closes in
    let r = reads_come g (goal.at.begin-requires-clause-over g c).In_default q in
    ap (λ (r : Round). r.running) (c.in_default.ensures.events es s).s_machine ∙ c.requires.given.over

pub read_instant-requires-clause-given : goal.read_instant-requires-clause-given
read_instant-requires-clause-given g c = record {
  sound = c.requires.given.sound;
  at = c.requires.given.at;
  fitted = let kept = c.in_default.ensures.keeps.part.fitted in record { shaped = kept.shaped; safe = kept.safe; few = kept.few; modules = kept.modules; marked = kept.marked };
  jobs = sym (c.jobs-2.ensures ∙ c.begin.ensures.path.are);
}
