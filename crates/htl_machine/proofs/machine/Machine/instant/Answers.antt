use Rattle.std.proofs.Common.{◌≡◌, ◌∙◌, List, [], true, length, Err, Ok, refl, sym, ap, subst, arith}
use Rattle.htl_machine.proofs.Words.{Puts, Failed, Round, phase_path, HasValues, Schedule, IsToClose, IsToCloseAndBegin, Seen, IsUpTo, schedule_by, with_instrs, with_records, IsPath, first_records, IsOpened, AreOf, instrs_of, some_round_begins, Event, lines_of, schedules_of, Tally}
use Rattle.htl_machine.proofs.{After.passed_of, After.s_machine_goes_on, After.list_goes_on, After.over, After.s_machine_begins_so, After.list_begins, After.records_go_on, After.records_begin, Beginnings.ends_so, Beginnings.fails_so}
use Rattle.htl_machine.proofs.{Asking.sound_of, Asking.noted_of, Asking.begun_at, Asking.stood_at, Asking.counts_at, Ended.open_failed, Ended.going_closed, Ended.begun_closed_at, NumberedStarts.begins_so, Quiet.nothing_due, Viewing.seen_in}
use Rattle.htl_machine.proofs.{InstantGiven.IsGiven, InstantGiven.given, InstantGiven.given_closes, InstantGiven.given_begins, Ready.list_known, ShownOn.next_shown_up_to, ShownOn.noted_marks, Spent.spent_fits}
use Rattle.htl_runs.proofs.instants.ReleaseSteps.{replay_only}
use Rattle.htl_machine.proofs.Waits.{waiting_at, waiting_stays}
use Rattle.htl_machine.proofs.machine.Machine.instant.Given as here
use Rattle.htl_machine.proofs.machine.Machine.instant.Goals as goal
use Rattle.htl_machine.proofs.machine.Machine.instant.Goals.{After-ecode-code, In_default, After-round_begins, After-as_slice-takes}

-- ---- of each list of events that the machine follows: what an instant is given, what its first part leaves, what its last part asks for

given_here : (g : here.Over) (c : After-ecode-code g) {es : List Event} → IsUpTo c.args.self.now es c.args.at
    → IsGiven (seen_in c.self.inside) es c.args.at c.tables-t.result.now c.ecode-code.result.now c.self.inside.path.idle.instrs
given_here g c {es} before =
    given (seen_in c.self.inside) _ es c.args.at c.tables-t.result.now c.ecode-code.result.now c.self.inside.path.idle.instrs c.self.view_is c.self.invariant.accepted c.self.invariant.empty c.tables-t.ensures.value c.ecode-code.ensures
    c.requires.read before

opened_here : (g : here.Over) (c : In_default g) {es : List Event} → IsGiven (seen_in c.self.inside) es c.args.at c.tables-t.result.now c.ecode-code.result.now c.self.inside.path.idle.instrs
    → (let m = seen_in c.self.inside in
    IsOpened m.object.tables m.object.ecode es c.args.at (schedule_by m.object c.self.inside.path.idle.instrs m.list) m.run_state.shows c.settle.new.self.values m.run_state.s_machine m.run_state.world c.open_instant.new.machines.works.s_machine
    c.open_instant.new.machines.works.world)
opened_here g c {es} k = rw (c.tables-t.ensures.value, c.ecode-code.ensures, c.schedule.ensures, c.schedules-schedules.ensures) at ((c.in_default.ensures.events es k.follows).world)

closes_here : (g : here.Over) (c : In_default g) {es : List Event} → IsGiven (seen_in c.self.inside) es c.args.at c.tables-t.result.now c.ecode-code.result.now c.self.inside.path.idle.instrs
    → (let m = c.open_instant.new.machines in IsToClose c.tables-t.result.now c.ecode-code.result.now es c.args.at m.emach m.works.world m.noted.values m.noted.modes)
closes_here g c {es} k =
    given_closes (seen_in c.self.inside) es c.args.at _ _ _ k c.settle.new.self.values c.settle.ensures.values _ _ (opened_here g c k) _ (c.in_default.ensures.keeps.noted.values ∙ c.settle.ensures.values) _ (c.in_default.ensures.keeps.noted.modes ∙ c.settle.ensures.modes) _
    (c.in_default.ensures.events es k.follows).ends

-- whether a round begins is what the code found
begins_told : (g : here.Over) (c : After-round_begins g) → some_round_begins (seen_in c.self.inside).object.tables c.args.at ≡ c.round_begins.result
begins_told g c =
    let fresh = ap (λ (z : Seen). z.run_state.spent) c.self.view_is ∙ c.requires.before.1.kept.fresh in
    begins_so (seen_in c.self.inside).object c.self.inside.path.numbering c.args.at c.round_begins.result c.self.invariant.accepted (c.self.invariant.stands fresh).numbering c.round_begins.ensures

begins_here : (g : here.Over) (c : After-as_slice-takes g) {es : List Event} → IsGiven (seen_in c.self.inside) es c.args.at c.tables-t.result.now c.ecode-code.result.now c.self.inside.path.idle.instrs
    → some_round_begins (seen_in c.self.inside).object.tables c.args.at ≡ true
    → (let m = c.open_instant.new.machines in
    IsToCloseAndBegin c.tables-t.result.now c.ecode-code.result.now (instrs_of c.schedules-schedules.result.now) es c.args.at c.as_slice-takes.result.now c.self.inside.path.list m.works.s_machine m.emach m.works.world m.noted.values m.noted.modes)
begins_here g c {es} k b =
    let opened = rw (c.tables-t.ensures.value, c.ecode-code.ensures, c.schedule.ensures, c.schedules-schedules.ensures) at ((c.in_default.ensures.events es k.follows).world) in
    given_begins (seen_in c.self.inside) es c.args.at _ _ _ k c.settle.new.self.values c.settle.ensures.values _ _ opened _ (c.in_default.ensures.keeps.noted.values ∙ c.settle.ensures.values) _ (c.in_default.ensures.keeps.noted.modes ∙ c.settle.ensures.modes) _
    (c.in_default.ensures.events es k.follows).ends c.schedules-schedules.result.now _ c.schedules-schedules.ensures c.as_slice-takes.ensures b

-- ---- the answers

pub settle-requires-clause-comms : goal.settle-requires-clause-comms
settle-requires-clause-comms g c =
    let u = subst (λ (z : Seen). IsUpTo z c.requires.before.0 c.args.at) (sym c.self.view_is) c.requires.before.1 in
    omega (arith, u.before.values.shaped.values.count, c.self.invariant.accepted.spelled.formed.ranges.tables.few_comms)

pub settle-requires-clause-modules : goal.settle-requires-clause-modules
settle-requires-clause-modules g c =
    let u = subst (λ (z : Seen). IsUpTo z c.requires.before.0 c.args.at) (sym c.self.view_is) c.requires.before.1 in
    omega (arith, u.before.values.triggers.calendar.sized.modes, c.self.invariant.accepted.spelled.formed.ranges.tables.few_modules)

pub settle-requires-clause-marked : goal.settle-requires-clause-marked
settle-requires-clause-marked g c = c.self.invariant.marked (ap (λ (z : Seen). z.run_state.spent) c.self.view_is ∙ c.requires.before.1.kept.fresh)

pub schedule-requires : goal.schedule-requires
schedule-requires g c =
    let u = subst (λ (z : Seen). IsUpTo z c.requires.before.0 c.args.at) (sym c.self.view_is) c.requires.before.1 in
    rw c.schedules-schedules.ensures (list_known (seen_in c.self.inside) c.requires.before.0 c.args.at c.self.invariant.accepted u)

pub open_instant-requires-clause-given : goal.open_instant-requires-clause-given
open_instant-requires-clause-given g c =
    let w = c.requires.before in
    let m = seen_in c.self.inside in
    let u = subst (λ (z : Seen). IsUpTo z w.0 c.args.at) (sym c.self.view_is) w.1 in
    let k = given_here g (goal.at.open_instant-requires-clause-given g c).After-ecode-code w.1 in
    let fresh = ap (λ (z : Seen). z.run_state.spent) c.self.view_is ∙ w.1.kept.fresh in
    let noted = noted_of m w.0 c.args.at c.tables-t.result.now _ _ u c.tables-t.ensures.value c.settle.ensures.values c.settle.ensures.modes in
    let jobs = sym (c.jobs.ensures ∙ (c.self.invariant.stands fresh).are) in
    record {
      part =
          record {
            sound = sound_of m c.tables-t.result.now c.ecode-code.result.now c.tables-t.ensures.value c.ecode-code.ensures c.self.invariant.accepted;
            at = c.requires.at;
            fitted =
                record {
                  shaped = rw c.tables-t.ensures.value u.before.values.shaped;
                  safe = rw (c.tables-t.ensures.value, c.ecode-code.ensures) u.before.values.safe;
                  few = noted.few;
                  modules = noted.modules;
                  marked = noted_marks c.settle.new.self _ _ c.settle.ensures.values c.settle.ensures.modes;
                };
            jobs = jobs;
          };
      list =
          record {
            of = rw c.tables-t.ensures.value (subst (AreOf m.object.tables) jobs k.ready.of);
            form = rw (c.schedule.ensures, c.schedules-schedules.ensures) k.ready.form;
            slots = rw (c.schedule.ensures, c.schedules-schedules.ensures) k.ready.short;
            stands = rw (c.schedule.ensures, c.schedules-schedules.ensures) k.ready.stands;
            told = k.ready.told;
          };
      sensors =
          record {
            shows = rw c.tables-t.ensures.value u.kept.fits;
            values = rw c.tables-t.ensures.value (subst (HasValues c.self.inside.loaded.now.tables) (sym c.settle.ensures.values) u.before.values.shaped.values);
            before = c.settle.ensures.values;
            waiting = waiting_at c.tables-t.result.now c.self.inside.loaded.now.tables c.self.inside.sensors _ c.tables-t.ensures.value (c.self.invariant.waiting fresh);
          };
    }

pub open_instant-requires-clause-follows : goal.open_instant-requires-clause-follows
open_instant-requires-clause-follows g c =
    let w = c.requires.before in
    let k = given_here g (goal.at.open_instant-requires-clause-follows g c).After-ecode-code w.1 in
    (w.0, k.follows)

pub returns-in-Err-clause-text : goal.returns-in-Err-clause-text
returns-in-Err-clause-text g c = λ es before.
    let m = seen_in c.self.inside in
    let k = given_here g (goal.at.returns-in-Err-clause-text g c).After-ecode-code before in
    let text = rw (c.tables-t.ensures.value, c.ecode-code.ensures, c.schedule.ensures, c.schedules-schedules.ensures, c.node.ensures) at ((c.in-Err.ensures.text es k.follows).running) in
    subst (λ (z : Seen). Puts {T = Unit {0}} {E = Failed} (g.W.Sink.written c.args.sink.now) (g.W.Sink.written c.open_instant.new.sink) (g.W.Sink.faults c.args.sink.now) (g.W.Sink.faults c.open_instant.new.sink) (lines_of z.object es z.show c.args.at) (Err c.in-Err.failed))
    c.self.view_is (open_failed m es c.args.at k.accepted k.later k.up _ k.ready _ _ _ _ _ _ text)

pub round_begins-requires : goal.round_begins-requires
round_begins-requires g c =
    let n = (c.self.invariant.stands (ap (λ (z : Seen). z.run_state.spent) c.self.view_is ∙ (c.requires.before).1.kept.fresh)).numbering in
    omega (arith, n.starts_many, n.few)

pub close_and_begin-requires-clause-given : goal.close_and_begin-requires-clause-given
close_and_begin-requires-clause-given g c =
    let at = goal.at.close_and_begin-requires-clause-given g c in
    let w = c.requires.before in
    let m = seen_in c.self.inside in
    let k = given_here g at.After-ecode-code w.1 in
    let opened = opened_here g at.In_default k in
    let b = begins_told g at.After-round_begins ∙ c.if-round_begins.true in
    let fresh = ap (λ (z : Seen). z.run_state.spent) c.self.view_is ∙ w.1.kept.fresh in
    record {
      sound = sound_of m c.tables-t.result.now c.ecode-code.result.now c.tables-t.ensures.value c.ecode-code.ensures c.self.invariant.accepted;
      at = c.requires.at;
      fitted = c.in_default.ensures.keeps.fitted;
      path =
          subst (λ t. IsPath t c.self.inside.path c.open_instant.new.machines.works.s_machine.jobs) (sym c.tables-t.ensures.value)
          (subst (IsPath c.self.inside.loaded.now.tables c.self.inside.path) (sym c.in_default.ensures.keeps.jobs) (c.self.invariant.stands fresh));
      over = (over m w.0 c.args.at k.accepted k.later k.up _ c.self.inside.path.idle.instrs refl c.self.invariant.empty k.ready _ _ b opened.records).0;
    }

pub close_and_begin-requires-clause-begins : goal.close_and_begin-requires-clause-begins
close_and_begin-requires-clause-begins g c =
    let at = goal.at.close_and_begin-requires-clause-begins g c in
    let w = c.requires.before in
    let k = given_here g at.After-ecode-code w.1 in
    let b = begins_told g at.After-round_begins ∙ c.if-round_begins.true in
    (w.0, begins_here g at.After-as_slice-takes k b)

pub close_instant-requires-clause-given : goal.close_instant-requires-clause-given
close_instant-requires-clause-given g c =
    let fresh = ap (λ (z : Seen). z.run_state.spent) c.self.view_is ∙ c.requires.before.1.kept.fresh in
    record {
      sound = sound_of (seen_in c.self.inside) c.tables-t.result.now c.ecode-code.result.now c.tables-t.ensures.value c.ecode-code.ensures c.self.invariant.accepted;
      at = c.requires.at;
      fitted = c.in_default.ensures.keeps.fitted;
      jobs = c.in_default.ensures.keeps.jobs ∙ sym (c.jobs-else-round_begins.ensures ∙ (c.self.invariant.stands fresh).are);
    }

pub close_instant-requires-clause-closes : goal.close_instant-requires-clause-closes
close_instant-requires-clause-closes g c =
    let at = goal.at.close_instant-requires-clause-closes g c in
    let w = c.requires.before in
    let k = given_here g at.After-ecode-code w.1 in
    (w.0, closes_here g at.In_default k)

pub returns-in-Err-close_instant-clause-text : goal.returns-in-Err-close_instant-clause-text
returns-in-Err-close_instant-clause-text g c = λ es before.
    let at = goal.at.returns-in-Err-close_instant-clause-text g c in
    let m = seen_in c.self.inside in
    let k = given_here g at.After-ecode-code before in
    let b = begins_told g at.After-round_begins ∙ c.if-round_begins.false in
    let q = closes_here g at.In_default k in
    let text = rw (c.tables-t.ensures.value, c.ecode-code.ensures, c.schedule.ensures, c.schedules-schedules.ensures, c.node.ensures) at ((c.in_default.ensures.text es k.follows).running) in
    let rest = rw (c.tables-t.ensures.value, c.ecode-code.ensures) at (c.in-Err-close_instant.ensures.text es q) in
    subst (λ (z : Seen). Puts {T = Unit {0}} {E = Failed} (g.W.Sink.written c.args.sink.now) (g.W.Sink.written c.close_instant.new.sink) (g.W.Sink.faults c.args.sink.now) (g.W.Sink.faults c.close_instant.new.sink) (lines_of z.object es z.show c.args.at) (Err c.in-Err-close_instant.failed))
    c.self.view_is (going_closed m es c.args.at k.accepted k.later k.up _ k.ready _ _ _ _ _ _ _ _ b text (fails_so _ _ _ _ _ _ c.in-Err-close_instant.failed rest))

pub invariant_of-self-in_default-close_instant : goal.invariant_of-self-in_default-close_instant
invariant_of-self-in_default-close_instant g c =
    let at = goal.at.invariant_of-self-in_default-close_instant g c in
    let w = c.requires.before in
    let m = seen_in c.self.inside in
    let k = given_here g at.After-ecode-code w.1 in
    let q = closes_here g at.In_default k in
    let kept = c.self.invariant in
    let s_machine = (c.in_default-close_instant.ensures.events w.0 q).s_machine in
    record {
      accepted = kept.accepted;
      all_shows = ap length c.in_default.ensures.shows ∙ kept.all_shows;
      all_takes = kept.all_takes;
      few = kept.few;
      stands = λ free.
          subst (IsPath m.object.tables c.self.inside.path)
          (sym (ap (λ (z : Round). z.jobs) s_machine ∙ (replay_only c.ecode-code.result.now (phase_path c.tables-t.result.now c.ecode-code.result.now w.0 c.args.at 3) c.open_instant.new.machines.works.s_machine).0 ∙ c.in_default.ensures.keeps.jobs)) (kept.stands free);
      marked = λ free. c.in_default-close_instant.ensures.keeps.fitted.marked;
      waiting = λ free.
          waiting_at m.object.tables c.tables-t.result.now c.open_instant.new.sensors c.close_instant.new.machines.works.world.values (sym c.tables-t.ensures.value)
          (waiting_stays c.tables-t.result.now c.open_instant.new.sensors c.open_instant.new.machines.works.world.values c.close_instant.new.machines.works.world.values c.in_default.ensures.keeps.waiting c.in_default-close_instant.ensures.keeps.sensors);
      empty = kept.empty;
      quiet = λ free. nothing_due _ _;
    }

pub invariant_of-self-in_default-close_and_begin : goal.invariant_of-self-in_default-close_and_begin
invariant_of-self-in_default-close_and_begin g c =
    let m = seen_in c.self.inside in
    let kept = c.self.invariant in
    record {
      accepted = kept.accepted;
      all_shows = ap length c.in_default.ensures.shows ∙ kept.all_shows;
      all_takes = kept.all_takes;
      few = c.in_default-close_and_begin.ensures.path.few;
      stands = λ free. subst (λ t. IsPath t c.close_and_begin.new.path c.close_and_begin.new.machines.works.s_machine.jobs) c.tables-t.ensures.value c.in_default-close_and_begin.ensures.keeps.path;
      marked = λ free. c.in_default-close_and_begin.ensures.keeps.fitted.marked;
      waiting = λ free.
          waiting_at m.object.tables c.tables-t.result.now c.open_instant.new.sensors c.close_and_begin.new.machines.works.world.values (sym c.tables-t.ensures.value)
          (waiting_stays c.tables-t.result.now c.open_instant.new.sensors c.open_instant.new.machines.works.world.values c.close_and_begin.new.machines.works.world.values c.in_default.ensures.keeps.waiting c.in_default-close_and_begin.ensures.keeps.sensors);
      empty = ap (λ (x : Schedule). x.instrs) c.in_default-close_and_begin.ensures.path.idle ∙ kept.empty;
      quiet = λ free. nothing_due _ _;
    }

pub returns-in_default-close_and_begin-clause-text : goal.returns-in_default-close_and_begin-clause-text
returns-in_default-close_and_begin-clause-text g c = λ es before.
    let at = goal.at.returns-in_default-close_and_begin-clause-text g c in
    let m = seen_in c.self.inside in
    let k = given_here g at.After-ecode-code before in
    let b = begins_told g at.After-round_begins ∙ c.if-round_begins.true in
    let q = begins_here g at.After-as_slice-takes k b in
    let text = rw (c.tables-t.ensures.value, c.ecode-code.ensures, c.schedule.ensures, c.schedules-schedules.ensures, c.node.ensures) at ((c.in_default.ensures.text es k.follows).running) in
    subst (λ (z : Seen). Puts {T = Unit {0}} {E = Failed} (g.W.Sink.written c.args.sink.now) (g.W.Sink.written c.close_and_begin.new.sink) (g.W.Sink.faults c.args.sink.now) (g.W.Sink.faults c.close_and_begin.new.sink) (lines_of z.object es z.show c.args.at) (Ok _))
    c.self.view_is (begun_closed_at m es c.args.at k.accepted k.later k.up _ k.ready c.tables-t.result.now c.ecode-code.result.now c.schedules-schedules.result.now _ _ _ _ _ _ _ _ c.tables-t.ensures.value c.ecode-code.ensures c.schedules-schedules.ensures b text (ends_so _ _ _ _ _ _ _ (c.in_default-close_and_begin.ensures.text es q)))

pub returns-in_default-close_and_begin-clause-before : goal.returns-in_default-close_and_begin-clause-before
returns-in_default-close_and_begin-clause-before g c = λ es before.
    let at = goal.at.returns-in_default-close_and_begin-clause-before g c in
    let m = seen_in c.self.inside in
    let k = given_here g at.After-ecode-code before in
    let opened = opened_here g at.In_default k in
    let same = c.settle.ensures.values ∙ k.up.before.values.values.values in
    let b = begins_told g at.After-round_begins ∙ c.if-round_begins.true in
    let q = begins_here g at.After-as_slice-takes k b in
    let counts = rw (c.tables-t.ensures.value, c.ecode-code.ensures, c.schedule.ensures, c.schedules-schedules.ensures) at ((c.in_default.ensures.events es k.follows).counts) in
    let more = counts_at m.object es c.args.at c.tables-t.result.now c.ecode-code.result.now c.schedules-schedules.result.now c.close_and_begin.new.machines.works.tally c.open_instant.new.machines.works.tally c.tables-t.ensures.value c.ecode-code.ensures c.schedules-schedules.ensures (c.in_default-close_and_begin.ensures.events es q).counts in
    let world = rw (c.tables-t.ensures.value, c.ecode-code.ensures) at ((c.in_default-close_and_begin.ensures.events es q).world) in
    let safe = rw (c.tables-t.ensures.value, c.ecode-code.ensures) at c.in_default-close_and_begin.ensures.keeps.fitted.safe in
    let shaped = rw c.tables-t.ensures.value at c.in_default-close_and_begin.ensures.keeps.fitted.shaped in
    let reads = rw (c.tables-t.ensures.value, c.ecode-code.ensures) at ((c.in_default-close_and_begin.ensures.events es q).ends) in
    let s_machine = begun_at m.object es c.args.at c.tables-t.result.now c.schedules-schedules.result.now c.close_and_begin.new.machines.works.s_machine c.tables-t.ensures.value c.schedules-schedules.ensures (c.in_default-close_and_begin.ensures.events es q).s_machine in
    let stood = stood_at m.object es c.args.at c.tables-t.result.now c.schedules-schedules.result.now c.close_and_begin.new.path.list c.tables-t.ensures.value c.schedules-schedules.ensures (c.in_default-close_and_begin.ensures.events es q).list in
    let tail : Tally → Tally = λ n. with_records (first_records m.object.tables (schedules_of m.object) es c.args.at) (with_instrs (length (phase_path m.object.tables m.object.ecode es c.args.at 3)) (with_instrs (length (phase_path m.object.tables m.object.ecode es c.args.at 2)) n)) in
    next_shown_up_to m es c.args.at k.accepted k.later k.up c.open_instant.new.sensors.shows c.close_and_begin.new.machines.works.world c.close_and_begin.new.machines.works.s_machine c.close_and_begin.new.machines.emach _ _ (first_records m.object.tables (schedules_of m.object) es c.args.at) c.self.inside.machines.works.tally c.close_and_begin.new.machines.works.tally c.in_default.ensures.shows
    (passed_of m es c.args.at k.accepted k.later k.up _ k.ready c.settle.new.self.values same _ _ opened _ _ world reads safe shaped)
    (s_machine_begins_so m es c.args.at k.accepted k.later k.up _ b s_machine)
    (list_begins m es c.args.at k.accepted k.later k.up _ b stood)
    (records_begin m es c.args.at k.accepted k.later k.up _ k.ready b)
    refl
    (more ∙ ap tail (counts k.ready.plan k.ready.start k.ready.place k.ready.offset k.ready.same k.ready.past k.ready.few k.ready.was))

pub returns-in-Err-close_and_begin-clause-text : goal.returns-in-Err-close_and_begin-clause-text
returns-in-Err-close_and_begin-clause-text g c = λ es before.
    let at = goal.at.returns-in-Err-close_and_begin-clause-text g c in
    let m = seen_in c.self.inside in
    let k = given_here g at.After-ecode-code before in
    let b = begins_told g at.After-round_begins ∙ c.if-round_begins.true in
    let q = begins_here g at.After-as_slice-takes k b in
    let text = rw (c.tables-t.ensures.value, c.ecode-code.ensures, c.schedule.ensures, c.schedules-schedules.ensures, c.node.ensures) at ((c.in_default.ensures.text es k.follows).running) in
    subst (λ (z : Seen). Puts {T = Unit {0}} {E = Failed} (g.W.Sink.written c.args.sink.now) (g.W.Sink.written c.close_and_begin.new.sink) (g.W.Sink.faults c.args.sink.now) (g.W.Sink.faults c.close_and_begin.new.sink) (lines_of z.object es z.show c.args.at) (Err c.in-Err-close_and_begin.failed))
    c.self.view_is (begun_closed_at m es c.args.at k.accepted k.later k.up _ k.ready c.tables-t.result.now c.ecode-code.result.now c.schedules-schedules.result.now _ _ _ _ _ _ _ _ c.tables-t.ensures.value c.ecode-code.ensures c.schedules-schedules.ensures b text (fails_so _ _ _ _ _ _ c.in-Err-close_and_begin.failed (c.in-Err-close_and_begin.ensures.text es q)))

pub returns-in_default-close_instant-clause-text : goal.returns-in_default-close_instant-clause-text
returns-in_default-close_instant-clause-text g c = λ es before.
    let at = goal.at.returns-in_default-close_instant-clause-text g c in
    let m = seen_in c.self.inside in
    let k = given_here g at.After-ecode-code before in
    let b = begins_told g at.After-round_begins ∙ c.if-round_begins.false in
    let q = closes_here g at.In_default k in
    let text = rw (c.tables-t.ensures.value, c.ecode-code.ensures, c.schedule.ensures, c.schedules-schedules.ensures, c.node.ensures) at ((c.in_default.ensures.text es k.follows).running) in
    let rest = rw (c.tables-t.ensures.value, c.ecode-code.ensures) at (c.in_default-close_instant.ensures.text es q) in
    subst (λ (z : Seen). Puts {T = Unit {0}} {E = Failed} (g.W.Sink.written c.args.sink.now) (g.W.Sink.written c.close_instant.new.sink) (g.W.Sink.faults c.args.sink.now) (g.W.Sink.faults c.close_instant.new.sink) (lines_of z.object es z.show c.args.at) (Ok _))
    c.self.view_is (going_closed m es c.args.at k.accepted k.later k.up _ k.ready _ _ _ _ _ _ _ _ b text (ends_so _ _ _ _ _ _ _ rest))

pub returns-in_default-close_instant-clause-before : goal.returns-in_default-close_instant-clause-before
returns-in_default-close_instant-clause-before g c = λ es before.
    let at = goal.at.returns-in_default-close_instant-clause-before g c in
    let m = seen_in c.self.inside in
    let k = given_here g at.After-ecode-code before in
    let opened = opened_here g at.In_default k in
    let same = c.settle.ensures.values ∙ k.up.before.values.values.values in
    let b = begins_told g at.After-round_begins ∙ c.if-round_begins.false in
    let q = closes_here g at.In_default k in
    let counts = rw (c.tables-t.ensures.value, c.ecode-code.ensures, c.schedule.ensures, c.schedules-schedules.ensures) at ((c.in_default.ensures.events es k.follows).counts) in
    let more = rw (c.tables-t.ensures.value, c.ecode-code.ensures) at ((c.in_default-close_instant.ensures.events es q).counts) in
    let world = rw (c.tables-t.ensures.value, c.ecode-code.ensures) at ((c.in_default-close_instant.ensures.events es q).world) in
    let safe = rw (c.tables-t.ensures.value, c.ecode-code.ensures) at c.in_default-close_instant.ensures.keeps.fitted.safe in
    let shaped = rw c.tables-t.ensures.value at c.in_default-close_instant.ensures.keeps.fitted.shaped in
    let reads = rw (c.tables-t.ensures.value, c.ecode-code.ensures) at ((c.in_default-close_instant.ensures.events es q).ends) in
    let s_machine = rw (c.tables-t.ensures.value, c.ecode-code.ensures) at ((c.in_default-close_instant.ensures.events es q).s_machine) in
    let stands = c.in_default-close_instant.ensures.keeps.stands _ (rw (c.schedule.ensures, c.schedules-schedules.ensures) at c.in_default.ensures.keeps.stands) in
    let tail : Tally → Tally = λ n. with_instrs (length (phase_path m.object.tables m.object.ecode es c.args.at 3)) (with_instrs (length (phase_path m.object.tables m.object.ecode es c.args.at 2)) n) in
    next_shown_up_to m es c.args.at k.accepted k.later k.up c.open_instant.new.sensors.shows c.close_instant.new.machines.works.world c.close_instant.new.machines.works.s_machine c.close_instant.new.machines.emach _ _ [] c.self.inside.machines.works.tally c.close_instant.new.machines.works.tally c.in_default.ensures.shows
    (passed_of m es c.args.at k.accepted k.later k.up _ k.ready c.settle.new.self.values same _ _ opened _ _ world reads safe shaped)
    (s_machine_goes_on m es c.args.at k.accepted k.later k.up _ c.self.inside.path.idle.instrs refl c.self.invariant.empty k.ready _ _ _ b opened.records s_machine stands)
    (list_goes_on m es c.args.at k.accepted k.later k.up b)
    (records_go_on m es c.args.at k.accepted k.later k.up _ k.ready b)
    refl
    (more ∙ ap tail (counts k.ready.plan k.ready.start k.ready.place k.ready.offset k.ready.same k.ready.past k.ready.few k.ready.was))

pub invariant_of-self : goal.invariant_of-self
invariant_of-self g c = spent_fits _ c.open_instant.new.sensors _ c.self.inside.path _ refl c.self.invariant.accepted (ap length c.in-Err.ensures.shows ∙ c.self.invariant.all_shows) c.self.invariant.all_takes c.self.invariant.few c.self.invariant.empty

pub invariant_of-self-in-Err-close_and_begin : goal.invariant_of-self-in-Err-close_and_begin
invariant_of-self-in-Err-close_and_begin g c = spent_fits _ c.open_instant.new.sensors _ c.close_and_begin.new.path _ refl c.self.invariant.accepted (ap length c.in_default.ensures.shows ∙ c.self.invariant.all_shows) c.self.invariant.all_takes c.in-Err-close_and_begin.ensures.path.few (ap (λ (x : Schedule). x.instrs) c.in-Err-close_and_begin.ensures.path.idle ∙ c.self.invariant.empty)

pub invariant_of-self-in-Err-close_instant : goal.invariant_of-self-in-Err-close_instant
invariant_of-self-in-Err-close_instant g c = spent_fits _ c.open_instant.new.sensors _ c.self.inside.path _ refl c.self.invariant.accepted (ap length c.in_default.ensures.shows ∙ c.self.invariant.all_shows) c.self.invariant.all_takes c.self.invariant.few c.self.invariant.empty

pub returns-in-Err-clause-same : goal.returns-in-Err-clause-same
returns-in-Err-clause-same g c = record { object = ap (λ (z : Seen). z.object) c.self.view_is; show = ap (λ (z : Seen). z.show) c.self.view_is }

pub returns-in-Err-close_and_begin-clause-same : goal.returns-in-Err-close_and_begin-clause-same
returns-in-Err-close_and_begin-clause-same g c = record { object = ap (λ (z : Seen). z.object) c.self.view_is; show = ap (λ (z : Seen). z.show) c.self.view_is }

pub returns-in-Err-close_instant-clause-same : goal.returns-in-Err-close_instant-clause-same
returns-in-Err-close_instant-clause-same g c = record { object = ap (λ (z : Seen). z.object) c.self.view_is; show = ap (λ (z : Seen). z.show) c.self.view_is }

pub returns-in_default-close_and_begin-clause-same : goal.returns-in_default-close_and_begin-clause-same
returns-in_default-close_and_begin-clause-same g c = record { object = ap (λ (z : Seen). z.object) c.self.view_is; show = ap (λ (z : Seen). z.show) c.self.view_is }

pub returns-in_default-close_instant-clause-same : goal.returns-in_default-close_instant-clause-same
returns-in_default-close_instant-clause-same g c = record { object = ap (λ (z : Seen). z.object) c.self.view_is; show = ap (λ (z : Seen). z.show) c.self.view_is }
