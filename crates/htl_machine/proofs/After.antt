-- An instant once its parts are done: what the calls said carries the machine to the next.
use Rattle.std.proofs.Common.{◌≡◌, ℕ, zero, suc, ◌-◌, cond, ◌&&◌, leb, get_or, ◌≤◌, ◌<◌, ◌+◌, ◌^◌, min, Bool, true, false, eqb, List, [], ◌∷◌, ◌++◌, length, Option, Some, None, ℤ, refl, sym, ap, ◌∙◌, subst, arith, inl, inr}
use Rattle.htl_machine.proofs.Words.{All, eqb-true, cases_lt, get_or-map, get_or_past, length-map, slice_get_past, Event, Inv, joined, IsCommInRange, hyper, Tables, task_worst, state, sense, Schedule, SInstr, Round, IsShort, ECode, Standing, Content, Onward, phase_path, StandsSafely, IsShaped, IsAccepted, AreTookWithin, inv_worst, last_took, took, Tally, ListAt, IsToBegin, Seen, IsUpTo, GoesBy, schedule_by, path_lines, IsLoaded, SMachineAt, SMachineFollows, IsReadyAt, due_by, IsOpened, closing_text, plan_text, first_records, beginning_text, schedules_of, lines_of, s_machine_replay, Records, replay, AreShown, record_text, record_of, some_records, new_records, plan_records, standing_new, new_lines, records_at, e_path, instrs_of, some_round_begins, values_before, Passed, with_sensors, turn_at, IsAtEnd, node_by, turn_list, nodes_few, each_at}
use Rattle.htl_model.specs.declared.event.Event.TheVariants as V
use Rattle.htl_smach.specs.declared.left.Left.{Left}
use Rattle.htl_smach.specs.Rounds as rounds
use Rattle.htl_runs.specs.lists.RecordEffects.{with_records}
use Rattle.htl_runs.proofs.{jobs.Accepted.accepted_is_loaded, events.NextReading.instant_values, events.NextInstant.modes_read, events.NextInstant.valued_next, instants.BothMachines.next_is, instants.BothMachines.switch_values}
use Rattle.htl_machine.proofs.{Composing.instant_composed, Composing.counts_after, Composing.jobs_are, Composing.e_are, Composing.s_are, Composing.new_going, Composing.new_beginning, Composing.records_composed, Ready.node_known}
use Rattle.htl_runs.proofs.{lists.LoadedLists.loaded_code, values.SensorValues.sensors_are, lines.Joined.joined-map, lines.LoadedRecords.loaded_new}
use Rattle.htl_machine.proofs.{NextStands.IsScheduleOf, NextStands.beginning, NextStands.going, NextStands.going_s_machine, NextStands.going_on, NextStands.list_over, NextStands.begun_s_machine, NextStands.begun_goes, ToBegin.is_to_begin}

-- ---- lengths that are kept

-- nothing was told of an invocation that isn't there
never_took : (t : Tables) (i u at : ℕ) (es : List Event) → inv_worst t i ≡ 0 → AreTookWithin t es → last_took i u at 0 es ≡ 0
never_took t i u at [] none h = refl
never_took t i u at (V.At n ∷ es) none h = never_took t i u n es none h.1
never_took t i u at (V.Sense c x ∷ es) none h = never_took t i u at es none h.1
never_took t i u at (V.End n ∷ es) none h = never_took t i u at es none h.1
never_took t i u at (V.Took j n ∷ es) none h = ap (λ x. last_took i u at x es) (by (eqb i j) (leb at u) refl) ∙ never_took t i u at es none h.1
  where
    by : (b c : Bool) → eqb i j ≡ b → cond (b && c) n 0 ≡ 0
    by false c e = refl
    by true false e = refl
    by true true e = absurd (omega (arith, h.0.0, h.0.1, ap (inv_worst t) (eqb-true i j e), none))

-- each schedule is short
short_at : (ss : List Schedule) → All IsShort ss → (k : ℕ) → length (get_or (instrs_of ss) k []) ≤ 4294967295
short_at ss all k = elim (cases_lt k (length ss)) [
  | inl less ↦ (let x : Schedule = record { instrs = [] } in
      subst (λ (is : List SInstr). length is ≤ 4294967295) (sym (get_or-map (λ (s : Schedule). s.instrs) ss k x [] less)) (all k x less))
  | inr past ↦ subst (λ (is : List SInstr). length is ≤ 4294967295) (sym (get_or_past (instrs_of ss) k [] (let same : length (instrs_of ss) ≡ length ss = length-map ss (λ (s : Schedule). s.instrs) in omega (arith, past, same)))) (omega arith)
]

module _ (m : Seen) (es : List Event) (now : ℕ) (accepted : IsAccepted m.object) (read : m.run_state.reading ≤ now) (u : IsUpTo m es now) where
  abbrev t : Tables
  t = m.object.tables

  abbrev code : ECode
  code = m.object.ecode

  abbrev schedules : List (List SInstr)
  schedules = schedules_of m.object

  loaded : IsLoaded m.object.tables (schedules_of m.object)
  loaded = accepted_is_loaded m.object accepted

  -- after the first part
  module _ (steps : List SInstr) (r : IsReadyAt m es now steps) (values : List ℤ) (same : values ≡ values_before m.object.tables es now) (d1 : Round) (w3 : Content)
      (a : IsOpened m.object.tables m.object.ecode es now steps m.run_state.shows values m.run_state.s_machine m.run_state.world d1 w3) where
    recorded_is : a.w1 ≡ with_records t (turn_at t schedules es) now m.run_state.world
    recorded_is = r.recorded d1 a.w1 a.records

    sensed_is : w3 ≡ with_sensors t (sense t es) now a.w2
    sensed_is =
        sensors_are t es now m.run_state.shows a.w2 w3 (λ c x at. let s : 0 < x.period = omega (arith, (each_at IsCommInRange t.comms loaded.range.comms c x at).period.some) in s)
        (λ c less. u.kept.shows c now less (omega (arith, u.kept.reading, read))) (subst (λ z. AreShown t m.run_state.shows z now a.w2 w3) same a.sensors)

    -- the values that the switches ask for
    pub opened_values : w3.values ≡ (state m.object.tables es now).values
    opened_values =
        switch_values t code schedules loaded (modes_read t code accepted.spelled.code) es u.kept.within now m.run_state.world a.w1 a.w2 w3 u.before.values.values u.before.values.shaped recorded_is a.writes sensed_is

    abbrev w4 : Content
    w4 = replay t code (phase_path t code es now 2) w3

    abbrev w5 : Content
    w5 = replay t code (phase_path t code es now 3) w4

    -- switches and reads change no value that is due
    pub closed_values : (replay m.object.tables m.object.ecode (phase_path m.object.tables m.object.ecode es now 3) (replay m.object.tables m.object.ecode (phase_path m.object.tables m.object.ecode es now 2) w3)).values
        ≡ (state m.object.tables es now).values
    closed_values =
        ap (λ (z : Content). z.values)
        (next_is t code schedules loaded (modes_read t code accepted.spelled.code) es u.kept.within now m.run_state.world a.w1 a.w2 w3 w4 w5 recorded_is a.writes sensed_is refl refl)
        ∙ (instant_values t schedules loaded es u.kept.within now m.run_state.world u.before.values.values u.before.values.shaped).values

    -- what the calls of the instant said
    pub passed_of : (world : Content) (e1 : Standing)
        → world ≡ replay m.object.tables m.object.ecode (phase_path m.object.tables m.object.ecode es now 3) (replay m.object.tables m.object.ecode (phase_path m.object.tables m.object.ecode es now 2) w3)
        → Onward m.object.tables m.object.ecode es now 3 e1 (phase_path m.object.tables m.object.ecode es now 3) [] None → StandsSafely m.object.tables m.object.ecode e1 → IsShaped m.object.tables world
        → Passed m.object.tables m.object.ecode (schedules_of m.object) es now m.run_state.world world e1
    passed_of world e1 is ends safe shaped =
        record {
          recorded = a.w1;
          wrote = a.w2;
          sensed = w3;
          switched = w4;
          records = recorded_is;
          writes = a.writes;
          sensors = sensed_is;
          switches = refl;
          reads = is;
          ends = ends;
          safe = safe;
          shaped = shaped;
        }

  -- the lines of the parts are those of the instant
  pub lines_are_composed : (steps : List SInstr) (r : IsReadyAt m es now steps) (new : List ℕ) → new ≡ new_lines m.object.tables (schedules_of m.object) es m.show (hyper m.object.tables) now
      → (joined (plan_text m.object.tables m.show r.plan (node_by m.list)) (some_records r.plan r.start r.place (due_by r.plan r.start now - r.place))
      ++ path_lines m.object.tables m.object.ecode m.show now (phase_path m.object.tables m.object.ecode es now 1))
      ++ (closing_text m.object.tables m.object.ecode es m.show now ++ new)
      ≡ lines_of m.object es m.show now
  lines_are_composed steps r new is =
      instant_composed t code schedules es m.show now _ new
      (sym (joined-map (record_text t m.show) (record_of r.plan.jobs (node_by m.list) r.plan.schedule) (some_records r.plan r.start r.place (due_by r.plan r.start now - r.place))) ∙ ap (joined (record_text t m.show)) r.owed) is

  -- the machine after the instant, counts and all
  pub next_up_to : (world : Content) (s_machine : Round) (e1 : Standing) (last : Option ListAt) (old new : List Left) (start n : Tally)
      → Passed m.object.tables m.object.ecode (schedules_of m.object) es now m.run_state.world world e1
      → SMachineFollows (turn_at m.object.tables (schedules_of m.object) es) (hyper m.object.tables) (suc now) s_machine
      → GoesBy (turn_at m.object.tables (schedules_of m.object) es) (hyper m.object.tables) (suc now) last
      → records_at m.object.tables (schedules_of m.object) es now ≡ old ++ new
      → start ≡ record { jobs = m.jobs; e = m.e; s = m.s }
      → n ≡ counts_after old new (length (phase_path m.object.tables m.object.ecode es now 1)) (length (phase_path m.object.tables m.object.ecode es now 2)) (length (phase_path m.object.tables m.object.ecode es now 3)) start
      → IsUpTo (record m { run_state = record m.run_state { world = world; s_machine = s_machine }; standing = e1; list = last; jobs = n.jobs; e = n.e; s = n.s }) es (suc now)
  next_up_to world s_machine e1 last old new start n passed follows goes are was is =
      let b = u.before in
      let e_was : start.e ≡ m.e = ap (λ (z : Tally). z.e) was in
      record {
        kept =
            record {
              fresh = u.kept.fresh;
              reading = u.kept.reading;
              within = u.kept.within;
              fits = u.kept.fits;
              shows = u.kept.shows;
              takes = u.kept.takes;
              count = u.kept.count;
            };
        before =
            record {
              values =
                  valued_next t code schedules loaded accepted.spelled.code es u.kept.within now m.standing e1 m.run_state.world world m.e n.e b.values passed
                  (e_are t schedules es now code old new start n is (e_was ∙ b.values.count) ∙ ap (λ k. min (k + length (e_path t code es now)) (2 ^ 64 - 1)) e_was);
              records =
                  record {
                    s_machine = follows;
                    goes = goes;
                    jobs_are = jobs_are t schedules es now code old new start n is are (ap (λ (z : Tally). z.jobs) was ∙ b.records.jobs_are);
                    s_are = s_are t schedules es now code old new start n is are (ap (λ (z : Tally). z.s) was ∙ b.records.s_are);
                  };
            };
      }

  -- ---- where no list begins

  schedule_own : (steps idle : List SInstr) → steps ≡ schedule_by m.object idle m.list → idle ≡ [] → IsScheduleOf (turn_at t schedules es) (hyper t) now steps
  schedule_own steps idle by none = own (hyper t) refl now u.before.records.goes
    where
      own : (o : Option ℕ) → hyper t ≡ o → (n : ℕ) → GoesBy (turn_at t schedules es) o n m.list → IsScheduleOf (turn_at t schedules es) o n steps
      own None e n g = by ∙ ap (schedule_by m.object idle) g ∙ none
      own (Some q) e zero g = by ∙ ap (schedule_by m.object idle) g ∙ none
      own (Some q) e (suc n) g = by ∙ ap (schedule_by m.object idle) g ∙ sym (loaded_code t schedules loaded es u.kept.within q e n)

  pub s_machine_goes_on : (steps idle : List SInstr) → steps ≡ schedule_by m.object idle m.list → idle ≡ [] → IsReadyAt m es now steps → (d1 d2 : Round) (w1 : Content)
      → some_round_begins m.object.tables now ≡ false → Records m.object.tables m.run_state.s_machine m.run_state.world d1 w1 steps now
      → d2 ≡ s_machine_replay m.object.ecode (phase_path m.object.tables m.object.ecode es now 3) d1 → rounds.Stands d2 steps
      → SMachineFollows (turn_at m.object.tables (schedules_of m.object) es) (hyper m.object.tables) (suc now) d2
  s_machine_goes_on steps idle by none r d1 d2 w1 b rec told st =
      going_s_machine t code schedules loaded (modes_read t code accepted.spelled.code) es u.kept.within (hyper t) refl now steps m.run_state.s_machine d1 d2 m.run_state.world w1 b
      u.before.records.s_machine (schedule_own steps idle by none) r.stands rec told st

  pub list_goes_on : some_round_begins m.object.tables now ≡ false → GoesBy (turn_at m.object.tables (schedules_of m.object) es) (hyper m.object.tables) (suc now) m.list
  list_goes_on b = going_on t code schedules loaded (modes_read t code accepted.spelled.code) es u.kept.within (hyper t) refl now m.list b u.before.records.goes

  -- ---- where a list begins

  pub over : (steps idle : List SInstr) → steps ≡ schedule_by m.object idle m.list → idle ≡ [] → IsReadyAt m es now steps → (d1 : Round) (w1 : Content)
      → some_round_begins m.object.tables now ≡ true → Records m.object.tables m.run_state.s_machine m.run_state.world d1 w1 steps now → (d1.running ≡ false) × IsAtEnd m.object.tables (schedules_of m.object) es now d1
  over steps idle by none r d1 w1 b rec =
      list_over t code schedules loaded (modes_read t code accepted.spelled.code) es u.kept.within (hyper t) refl now steps m.run_state.s_machine d1 m.run_state.world w1 b
      u.before.records.s_machine (schedule_own steps idle by none) r.stands rec

  takes_are : (i v : ℕ) → now ≤ v → get_or m.run_state.takes i 0 ≡ took t es i v
  takes_are i v later = elim (cases_lt i (length t.invs)) [
    | inl less ↦ sym (u.kept.takes i v less (omega (arith, u.kept.reading, read, later)))
    | inr past ↦ (let none : inv_worst t i ≡ 0 = ap (λ (o : Option Inv). elim o as (λ _. ℕ) [ Some x ↦ task_worst t x.task | None ↦ 0 ]) (slice_get_past t.invs i past) in
        get_or_past m.run_state.takes i 0 (omega (arith, past, u.kept.count)) ∙ sym (ap (λ x. last_took i v 0 x es) none ∙ never_took t i v 0 es none u.kept.within))
  ]

  -- the list that begins, behind the one that stood
  pub to_begin : (d1 : Round) → some_round_begins m.object.tables now ≡ true → IsAtEnd m.object.tables (schedules_of m.object) es now d1 → IsToBegin m.object.tables m.object.ecode (schedules_of m.object) es now m.run_state.takes m.list d1
  to_begin d1 b ends =
      let reads = modes_read t code accepted.spelled.code in
      let h = beginning t code schedules loaded reads es u.kept.within now b in
      let ranges = accepted.spelled.formed.ranges in
      let many : length schedules ≡ length m.object.schedules = length-map m.object.schedules (λ (s : Schedule). s.instrs) in
      let node : (turn_at t schedules es now).node < length m.object.schedules = node_known m.object es now h.0 accepted u.kept.within h.1 in
      is_to_begin t code schedules loaded reads es u.kept.within ranges.frames h.0 now h.1 h.2 m.run_state.takes takes_are d1 ends m.list (subst (λ o. GoesBy (turn_at t schedules es) o now m.list) h.1 u.before.records.goes)
      (omega (arith, node, many)) (omega (arith, many, ranges.schedules, nodes_few t ranges.tables ranges.frames))
      (subst (λ (is : List SInstr). length is ≤ 4294967295) (sym (loaded_code t schedules loaded es u.kept.within h.0 h.1 now)) (short_at m.object.schedules ranges.short (turn_at t schedules es now).node))

  pub s_machine_begins_so : (d2 : Round) → some_round_begins m.object.tables now ≡ true
      → (let v = turn_at m.object.tables (schedules_of m.object) es now in SMachineAt v.plan v.frame (due_by v.plan v.frame now) (suc now - v.frame) d2)
      → SMachineFollows (turn_at m.object.tables (schedules_of m.object) es) (hyper m.object.tables) (suc now) d2
  s_machine_begins_so d2 b at =
      let reads = modes_read t code accepted.spelled.code in
      let h = beginning t code schedules loaded reads es u.kept.within now b in
      begun_s_machine t code schedules loaded reads es u.kept.within now d2 h.0 h.1 at

  pub list_begins : (list : Option ListAt) → some_round_begins m.object.tables now ≡ true → list ≡ Some (turn_list (turn_at m.object.tables (schedules_of m.object) es now))
      → GoesBy (turn_at m.object.tables (schedules_of m.object) es) (hyper m.object.tables) (suc now) list
  list_begins list b is =
      let reads = modes_read t code accepted.spelled.code in
      let h = beginning t code schedules loaded reads es u.kept.within now b in
      begun_goes t code schedules loaded reads es u.kept.within now list h.0 h.1 is

  -- ---- the records of the list that begins; none where none does

  new_goes_on : some_round_begins m.object.tables now ≡ false → new_records m.object.tables (schedules_of m.object) es (hyper m.object.tables) now ≡ []
  new_goes_on b = loaded_new t schedules es loaded u.kept.within now ∙ by_root (hyper t) refl
    where
      by_root : (o : Option ℕ) → hyper t ≡ o → standing_new t schedules es (hyper t) now ≡ []
      by_root None e = ap (λ o. standing_new t schedules es o now) e
      by_root (Some q) e = new_going t schedules es now q e (going t code schedules loaded (modes_read t code accepted.spelled.code) es u.kept.within q now e b)

  new_begins : some_round_begins m.object.tables now ≡ true
      → new_records m.object.tables (schedules_of m.object) es (hyper m.object.tables) now
      ≡ plan_records (turn_at m.object.tables (schedules_of m.object) es now).plan (turn_at m.object.tables (schedules_of m.object) es now).node (first_records m.object.tables (schedules_of m.object) es now)
  new_begins b =
      let h = beginning t code schedules loaded (modes_read t code accepted.spelled.code) es u.kept.within now b in
      loaded_new t schedules es loaded u.kept.within now ∙ new_beginning t schedules es now h.0 h.1 h.2

  pub records_go_on : (steps : List SInstr) (r : IsReadyAt m es now steps) → some_round_begins m.object.tables now ≡ false
      → records_at m.object.tables (schedules_of m.object) es now ≡ some_records r.plan r.start r.place (due_by r.plan r.start now - r.place) ++ []
  records_go_on steps r b = records_composed t schedules es now r.plan r.plan (node_by m.list) 0 _ [] r.owed (new_goes_on b)

  pub records_begin : (steps : List SInstr) (r : IsReadyAt m es now steps) → some_round_begins m.object.tables now ≡ true
      → records_at m.object.tables (schedules_of m.object) es now
      ≡ some_records r.plan r.start r.place (due_by r.plan r.start now - r.place) ++ first_records m.object.tables (schedules_of m.object) es now
  records_begin steps r b = let v = turn_at t schedules es now in records_composed t schedules es now r.plan v.plan (node_by m.list) v.node _ (first_records t schedules es now) r.owed (new_begins b)

  -- and their lines
  pub text_goes_on : some_round_begins m.object.tables now ≡ false → [] ≡ new_lines m.object.tables (schedules_of m.object) es m.show (hyper m.object.tables) now
  text_goes_on b = sym (ap (joined (record_text t m.show)) (new_goes_on b))

  pub text_begins : some_round_begins m.object.tables now ≡ true
      → beginning_text m.object.tables (schedules_of m.object) es m.show now ≡ new_lines m.object.tables (schedules_of m.object) es m.show (hyper m.object.tables) now
  text_begins b =
      let v = turn_at t schedules es now in
      sym (ap (joined (record_text t m.show)) (new_begins b) ∙ joined-map (record_text t m.show) (record_of v.plan.jobs v.node v.plan.schedule) (first_records t schedules es now))
