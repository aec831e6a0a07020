-- Before an instant the S machine stands ready, by the list that the machine keeps.
use Rattle.std.proofs.Common.{◌≡◌, ◌≤◌, ◌<◌, ℕ, zero, suc, ◌-◌, false, List, [], length, get_or, Option, Some, None, IfSome, refl, sym, ap, ◌∙◌, subst, arith}
use Rattle.htl_machine.proofs.Words.{get_or_from_slice_get, Content, IsAccepted, Event, hyper, Tables, Object, IsShort, AreTookWithin, map_at, Round, Stands, IsTold, no_round, Job, SInstr, Schedule, InForm, ListAt, Seen, IsUpTo, GoesBy, schedule_by, SMachineFollows, SMachineStands, IsLoaded, IsReadyAt, due_by, schedules_of, AreOf, old_records, plan_records, standing_old, some_records, Turn, AreTurns, turn_walk, left_before, turn_at, turn_by, node_by, turn_list, not_some, all_at, item_at}
use Rattle.htl_runs.specs.lists.RecordEffects.{with_records}
use Rattle.htl_runs.proofs.{lists.RunLists.node_below, jobs.Accepted.accepted_is_loaded, lines.LoadedRecords.loaded_old, instants.NoModules.records_nothing, records.SMachineInstants.s_machine_opens, instants.BothMachines.records_are}
use Rattle.htl_runs.proofs.{instants.FirstRecords.no_list, instants.FirstRecords.stands_told, instants.FirstRecords.first_s_machine, instants.FirstRecords.first_recorded, frames.FrameValues.count_grows}
use Rattle.htl_runs.proofs.lists.LoadedLists.{loaded_listed, loaded_of, loaded_turns, loaded_code, loaded_run}

-- ---- where there is no list

stands_none : Stands no_round []
stands_none =
    record {
      point = refl;
      work = λ p e. absurd (omega (arith, e));
      lengths = λ p j e f. not_some j e;
      worst = λ p j e f. not_some j e;
      pending = λ p e. absurd (let z : ⊥ = cc in z);
    }

told_none : (now : ℕ) → IsTold no_round now
told_none now p e = absurd (let z : ⊥ = cc in z)

-- the node whose list runs has a list
pub node_known : (o : Object) (es : List Event) (n q : ℕ) → IsAccepted o → AreTookWithin o.tables es → hyper o.tables ≡ Some q → (turn_at o.tables (schedules_of o) es n).node < length o.schedules
node_known o es n q accepted within e =
    let run = loaded_run o.tables (schedules_of o) (accepted_is_loaded o accepted) es within q e in
    let below = node_below o.tables (schedules_of o) es run n in
    omega (arith, below, ap (λ k. (turn_by k o.tables (schedules_of o) es n).node) e, accepted.spelled.formed.ranges.schedules)

module _ (m : Seen) (es : List Event) (now : ℕ) where
  ready_none : m.run_state.s_machine ≡ no_round
      → ((w : Content) → w ≡ with_records m.object.tables (turn_at m.object.tables (schedules_of m.object) es) now w)
      → [] ≡ old_records m.object.tables (schedules_of m.object) es (hyper m.object.tables) now
      → IsReadyAt m es now []
  ready_none none still owed =
      let stop : m.run_state.s_machine.running ≡ false = ap (λ (r : Round). r.running) none in
      let st : Stands m.run_state.s_machine [] = subst (λ (r : Round). Stands r []) (sym none) stands_none in
      record {
        plan = no_list;
        start = 0;
        place = 0;
        offset = 0;
        same = refl;
        past = omega arith;
        few = omega arith;
        was = first_s_machine m.run_state.s_machine none st;
        of = subst (λ (r : Round). AreOf m.object.tables r.jobs) (sym none) (λ p j e f. not_some j e);
        form = λ runs. absurd (let z : ⊥ = cc in z);
        short = omega arith;
        stands = st;
        told = subst (λ (r : Round). IsTold r now) (sym none) (told_none now);
        recorded = λ d v rec. first_recorded m.object.tables now m.run_state.s_machine d m.run_state.world v none st rec ∙ still m.run_state.world;
        owed = owed;
      }

-- ---- where one stands

module _ (m : Seen) (es : List Event) (n q : ℕ) (accepted : IsAccepted m.object) (up : IsUpTo m es (suc n)) (root : hyper m.object.tables ≡ Some q)
    (f : SMachineStands (turn_at m.object.tables (schedules_of m.object) es n).plan (turn_at m.object.tables (schedules_of m.object) es n).frame (suc n) m.run_state.s_machine)
    (goes : m.list ≡ Some (turn_list (turn_at m.object.tables (schedules_of m.object) es n))) where
  abbrev t : Tables
  t = m.object.tables

  abbrev turn : ℕ → Turn
  turn = turn_at m.object.tables (schedules_of m.object) es

  abbrev u : Turn
  u = turn_at m.object.tables (schedules_of m.object) es n

  loaded : IsLoaded m.object.tables (schedules_of m.object)
  loaded = accepted_is_loaded m.object accepted

  turns : AreTurns m.object.tables es (turn_at m.object.tables (schedules_of m.object) es)
  turns = loaded_turns t (schedules_of m.object) loaded es up.kept.within

  past : u.frame ≤ suc n
  past = omega (arith, turns.frames.past n)

  short : length u.plan.schedule ≤ 4294967295
  short =
      let x = item_at m.object.schedules u.node (node_known m.object es n q accepted up.kept.within root) in
      let is : get_or (schedules_of m.object) u.node [] ≡ x.0.instrs =
      get_or_from_slice_get (schedules_of m.object) u.node x.0.instrs [] (map_at (λ (y : Schedule). y.instrs) m.object.schedules u.node x.0 x.1) in
      subst (λ (is : List SInstr). length is ≤ 4294967295) (sym (loaded_code t (schedules_of m.object) loaded es up.kept.within q root n ∙ is)) (all_at IsShort m.object.schedules u.node x.0 accepted.spelled.formed.ranges.short x.1)

  ready_list : IsReadyAt m es (suc n) u.plan.schedule
  ready_list =
      let listed = (loaded_listed t (schedules_of m.object) loaded es up.kept.within q root).each n in
      let k = left_before u (suc n) in
      record {
        plan = u.plan;
        start = u.frame;
        place = k;
        offset = suc n - u.frame;
        same = refl;
        past = past;
        few = count_grows (suc n - u.frame) (suc (suc n) - u.frame) (turn_walk u) (omega arith);
        was = s_machine_opens u.plan u.frame (suc n) m.run_state.s_machine f;
        of = subst (AreOf t) (sym f.jobs) (loaded_of t (schedules_of m.object) loaded es up.kept.within q root n);
        form = λ runs. (u.to, subst (λ (js : List Job). InForm (length js) u.to u.plan.schedule) (sym f.jobs) listed.form);
        short = short;
        stands = f.stands;
        told = stands_told u.plan u.frame (suc n) m.run_state.s_machine past f;
        recorded = λ d v rec. records_are t turn n m.run_state.s_machine d m.run_state.world v past f rec;
        owed =
            ap (λ o. plan_records u.plan (node_by o) (some_records u.plan u.frame k (due_by u.plan u.frame (suc n) - k))) goes
            ∙ ap (λ o. standing_old t (schedules_of m.object) es o (suc n)) (sym root) ∙ sym (loaded_old t (schedules_of m.object) es loaded up.kept.within (suc n));
      }

pub ready : (m : Seen) (es : List Event) (now : ℕ) (idle : List SInstr) → IsAccepted m.object → IsUpTo m es now → m.run_state.reading ≤ now → idle ≡ [] → IsReadyAt m es now (schedule_by m.object idle m.list)
ready m es now idle accepted up later nothing =
    by (hyper m.object.tables) refl now up up.before.records.s_machine up.before.records.goes
  where
    none_is : m.list ≡ None → [] ≡ schedule_by m.object idle m.list
    none_is sel = sym (ap (schedule_by m.object idle) sel ∙ nothing)

    by : (o : Option ℕ) → hyper m.object.tables ≡ o → (at : ℕ) → IsUpTo m es at → SMachineFollows (turn_at m.object.tables (schedules_of m.object) es) o at m.run_state.s_machine → GoesBy (turn_at m.object.tables (schedules_of m.object) es) o at m.list
        → IsReadyAt m es at (schedule_by m.object idle m.list)
    by None root at u s_machine goes =
        subst (IsReadyAt m es at) (none_is goes)
        (ready_none m es at s_machine (λ w. sym (records_nothing m.object.tables (schedules_of m.object) es root at w))
        (ap (λ o. old_records m.object.tables (schedules_of m.object) es o at) (sym root)))
    by (Some q) root zero u s_machine goes =
        subst (IsReadyAt m es zero) (none_is goes)
        (ready_none m es zero s_machine (λ w. refl)
        (ap (λ o. standing_old m.object.tables (schedules_of m.object) es o zero) (sym root) ∙ sym (loaded_old m.object.tables (schedules_of m.object) es (accepted_is_loaded m.object accepted) u.kept.within zero)))
    by (Some q) root (suc n) u s_machine goes =
        subst (IsReadyAt m es (suc n)) (loaded_code m.object.tables (schedules_of m.object) (accepted_is_loaded m.object accepted) es u.kept.within q root n ∙ sym (ap (schedule_by m.object idle) goes)) (ready_list m es n q accepted u root s_machine goes)

-- the node whose list stands has a schedule
pub list_known : (m : Seen) (es : List Event) (now : ℕ) → IsAccepted m.object → IsUpTo m es now → IfSome m.list (λ l. l.node < length m.object.schedules)
list_known m es now accepted up =
    by (hyper m.object.tables) refl now up.before.records.goes
  where
    none : m.list ≡ None → IfSome m.list (λ l. l.node < length m.object.schedules)
    none e = subst (λ (o : Option ListAt). IfSome o (λ l. l.node < length m.object.schedules)) (sym e) tt

    by : (o : Option ℕ) → hyper m.object.tables ≡ o → (at : ℕ) → GoesBy (turn_at m.object.tables (schedules_of m.object) es) o at m.list → IfSome m.list (λ l. l.node < length m.object.schedules)
    by None root at goes = none goes
    by (Some q) root zero goes = none goes
    by (Some q) root (suc n) goes =
        subst (λ (o : Option ListAt). IfSome o (λ l. l.node < length m.object.schedules)) (sym goes) (node_known m.object es n q accepted up.kept.within root)
