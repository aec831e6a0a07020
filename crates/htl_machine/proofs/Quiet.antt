-- Over instants at which nothing is due a machine goes on as it stands.
use Rattle.std.proofs.Common.{◌≡◌, ℕ, zero, suc, ◌+◌, ◌-◌, ◌%◌, ◌<◌, ◌≤◌, Bool, true, false, cond, ◌||◌, not, eqb, List, [], ◌∷◌, ◌++◌, length, get_or, slice_get, map, Option, Some, None, IfSome, ℤ, pos, refl, sym, ap, ap₂, ◌∙◌, subst, arith}
use Rattle.htl_machine.proofs.Words.{nat_tests, append_known, append-nil, slice_get_within, Event, Line, ValueLine, ModeLine, Comm, same, lines_text, joined, up_to, state, before, value_in, mode_in_state, value_line, mode_line, value_lines, same_mode, Tables, mode_period, SInstr, next_left, ECode, Done, e_path, spelled_departs_not, Block, Content, IsDueAt, IsNext, IsNextOf, phase_path, sound, Sound, Object, IsAccepted, instant_records, RunRecord, records_at, plan_text, Shown, shows_code, shows_values, Tally, Seen, IsUpTo, schedule_by, text_between, node_by, path_lines, IsLoaded, IsReadyAt, due_by, IsOpened, closing_text, IsPassing, ArePassing, IsOnward, lines_of, schedules_of, Records, replay, s_machine_replay, AreShown, ShowsNothing, e_line, some_records, some_round_begins, IsQuiet, AreQuiet, IsEmpty, PassOver, beginnings_end, standing_at, up_to_none}
use Rattle.htl_smach.specs.Rounds as rounds
use Rattle.htl_runs.proofs.{jobs.Accepted.accepted_is_loaded, records.RecordSteps.recording_start, records.RecordSteps.recording_end, lists.NextLists.begins_whole}
use Rattle.htl_machine.proofs.{After.closed_values, After.s_machine_goes_on, After.lines_are_composed, After.next_up_to, After.passed_of, After.records_go_on, After.list_goes_on, After.text_goes_on, Agreeing.modes_open, Passing.up_to_more}
use Rattle.htl_machine.proofs.{Composing.counts_after, Ready.ready, Settling.same_mode_self, Settling.same_self}
use Rattle.htl_runs.proofs.values.IdleInstants.{IsIdle, idle, round_ends}

-- ---- where nothing changes there are no lines

no_lines : (t : Tables) (es : List Event) (n : ℕ) → (state t es (suc n)).values ≡ (state t es n).values → ((k : ℕ) → k < length t.modules → mode_in_state (state t es (suc n)) k ≡ mode_in_state (state t es n) k)
    → value_lines t es (suc n) ≡ []
no_lines t es n values modes =
    ap₂ (λ (a b : List Line). a ++ b) (up_to_none (value_line (suc n) (state t es n) (state t es (suc n))) (length t.comms) (λ c less. value c))
    (up_to_none (mode_line (suc n) (state t es n) (state t es (suc n))) (length t.modules) (λ k less. mode k less))
  where
    not_first : (k : ℕ) → eqb (suc k) 0 ≡ false
    not_first k = grind (arith, nat_tests)

    value : (c : ℕ) → value_line (suc n) (state t es n) (state t es (suc n)) c ≡ []
    value c =
        let is : same (value_in (state t es n) c) (value_in (state t es (suc n)) c) ≡ true =
        ap (λ (vs : List ℤ). same (value_in (state t es n) c) (get_or vs c (pos 0))) values ∙ same_self (value_in (state t es n) c) in
        let line : Line = ValueLine (suc n) c (value_in (state t es (suc n)) c) in
        ap (λ (b : Bool). cond (eqb (suc n) 0 || not b) (line ∷ []) []) is ∙ ap (λ (b : Bool). cond (b || false) (line ∷ []) []) (not_first n)

    mode : (k : ℕ) → k < length t.modules → mode_line (suc n) (state t es n) (state t es (suc n)) k ≡ []
    mode k less =
        let is : same_mode (mode_in_state (state t es n) k) (mode_in_state (state t es (suc n)) k) ≡ true =
        ap (λ (o : Option ℕ). same_mode (mode_in_state (state t es n) k) o) (modes k less) ∙ same_mode_self (mode_in_state (state t es n) k) in
        let line : Line = ModeLine (suc n) k (mode_in_state (state t es (suc n)) k) in
        ap (λ (b : Bool). cond b [] (line ∷ [])) is

no_path_lines : (t : Tables) (code : ECode) (show : Shown) (at : ℕ) (ds : List Done) → ds ≡ [] → path_lines t code show at ds ≡ []
no_path_lines t code show at ds none = ap (path_lines t code show at) none ∙ by (shows_code show)
  where
    by : (b : Bool) → cond b (joined (e_line t code at) []) [] ≡ []
    by true = refl
    by false = refl

no_change_lines : (t : Tables) (b : Bool) (ls : List Line) → ls ≡ [] → cond b (lines_text t ls) [] ≡ []
no_change_lines t true ls none = ap (lines_text t) none
no_change_lines t false ls none = refl

no_items : {A B : Type 0} (f : A → B) (xs : List A) → map f xs ≡ [] → xs ≡ []
no_items f [] e = refl
no_items f (x ∷ xs) e = absurd (let z : ⊥ = cc in z)

-- ---- sensors

sensors_stay : (t : Tables) (shows : List ℤ) (at : ℕ) (w : Content) → length w.values ≡ length t.comms
    → ((c : ℕ) (x : Comm) → slice_get t.comms c ≡ Some x → x.sensor ≡ true → eqb (at % x.period) 0 ≡ true → get_or shows c (pos 0) ≡ get_or w.values c (pos 0)) → AreShown t shows w.values at w w
sensors_stay t shows at w long same =
    record { only = refl; long = long; below = λ c x less is. by c x is x.sensor refl (eqb (at % x.period) 0) refl; above = λ c past. refl }
  where
    by : (c : ℕ) (x : Comm) → slice_get t.comms c ≡ Some x → (b : Bool) → x.sensor ≡ b → (d : Bool) → eqb (at % x.period) 0 ≡ d
        → get_or w.values c (pos 0) ≡ cond x.sensor (cond (eqb (at % x.period) 0) (get_or shows c (pos 0)) (get_or w.values c (pos 0))) (get_or w.values c (pos 0))
    by c x is false e d f = sym (ap (λ (b : Bool). cond b (cond (eqb (at % x.period) 0) (get_or shows c (pos 0)) (get_or w.values c (pos 0))) (get_or w.values c (pos 0))) e)
    by c x is true e true f =
        sym (ap (λ (b : Bool). cond b (cond (eqb (at % x.period) 0) (get_or shows c (pos 0)) (get_or w.values c (pos 0))) (get_or w.values c (pos 0))) e
        ∙ ap (λ (b : Bool). cond b (get_or shows c (pos 0)) (get_or w.values c (pos 0))) f ∙ same c x is e f)
    by c x is true e false f =
        sym (ap (λ (b : Bool). cond b (cond (eqb (at % x.period) 0) (get_or shows c (pos 0)) (get_or w.values c (pos 0))) (get_or w.values c (pos 0))) e
        ∙ ap (λ (b : Bool). cond b (get_or shows c (pos 0)) (get_or w.values c (pos 0))) f)

-- ---- where no trigger is due

module _ (m : Seen) (es : List Event) (n : ℕ) (accepted : IsAccepted m.object) (read : m.run_state.reading ≤ suc n) (u : IsUpTo m es (suc n)) (q : IsQuiet m (suc n)) where
  abbrev t : Tables
  t = m.object.tables

  abbrev code : ECode
  code = m.object.ecode

  abbrev schedules : List (List SInstr)
  schedules = schedules_of m.object

  abbrev steps : List SInstr
  steps = schedule_by m.object [] m.list

  loaded : IsLoaded m.object.tables (schedules_of m.object)
  loaded = accepted_is_loaded m.object accepted

  is_sound : Sound m.object.tables m.object.ecode
  is_sound = sound t code 12 (omega arith) loaded.range loaded.kept (spelled_departs_not t code accepted.spelled.code)

  still : IsIdle m.object.tables m.object.ecode es (suc n) m.standing
  still = idle t code es (suc n) m.standing is_sound u.before.values.triggers q.triggers

  -- where a list begins a round ends, which is a trigger
  never : some_round_begins m.object.tables (suc n) ≡ true → ⊥
  never b =
      let e = beginnings_end t es n loaded.range loaded.kept (sym (begins_whole t (suc n) loaded.range loaded.kept) ∙ b) in
      let inside = (standing_at t loaded.range es n).known e.unit e.stay e.is in
      let due = q.triggers (e.stay.start + mode_period t e.stay.mode) (round_ends t code es (suc n) m.standing u.before.values.triggers e.unit e.stay inside e.is) in
      omega (arith, due, e.ends)

  none_begins : some_round_begins m.object.tables (suc n) ≡ false
  none_begins = by (some_round_begins t (suc n)) refl
    where
      by : (b : Bool) → some_round_begins t (suc n) ≡ b → some_round_begins t (suc n) ≡ false
      by false e = e
      by true e = absurd (never e)

  is_ready : IsReadyAt m es (suc n) (schedule_by m.object [] m.list)
  is_ready = ready m es (suc n) [] accepted u read refl

  recorded : Records m.object.tables m.run_state.s_machine m.run_state.world m.run_state.s_machine m.run_state.world (schedule_by m.object [] m.list) (suc n)
  recorded =
      recording_end t m.run_state.s_machine m.run_state.s_machine m.run_state.s_machine m.run_state.world m.run_state.world m.run_state.s_machine.jobs steps (suc n)
      (recording_start t m.run_state.s_machine m.run_state.world m.run_state.s_machine.jobs steps (suc n) is_ready.form is_ready.stands is_ready.told refl u.before.values.shaped) q.leaves refl

  -- no record is due
  none_due : due_by is_ready.plan is_ready.start (suc n) - is_ready.place ≡ 0
  none_due =
      let all = (recorded is_ready.plan is_ready.start is_ready.place is_ready.offset is_ready.same is_ready.past is_ready.few is_ready.was).0 in
      let one : is_ready.place ≡ due_by is_ready.plan is_ready.start (suc n) = sym is_ready.was.place ∙ all.place in
      omega (arith, one)

  opened : IsOpened m.object.tables m.object.ecode es (suc n) (schedule_by m.object [] m.list) m.run_state.shows m.run_state.world.values m.run_state.s_machine m.run_state.world m.run_state.s_machine m.run_state.world
  opened =
      record {
        w1 = m.run_state.world;
        w2 = m.run_state.world;
        records = recorded;
        writes = sym (ap (λ (ds : List Done). replay t code ds m.run_state.world) still.writes);
        sensors = sensors_stay t m.run_state.shows (suc n) m.run_state.world u.before.values.shaped.values.count q.sensors;
      }

  world_same : m.run_state.world
      ≡ replay m.object.tables m.object.ecode (phase_path m.object.tables m.object.ecode es (suc n) 3) (replay m.object.tables m.object.ecode (phase_path m.object.tables m.object.ecode es (suc n) 2) m.run_state.world)
  world_same =
      sym (ap (λ (ds : List Done). replay t code ds (replay t code (phase_path t code es (suc n) 2) m.run_state.world)) still.reads ∙ ap (λ (ds : List Done). replay t code ds m.run_state.world) still.switches)

  s_machine_same : m.run_state.s_machine ≡ s_machine_replay m.object.ecode (phase_path m.object.tables m.object.ecode es (suc n) 3) m.run_state.s_machine
  s_machine_same = sym (ap (λ (ds : List Done). s_machine_replay code ds m.run_state.s_machine) still.reads)

  abbrev tally : Tally
  tally = record { jobs = m.jobs; e = m.e; s = m.s }

  none_left : records_at m.object.tables (schedules_of m.object) es (suc n) ≡ []
  none_left = records_go_on m es (suc n) accepted read u steps is_ready none_begins ∙ ap (λ k. some_records is_ready.plan is_ready.start is_ready.place k ++ []) none_due

  pub goes_on_so : IsUpTo m es (suc (suc n))
  goes_on_so =
      next_up_to m es (suc n) accepted read u m.run_state.world m.run_state.s_machine m.standing m.list [] [] tally tally
      (passed_of m es (suc n) accepted read u steps is_ready m.run_state.world.values u.before.values.values.values m.run_state.s_machine m.run_state.world opened m.run_state.world m.standing world_same still.ends u.before.values.safe u.before.values.shaped)
      (s_machine_goes_on m es (suc n) accepted read u steps [] refl refl is_ready m.run_state.s_machine m.run_state.s_machine m.run_state.world none_begins recorded s_machine_same is_ready.stands)
      (list_goes_on m es (suc n) accepted read u none_begins)
      none_left
      refl
      count_same
    where
      count_same : tally
          ≡ counts_after [] [] (length (phase_path m.object.tables m.object.ecode es (suc n) 1)) (length (phase_path m.object.tables m.object.ecode es (suc n) 2)) (length (phase_path m.object.tables m.object.ecode es (suc n) 3)) tally
      count_same =
          sym
          (ap (λ (ds : List Done). counts_after [] [] (length ds) (length (phase_path t code es (suc n) 2)) (length (phase_path t code es (suc n) 3)) tally) still.writes
          ∙ ap (λ (ds : List Done). counts_after [] [] 0 (length ds) (length (phase_path t code es (suc n) 3)) tally) still.switches
          ∙ ap (λ (ds : List Done). counts_after [] [] 0 0 (length ds) tally) still.reads)

  values_same : (state m.object.tables es (suc n)).values ≡ (state m.object.tables es n).values
  values_same =
      sym (closed_values m es (suc n) accepted read u steps is_ready m.run_state.world.values u.before.values.values.values m.run_state.s_machine m.run_state.world opened)
      ∙ ap (λ (w : Content). w.values) (sym world_same) ∙ u.before.values.values.values

  modes_same : (k : ℕ) → k < length m.object.tables.modules → mode_in_state (state m.object.tables es (suc n)) k ≡ mode_in_state (state m.object.tables es n) k
  modes_same k less =
      sym (modes_open t code es (suc (suc n)) m.standing.calendar still.later.calendar k less) ∙ modes_open t code es (suc n) m.standing.calendar u.before.values.triggers.calendar k less

  none_written : value_lines m.object.tables es (suc n) ≡ []
  none_written = no_lines t es n values_same modes_same

  pub no_text : lines_of m.object es m.show (suc n) ≡ []
  no_text =
      sym (lines_are_composed m es (suc n) accepted read u steps is_ready [] (text_goes_on m es (suc n) accepted read u none_begins))
      ∙ ap (λ k. (joined (plan_text t m.show is_ready.plan (node_by m.list)) (some_records is_ready.plan is_ready.start is_ready.place k) ++ path_lines t code m.show (suc n) (phase_path t code es (suc n) 1)) ++ (closing_text t code es m.show (suc n) ++ [])) none_due
      ∙ ap (λ (ls : List ℕ). ls ++ (closing_text t code es m.show (suc n) ++ [])) (no_path_lines t code m.show (suc n) (phase_path t code es (suc n) 1) still.writes)
      ∙ append-nil (closing_text t code es m.show (suc n))
      ∙ ap (λ (ls : List ℕ). ls ++ (path_lines t code m.show (suc n) (phase_path t code es (suc n) 3) ++ cond (shows_values m.show) (lines_text t (value_lines t es (suc n))) [])) (no_path_lines t code m.show (suc n) (phase_path t code es (suc n) 2) still.switches)
      ∙ ap (λ (ls : List ℕ). ls ++ cond (shows_values m.show) (lines_text t (value_lines t es (suc n))) []) (no_path_lines t code m.show (suc n) (phase_path t code es (suc n) 3) still.reads)
      ∙ no_change_lines t (shows_values m.show) (value_lines t es (suc n)) none_written

  pub no_records : instant_records m.object.tables (schedules_of m.object) es (suc n) ≡ []
  no_records = no_items (λ (x : RunRecord). x.left) (instant_records t schedules es (suc n)) none_left

  pub no_path : e_path m.object.tables m.object.ecode es (suc n) ≡ []
  no_path = still.path

-- ---- one instant, and any number

step : (m : Seen) (es : List Event) (now : ℕ) → IsAccepted m.object → m.run_state.reading ≤ now → IsUpTo m es now → IsQuiet m now → IsUpTo m es (suc now)
step m es zero accepted read u q = absurd (omega (arith, q.later))
step m es (suc n) accepted read u q = goes_on_so m es n accepted read u q

-- whatever is shown
shown_up_to : (m : Seen) (es : List Event) (now : ℕ) (show : Shown) → IsUpTo m es now → IsUpTo (record m { show = show }) es now
shown_up_to m es now show u = record { kept = u.kept; before = record { values = u.before.values; records = u.before.records } }

shown_quiet : (m : Seen) (now : ℕ) (show : Shown) → IsQuiet m now → IsQuiet (record m { show = show }) now
shown_quiet m now show q = record { later = q.later; triggers = q.triggers; leaves = q.leaves; sensors = q.sensors }

nothing : (m : Seen) (es : List Event) (now : ℕ) → IsAccepted m.object → m.run_state.reading ≤ now → IsUpTo m es now → IsQuiet m now → IsEmpty m.object es now
nothing m es zero accepted read u q = absurd (omega (arith, q.later))
nothing m es (suc n) accepted read u q =
    record {
      path = no_path m es n accepted read u q;
      records = no_records m es n accepted read u q;
      lines = λ show. no_text (record m { show = show }) es n accepted read (shown_up_to m es (suc n) show u) (shown_quiet m (suc n) show q);
    }

pub pass_over : (m : Seen) (es : List Event) (from to : ℕ) → IsAccepted m.object → IsUpTo m es from → m.run_state.reading ≤ from → from ≤ to → AreQuiet m from to → PassOver m es from to
pass_over m es from to accepted u read order q =
    record {
      follows = subst (IsUpTo m es) (let z : from + (to - from) ≡ to = omega (arith, order) in z) (follow (to - from) (omega (arith, order)));
      empty = empty;
      text = λ show. up_to_none (λ k. lines_of m.object es show (from + k)) (to - from) (λ k less. (empty (from + k) (omega arith) (omega (arith, less))).lines show);
    }
  where
    follow : (d : ℕ) → from + d ≤ to → IsUpTo m es (from + d)
    follow zero within = subst (IsUpTo m es) (let z : from ≡ from + 0 = omega arith in z) u
    follow (suc d) within =
        subst (IsUpTo m es) (let z : suc (from + d) ≡ from + suc d = omega arith in z)
        (step m es (from + d) accepted (omega (arith, read)) (follow d (omega (arith, within))) (q (from + d) (omega arith) (omega (arith, within))))

    empty : (at : ℕ) → from ≤ at → at < to → IsEmpty m.object es at
    empty at past less =
        nothing m es at accepted (omega (arith, read, past))
        (subst (IsUpTo m es) (let z : from + (at - from) ≡ at = omega (arith, past) in z) (follow (at - from) (omega (arith, past, less)))) (q at past less)

-- ---- what the code knows

-- from an instant on nothing is due up to the first trigger, the first instruction that is left and the first sensor that is shown another value
pub quiet_from : (m : Seen) (from shown triggered due : ℕ) (e s : Option ℕ) → 0 < from → m.standing.running ≡ None → IsNext m.standing e → rounds.IsNextLeave m.run_state.s_machine (schedule_by m.object [] m.list) s
    → ShowsNothing m.object.tables m.run_state.shows m.run_state.world.values (length m.object.tables.comms) from shown
    → triggered ≤ shown → IfSome e (λ n. (at : ℕ) → from ≤ at → at < triggered → at < n) → due ≤ triggered → IfSome s (λ n. (at : ℕ) → from ≤ at → at < due → at < n) → AreQuiet m from due
quiet_from m from shown triggered due e s some idle next leaves same sooner before_e soonest before_s = λ at past less.
    record {
      later = omega (arith, some, past);
      triggers = triggers e m.standing.running idle next before_e at past (omega (arith, less, soonest));
      leaves = leaves_none s leaves before_s at past less;
      sensors = λ c x is sensor divides. same at past (omega (arith, less, soonest, sooner)) c x (slice_get_within m.object.tables.comms c x is) is sensor divides;
    }
  where
    triggers : (e : Option ℕ) (r : Option Block) → r ≡ None → IsNextOf m.standing.calendar r e → IfSome e (λ n. (at : ℕ) → from ≤ at → at < triggered → at < n) → (at : ℕ) → from ≤ at → at < triggered
        → (other : ℕ) → IsDueAt m.standing.calendar other → at < other
    triggers e (Some b) is h before at past less other due = absurd (let z : ⊥ = cc in z)
    triggers None None is h before at past less other due = absurd (h other due)
    triggers (Some n) None is h before at past less other due = omega (arith, before at past less, h.1 other due)

    leaves_none : (s : Option ℕ) → rounds.IsNextLeave m.run_state.s_machine (schedule_by m.object [] m.list) s → IfSome s (λ n. (at : ℕ) → from ≤ at → at < due → at < n) → (at : ℕ) → from ≤ at → at < due
        → next_left m.run_state.s_machine (schedule_by m.object [] m.list) at ≡ None
    leaves_none None h before at past less = h at
    leaves_none (Some n) h before at past less = h.1 at (before at past less)

-- before instant 0 nothing is due
pub nothing_due : (m : Seen) (from : ℕ) → AreQuiet m from 0
nothing_due m from = λ at past less. absurd (omega (arith, less))

-- the reading doesn't decide what is due
pub quiet_then : (m : Seen) (to from due : ℕ) → AreQuiet m from due → AreQuiet (record m { run_state = record m.run_state { reading = to } }) from due
quiet_then m to from due q = λ at past less. (let z = q at past less in record { later = z.later; triggers = z.triggers; leaves = z.leaves; sensors = z.sensors })

-- what was written up to an instant is what is written up to a later one, where nothing is due between
pub passing_quiet : (m0 m : Seen) (es : List Event) (from at to : ℕ) (w0 w : Option (List ℕ)) (f0 f : ℕ) → IsAccepted m.object → m.run_state.reading ≤ at → from ≤ at → at ≤ to → AreQuiet m at to
    → IsPassing m0 m es from at w0 w f0 f → IsPassing m0 m es from to w0 w f0 f
passing_quiet m0 m es from at to w0 w f0 f accepted read begun order q p =
    let over = pass_over m es at to accepted p.before read order q in
    record {
      before = over.follows;
      same = p.same;
      read = p.read;
      text = p.text ∙ ap (append_known w0) (sym (both over));
      kept = p.kept;
    }
  where
    none : PassOver m es at to → (k : ℕ) → k < to - at → lines_of m0.object es m0.show (from + (at - from + k)) ≡ []
    none over k less =
        ap (lines_of m0.object es m0.show) (let z : from + (at - from + k) ≡ at + k = omega (arith, begun) in z)
        ∙ sym (ap (λ (o : Object). lines_of o es m0.show (at + k)) p.same.object) ∙ (over.empty (at + k) (omega arith) (omega (arith, less))).lines m0.show

    both : PassOver m es at to → text_between m0.object es m0.show from to ≡ text_between m0.object es m0.show from at
    both over =
        ap (up_to (λ n. lines_of m0.object es m0.show (from + n))) (let z : to - from ≡ (at - from) + (to - at) = omega (arith, begun, order) in z)
        ∙ up_to_more (λ n. lines_of m0.object es m0.show (from + n)) (at - from) (to - at)
        ∙ ap (λ (ls : List ℕ). up_to (λ n. lines_of m0.object es m0.show (from + n)) (at - from) ++ ls) (up_to_none (λ k. lines_of m0.object es m0.show (from + (at - from + k))) (to - at) (none over))
        ∙ append-nil (up_to (λ n. lines_of m0.object es m0.show (from + n)) (at - from))

pub all_quiet : (m0 m : Seen) (from at to : ℕ) (w0 w : Option (List ℕ)) (f0 f : ℕ) → IsAccepted m.object → m.run_state.reading ≤ at → from ≤ at → at ≤ to → AreQuiet m at to
    → ArePassing m0 m from at w0 w f0 f → ArePassing m0 m from to w0 w f0 f
all_quiet m0 m from at to w0 w f0 f accepted read begun order q p =
    record { passing = λ es b. passing_quiet m0 m es from at to w0 w f0 f accepted read begun order q (p.passing es b); same = p.same; read = p.read }

pub gone_to : (m0 m : Seen) (at due to until : ℕ) (w0 w : Option (List ℕ)) (f0 f : ℕ) → IsOnward m0 m at due to w0 w f0 f → at ≤ until → until ≤ due → ArePassing m0 m m0.run_state.reading until w0 w f0 f
gone_to m0 m at due to until w0 w f0 f g later quiet =
    all_quiet m0 m m0.run_state.reading at until w0 w f0 f g.accepted (omega (arith, g.done.read, g.begun)) g.begun later (λ n past less. g.quiet n past (omega (arith, less, quiet))) g.done
