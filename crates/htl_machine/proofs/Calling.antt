-- The calls of the machine, by their contracts: each carries what the machine follows.
use Rattle.std.proofs.Common.{◌≡◌, ℕ, zero, suc, ◌≤◌, ◌<◌, false, true, List, [], ◌∷◌, ◌++◌, length, map, get_or, slice_get, IfSome, Option, Some, None, ℤ, pos, refl, sym, ap, ap₂, ◌∙◌, subst, arith}
use Rattle.htl_machine.proofs.Words.{length-map, slice_get_within, same_Some, Event, Comm, Inv, FitsType, hyper, Tables, task_worst, is_concrete, initial, SInstr, Job, absent_job, job_at, ECode, Standing, first_standing, Content, first_content, StandsSafely, IsShaped, inv_worst, AreTookWithin, Object, IsAccepted, Shown, Seen, IsBefore, IsUpTo, Follows, GoesBy, IsSensorValue, IsLength, IsFinished, first_seen, position_from, at_reading, shown_as, taken_as, s_machine_taking, SMachineFollows, IsLoaded, IsValued, IsTookWithin, RunState, finished_before, schedules_of, turn_at, turn_by, list_turn, ListAt, turn_list, Turn, not_some}
use Rattle.htl_model.specs.declared.event.Event.TheVariants as V
use Rattle.htl_smach.specs.Rounds as rounds
use Rattle.htl_runs.proofs.{lists.RunLists.job_is_of, events.SameLists.node_same, lists.LoadedLists.loaded_run, jobs.Accepted.accepted_is_loaded, events.NextInstant.valued_first, events.NextLength.s_machine_follows}
use Rattle.htl_runs.proofs.{events.NextReading.s_machine_alike, events.SameSensors.Alike, events.SameSensors.took_at, events.SameSensors.took_sense, events.ToldSoFar.reading_kept, events.ToldSoFar.sense_kept, events.ToldSoFar.took_kept}
use Rattle.htl_runs.proofs.events.SameBefore.{AreSameBefore, same_at, same_sense, same_took, valued_stays, jobs_stay, s_stays}
use Rattle.htl_runs.proofs.frames.JobWindows.{position_some}

-- ---- the list by which the machine goes

list_alike : (t : Tables) (schedules : List (List SInstr)) (loaded : IsLoaded t schedules) (es fs : List Event) (within : AreTookWithin t es) (now n : ℕ) → Alike t es fs now → n < now → turn_list (turn_at t schedules es n) ≡ turn_list (turn_at t schedules fs n)
list_alike t schedules loaded es fs within now n a h = by (hyper t) refl
  where
    by : (o : Option ℕ) → hyper t ≡ o → turn_list (turn_by o t schedules es n) ≡ turn_list (turn_by o t schedules fs n)
    by None e = refl
    by (Some q) e =
        let make : ℕ → ListAt = λ node. record { node = node; number = (list_turn t schedules es n).list } in
        ap make (node_same t schedules es fs now (loaded_run t schedules loaded es within q e) a n h)

goes_alike : (t : Tables) (schedules : List (List SInstr)) (loaded : IsLoaded t schedules) (es fs : List Event) (within : AreTookWithin t es) (o : Option ℕ) (now : ℕ) (last : Option ListAt) → Alike t es fs now → GoesBy (turn_at t schedules es) o now last → GoesBy (turn_at t schedules fs) o now last
goes_alike t schedules loaded es fs within None now last a g = g
goes_alike t schedules loaded es fs within (Some p) zero last a g = g
goes_alike t schedules loaded es fs within (Some p) (suc n) last a g = g ∙ ap (λ z. Some z) (list_alike t schedules loaded es fs within (suc n) n a (omega arith))

-- ---- calls

-- what stood before an instant stands with events that agree before it, and what calls told
pub before_stays : (m : Seen) (es fs : List Event) (now : ℕ) → IsAccepted m.object → AreSameBefore m.object.tables (schedules_of m.object) es fs now → IsBefore m es now → (r : RunState) → r.world ≡ m.run_state.world
    → SMachineFollows (turn_at m.object.tables (schedules_of m.object) fs) (hyper m.object.tables) now r.s_machine → IsBefore (record m { run_state = r }) fs now
before_stays m es fs now accepted same b r world s_machine =
    let t = m.object.tables in
    let schedules = schedules_of m.object in
    let loaded = accepted_is_loaded m.object accepted in
    record {
      values =
          subst (λ w. IsValued t m.object.ecode fs now (finished_before (turn_at t schedules fs) now) w m.standing m.e) (sym world)
          (valued_stays t schedules loaded es fs now same m.object.ecode m.run_state.world m.standing m.e b.values);
      records =
          record {
            s_machine = s_machine;
            goes = goes_alike t schedules loaded es fs same.within (hyper t) now m.list same.alike b.records.goes;
            jobs_are = b.records.jobs_are ∙ jobs_stay t schedules loaded es fs now same;
            s_are = b.records.s_are ∙ s_stays t schedules loaded es fs now same;
          };
    }

pub sense_follows : (m : Seen) (es : List Event) (c : ℕ) (x : ℤ) → IsAccepted m.object → IsSensorValue m.object.tables c x → Follows m es
    → Follows (record m { run_state = shown_as c x m.run_state }) (es ++ V.Sense c x ∷ [])
sense_follows m es c x accepted sensor f =
    let t = m.object.tables in
    let now = m.run_state.reading in
    let fs = es ++ V.Sense c x ∷ [] in
    let loaded = accepted_is_loaded m.object accepted in
    let same = same_sense t (schedules_of m.object) loaded es f.kept.within c x now (omega (arith, f.kept.reading)) in
    record {
      kept =
          sense_kept t es m.run_state f.kept c x (slice_get_within t.comms c sensor.comm sensor.known)
          (subst (λ (o : Option Comm). IfSome o (λ y. FitsType y.ty x)) (sym sensor.known) sensor.fits);
      before =
          before_stays m es fs now accepted same f.before (shown_as c x m.run_state) refl
          (s_machine_alike t (schedules_of m.object) es fs now same.alike loaded f.kept.within (λ i u. sym (took_sense t es c i u x)) (hyper t) now m.run_state.s_machine (omega arith) f.before.records.s_machine);
    }

-- the worst case of the job at an invocation's position is the invocation's
pub position_worst : (m : Seen) (es : List Event) (i n p : ℕ) → IsAccepted m.object → IsLength m.object.tables i n → Follows m es
    → position_from 0 m.run_state.s_machine.jobs i ≡ Some p → n ≤ (job_at m.run_state.s_machine.jobs p).worst
position_worst m es i n p accepted length f found =
    by (hyper t) refl m.run_state.reading f.before.records.s_machine
  where
    t : Tables
    t = m.object.tables

    in_list : (u : Turn) → m.run_state.s_machine.jobs ≡ u.plan.jobs → ((q : ℕ) (j : Job) → slice_get u.plan.jobs q ≡ Some j → j.present ≡ true → (x : Inv) × (slice_get t.invs j.inv ≡ Some x) × (is_concrete t x ≡ true) × (j.worst ≡ task_worst t x.task))
        → n ≤ (job_at m.run_state.s_machine.jobs p).worst
    in_list u same of =
        let h = position_some 0 m.run_state.s_machine.jobs i p found in
        let at : slice_get u.plan.jobs h.0 ≡ Some h.2 = ap (λ (js : List Job). slice_get js h.0) (sym same) ∙ h.3 in
        let st = of h.0 h.2 at h.4 in
        let inv_is : st.0 ≡ length.inv = same_Some _ _ (sym st.1 ∙ ap (λ z. slice_get t.invs z) h.5 ∙ length.known) in
        let here : job_at m.run_state.s_machine.jobs p ≡ h.2 =
        ap (λ z. job_at m.run_state.s_machine.jobs z) (let z : p ≡ h.0 = omega (arith, h.1) in z) ∙ ap (λ (o : Option Job). elim o [ Some j ↦ j | None ↦ absent_job ]) h.3 in
        let worst : (job_at m.run_state.s_machine.jobs p).worst ≡ task_worst t length.inv.task = ap (λ (z : Job). z.worst) here ∙ st.3 ∙ ap (λ (z : Inv). task_worst t z.task) inv_is in
        omega (arith, worst, length.worst)

    no_job : m.run_state.s_machine ≡ rounds.no_round → n ≤ (job_at m.run_state.s_machine.jobs p).worst
    no_job d = not_some p (ap (λ (r : rounds.Round). position_from 0 r.jobs i) (sym d) ∙ found)

    by : (o : Option ℕ) → hyper t ≡ o → (now : ℕ) → SMachineFollows (turn_at t (schedules_of m.object) es) o now m.run_state.s_machine → n ≤ (job_at m.run_state.s_machine.jobs p).worst
    by None e now d = no_job d
    by (Some q) e zero d = no_job d
    by (Some q) e (suc k) d =
        let run = loaded_run t (schedules_of m.object) (accepted_is_loaded m.object accepted) es f.kept.within q e in
        in_list (list_turn t (schedules_of m.object) es k) (d.jobs ∙ ap (λ o. (turn_by o t (schedules_of m.object) es k).plan.jobs) e) (job_is_of t (schedules_of m.object) es run k)

pub took_follows : (m : Seen) (es : List Event) (i n : ℕ) → IsAccepted m.object → IsLength m.object.tables i n
    → ((c : List SInstr) → rounds.Stands m.run_state.s_machine c → rounds.Stands (s_machine_taking i n m.run_state.s_machine) c) → Follows m es
    → Follows (record m { run_state = taken_as i n m.run_state }) (es ++ V.Took i n ∷ [])
took_follows m es i n accepted length keeps f =
    let t = m.object.tables in
    let now = m.run_state.reading in
    let loaded = accepted_is_loaded m.object accepted in
    let worst : inv_worst t i ≡ task_worst t length.inv.task = ap (λ (o : Option Inv). elim o [ Some x ↦ task_worst t x.task | None ↦ 0 ]) length.known in
    let fits : IsTookWithin t (V.Took i n) = (length.some, omega (arith, length.worst, worst)) in
    record {
      kept = took_kept t es m.run_state f.kept i n fits (slice_get_within t.invs i length.inv length.known);
      before =
          before_stays m es (es ++ V.Took i n ∷ []) now accepted (same_took t (schedules_of m.object) loaded es f.kept.within i n fits now f.kept.reading) f.before (taken_as i n m.run_state) refl
          (s_machine_follows t (schedules_of m.object) loaded es f.kept.within i n fits now f.kept.reading (hyper t) refl m.run_state.s_machine f.before.records.s_machine keeps);
    }

-- a reading, once all instants before it are done
pub read_follows : (m : Seen) (es : List Event) (to : ℕ) → IsAccepted m.object → m.run_state.reading ≤ to → IsUpTo m es to → Follows (record m { run_state = at_reading to m.run_state }) (es ++ V.At to ∷ [])
read_follows m es to accepted later f =
    let t = m.object.tables in
    let fs = es ++ V.At to ∷ [] in
    let loaded = accepted_is_loaded m.object accepted in
    let same = same_at t (schedules_of m.object) loaded es f.kept.within to to in
    record {
      kept = reading_kept t es m.run_state f.kept to later;
      before =
          before_stays m es fs to accepted same f.before (at_reading to m.run_state) refl
          (s_machine_alike t (schedules_of m.object) es fs to same.alike loaded f.kept.within (λ i u. sym (took_at t es to i u)) (hyper t) to m.run_state.s_machine (omega arith) f.before.records.s_machine);
    }

-- the end of a run
pub finished : (m : Seen) (es : List Event) (to : ℕ) → IsUpTo m es (suc to) → IsFinished (record m { run_state = record m.run_state { reading = to; spent = true } }) es to
finished m es to f =
    record {
      spent = refl;
      reading = refl;
      values = f.before.values.values.values;
      jobs = f.before.records.jobs_are;
      e = f.before.values.count;
      s = f.before.records.s_are;
    }

map_or : {A B : Type 0} (f : A → B) (d : B) (xs : List A) (k : ℕ) → get_or (map f xs) k d ≡ elim (slice_get xs k) as (λ _. B) [ Some x ↦ f x | None ↦ d ]
map_or f d [] zero = refl
map_or f d (x ∷ xs) (suc k) = map_or f d xs k
map_or f d _ _ = refl

-- a new machine
pub first_follows : (o : Object) (show : Shown) → IsAccepted o → StandsSafely o.tables o.ecode (first_standing o.tables o.ecode) → IsShaped o.tables (first_content o.tables)
    → Follows (first_seen o show (first_content o.tables) (first_standing o.tables o.ecode)) []
first_follows o show accepted safe shaped =
    let t = o.tables in
    record {
      kept =
          record {
            fresh = refl;
            reading = refl;
            within = tt;
            fits = shaped.values;
            shows = λ c u below h. sym (initial_is c below);
            takes = λ i u below h. sym (worst_is i below);
            count = length-map t.invs _;
          };
      before =
          record {
            values = valued_first t o.ecode (schedules_of o) (accepted_is_loaded o accepted) accepted.spelled.code (first_content t) refl shaped safe;
            records = record { s_machine = idle (hyper t); goes = goes (hyper t); jobs_are = refl; s_are = refl };
          };
    }
  where
    idle : (p : Option ℕ) → SMachineFollows (turn_at o.tables (schedules_of o) []) p 0 rounds.no_round
    idle None = refl
    idle (Some p) = refl

    goes : (p : Option ℕ) → GoesBy (turn_at o.tables (schedules_of o) []) p 0 None
    goes None = refl
    goes (Some p) = refl

    initial_is : (c : ℕ) → c < length o.tables.comms → get_or (map (λ (x : Comm). x.init) o.tables.comms) c (pos 0) ≡ initial o.tables c
    initial_is c below = map_or (λ (x : Comm). x.init) (pos 0) o.tables.comms c

    worst_is : (i : ℕ) → i < length o.tables.invs → get_or (map (λ (x : Inv). task_worst o.tables x.task) o.tables.invs) i 0 ≡ inv_worst o.tables i
    worst_is i below = map_or (λ (x : Inv). task_worst o.tables x.task) 0 o.tables.invs i

pub new_follows_none : (o : Object) (show : Shown) (t : Tables) (code : ECode) (w : Content) (e : Standing) → t ≡ o.tables → code ≡ o.ecode → IsAccepted o → w ≡ first_content t → IsShaped t w
    → e ≡ first_standing t code → StandsSafely t code e → Follows (first_seen o show w e) []
new_follows_none o show t code w e same same_code accepted is shaped first safe =
    let w_is : w ≡ first_content o.tables = is ∙ ap first_content same in
    let e_is : e ≡ first_standing o.tables o.ecode = first ∙ ap₂ first_standing same same_code in
    let s : StandsSafely o.tables o.ecode (first_standing o.tables o.ecode) =
    subst (λ z. StandsSafely o.tables o.ecode z) e_is (subst (λ z. StandsSafely o.tables z e) same_code (subst (λ z. StandsSafely z code e) same safe)) in
    let h : IsShaped o.tables (first_content o.tables) = subst (λ z. IsShaped o.tables z) w_is (subst (λ z. IsShaped z w) same shaped) in
    subst (λ z. Follows (first_seen o show z e) []) (sym w_is)
    (subst (λ z. Follows (first_seen o show (first_content o.tables) z) []) (sym e_is) (first_follows o show accepted s h))

-- a machine that is made stands at the beginning
pub first_is : (o : Object) (show : Shown) (w : Content) (e : Standing) (shows : List ℤ) (takes : List ℕ) (s_machine : rounds.Round) (list : Option ListAt) → shows ≡ w.values → takes ≡ map (λ (x : Inv). task_worst o.tables x.task) o.tables.invs → s_machine ≡ rounds.no_round → list ≡ None
    → ◌≡◌ {A = Seen} (record {
      object = o;
      show = show;
      run_state = record { spent = false; reading = 0; shows = shows; takes = takes; world = w; s_machine = s_machine };
      standing = e;
      list = list;
      jobs = 0;
      e = 0;
      s = 0;
    }) (first_seen o show w e)
first_is o show w e shows takes s_machine list a b d l =
    let make : List ℤ → List ℕ → rounds.Round → Option ListAt → Seen =
    λ shows takes s_machine list. record { object = o; show = show; run_state = record { spent = false; reading = 0; shows = shows; takes = takes; world = w; s_machine = s_machine }; standing = e; list = list; jobs = 0; e = 0; s = 0 } in
    let worst = map (λ (x : Inv). task_worst o.tables x.task) o.tables.invs in
    ap (λ z. make z takes s_machine list) a ∙ ap (λ z. make w.values z s_machine list) b ∙ ap (λ z. make w.values worst z list) d ∙ ap (make w.values worst rounds.no_round) l
