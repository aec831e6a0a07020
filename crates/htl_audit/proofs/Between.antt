-- A machine that follows events follows others that tell the same: a reading between two others changes nothing.
use Rattle.std.proofs.Common.{◌≡◌, ℕ, zero, suc, ◌+◌, ◌-◌, List, [], ◌∷◌, ◌++◌, map, Option, Some, None, refl, sym, ap, ◌∙◌, subst, arith, get_or}
use Rattle.htl_audit.proofs.Words.{ext_get_or, Event, State, Stay, hyper, AreInRange, Tables, sense, state, stay_of, mode_of, up_to_same, Calendar, list_at, Pending, Entry, Object, IsAccepted, took, AreTookWithin, modes_at, states_are_selections, Shown, Seen, Follows, IsFinished, text_between, reading_of, schedules_of, lines_of, accepted_is_loaded, Alike, reading_more, sense_at, took_at, within_more, option_map}
use Rattle.htl_runs.proofs.events.NextReading.{s_machine_alike}
use Rattle.htl_runs.proofs.events.SameBefore.{by_sensors, same_at, states_stay, lines_stay, jobs_stay, s_stays, e_stays}
use Rattle.htl_machine.proofs.Calling.{before_stays}
use Rattle.htl_model.specs.declared.event.Event.TheVariants as V

-- the same sensors, lengths and last reading
pub record TellSame (t : Tables) (es fs : List Event) : Type 0 where
  pub senses : (c u : ℕ) → sense t es c u ≡ sense t fs c u
  pub tooks : (i u : ℕ) → took t es i u ≡ took t fs i u
  pub reading : reading_of 0 es ≡ reading_of 0 fs
  pub within : AreTookWithin t fs

-- what a machine follows it follows of events that tell the same
pub same_follows : (m : Seen) (es fs : List Event) → IsAccepted m.object → TellSame m.object.tables es fs → Follows m es → Follows m fs
same_follows m es fs accepted same f =
    let t = m.object.tables in
    let schedules = schedules_of m.object in
    let now = m.run_state.reading in
    let loaded = accepted_is_loaded m.object accepted in
    let alike : Alike t es fs now = (λ c u h. same.senses c u) in
    record {
      kept =
          record {
            fresh = f.kept.fresh;
            reading = f.kept.reading ∙ same.reading;
            within = same.within;
            fits = f.kept.fits;
            shows = λ c u k h. sym (same.senses c u) ∙ f.kept.shows c u k (omega (arith, h, same.reading));
            takes = λ i u k h. sym (same.tooks i u) ∙ f.kept.takes i u k (omega (arith, h, same.reading));
            count = f.kept.count;
          };
      before =
          before_stays m es fs now accepted (by_sensors t schedules loaded es f.kept.within fs same.within now alike same.tooks) f.before m.run_state refl
          (s_machine_alike t schedules es fs now alike loaded f.kept.within same.tooks (hyper t) now m.run_state.s_machine (omega arith) f.before.records.s_machine);
    }

-- a reading between two others changes nothing
between : (t : Tables) (es : List Event) (a to : ℕ) → AreTookWithin t es → TellSame t (es ++ V.At a ∷ [] ++ V.At to ∷ []) (es ++ V.At to ∷ [])
between t es a to within =
    record {
      senses = λ c u. sense_at t (es ++ V.At a ∷ []) to c u ∙ sense_at t es a c u ∙ sym (sense_at t es to c u);
      tooks = λ i u. took_at t (es ++ V.At a ∷ []) to i u ∙ took_at t es a i u ∙ sym (took_at t es to i u);
      reading = reading_more 0 (es ++ V.At a ∷ []) (V.At to) ∙ sym (reading_more 0 es (V.At to));
      within = within_more t es (V.At to) within tt;
    }

pub passes_between : (m : Seen) (es : List Event) (a to : ℕ) → IsAccepted m.object → AreTookWithin m.object.tables es → Follows m (es ++ V.At a ∷ [] ++ V.At to ∷ []) → Follows m (es ++ V.At to ∷ [])
passes_between m es a to accepted within f = same_follows m (es ++ V.At a ∷ [] ++ V.At to ∷ []) (es ++ V.At to ∷ []) accepted (between m.object.tables es a to within) f

-- a reading that is the last one already changes nothing
pub reads_again : (m : Seen) (es : List Event) → IsAccepted m.object → Follows m es → Follows m (es ++ V.At m.run_state.reading ∷ [])
reads_again m es accepted f =
    same_follows m es (es ++ V.At m.run_state.reading ∷ []) accepted
    (record {
      senses = λ c u. sym (sense_at m.object.tables es m.run_state.reading c u);
      tooks = λ i u. sym (took_at m.object.tables es m.run_state.reading i u);
      reading = sym f.kept.reading ∙ sym (reading_more 0 es (V.At m.run_state.reading));
      within = within_more m.object.tables es (V.At m.run_state.reading) f.kept.within tt;
    })
    f

-- the same once the run has ended
pub ends_between : (m : Seen) (es : List Event) (a to : ℕ) → IsAccepted m.object → AreTookWithin m.object.tables es → IsFinished m (es ++ V.At a ∷ []) to → IsFinished m es to
ends_between m es a to accepted within f =
    let t = m.object.tables in
    let schedules = schedules_of m.object in
    let later = es ++ V.At a ∷ [] in
    let loaded = accepted_is_loaded m.object accepted in
    let same = same_at t schedules loaded es within a (suc to) in
    record {
      spent = f.spent;
      reading = f.reading;
      values = f.values ∙ sym (ap (λ (z : State). z.values) (states_stay t schedules loaded es later (suc to) same to (omega arith)));
      jobs = f.jobs ∙ sym (jobs_stay t schedules loaded es later (suc to) same);
      e = f.e ∙ sym (e_stays t schedules loaded es later (suc to) same m.object.ecode);
      s = f.s ∙ sym (s_stays t schedules loaded es later (suc to) same);
    }

-- the text knows readings only by what is told with them
pub text_same : (o : Object) (es : List Event) (a : ℕ) (show : Shown) (from to : ℕ) → IsAccepted o → AreTookWithin o.tables es → text_between o (es ++ V.At a ∷ []) show from to ≡ text_between o es show from to
text_same o es a show from to accepted within =
    let later = es ++ V.At a ∷ [] in
    let loaded = accepted_is_loaded o accepted in
    up_to_same (λ n. lines_of o later show (from + n)) (λ n. lines_of o es show (from + n)) (to - from)
    (λ n h.
    let end = suc (from + n) in
    sym (lines_stay o.tables (schedules_of o) loaded es later end (same_at o.tables (schedules_of o) loaded es within a end) o.ecode show (from + n) (omega arith)))

-- ---- the modes

-- before the instant after n the E machine's modes are those of n
pub modes_before : (m : Seen) (es : List Event) (n : ℕ) → IsAccepted m.object → Follows m es → m.run_state.reading ≡ suc n → m.standing.calendar.modes ≡ modes_at m.object.tables es n
modes_before m es n accepted f read =
    ext_get_or None c.modes (modes_at t es n) (b.sized.modes ∙ sym (states_are_selections t range es n).same) (λ k h. list_get c.modes k ∙ ap (λ (e : Entry). e.mode) (b.above k (omega arith) (omega (arith, h, b.sized.modes))) ∙ mode_there (state t es n).stays k)
  where
    t : Tables
    t = m.object.tables

    c : Calendar
    c = m.standing.calendar

    range : AreInRange t
    range = accepted.spelled.formed.ranges.tables

    b : Pending t m.object.ecode es (suc n) 1 c 0
    b = subst (λ now. Pending t m.object.ecode es now 1 c 0) read f.before.values.triggers.calendar

    list_get : (xs : List (Option ℕ)) (k : ℕ) → get_or xs k None ≡ list_at xs k
    list_get [] k = refl
    list_get (x ∷ xs) zero = refl
    list_get (x ∷ xs) (suc k) = list_get xs k

    mode_there : (ys : List (Option Stay)) (k : ℕ) → mode_of (stay_of ys k) ≡ get_or (map (λ (o : Option Stay). option_map (λ y. y.mode) o) ys) k None
    mode_there [] k = refl
    mode_there (None ∷ ys) zero = refl
    mode_there (Some y ∷ ys) zero = refl
    mode_there (y ∷ ys) (suc k) = mode_there ys k
