-- Events that agree before an instant leave what a run was before it: its lists, values, records, lines and totals.
use Rattle.std.proofs.Common.{◌≡◌, ℕ, zero, suc, ◌≤◌, ◌<◌, false, cond, eqb, leb, List, [], ◌∷◌, ◌++◌, length, map, Option, Some, None, ℤ, refl, sym, ap, ap₂, ◌∙◌, subst, arith}
use Rattle.htl_runs.proofs.Words.{lt-leb, and_right, count_by, Event, joined, lines_text, hyper, Tables, state, before, sense, changes, up_to_same, SInstr, ECode, Standing, Content, instant_path, e_path, took, IsTookWithin, AreTookWithin, Shown, shows_values, shows_code, ValuesFollow, turn_at, finished_before, reading_of, IsLoaded, IsValued, RunRecord, old_records, new_records, plan_records, standing_old, standing_new, turn_old_records, turn_new_records, record_text, e_line, e_lines, change_lines, lines, capped, records_at, all_records, jobs_done, e_done, s_done}
use Rattle.htl_model.specs.declared.event.Event.TheVariants as V
use Rattle.htl_smach.specs.declared.left.Left.{Left}
use Rattle.htl_runs.proofs.events.SameSensors.{Alike, values_alike, state_same, before_same, sense_at, sense_end, sense_sense, took_at, took_end, took_sense}
use Rattle.htl_runs.proofs.events.SameRecords.{AreSoFar, one_so_far, finished_so_far, between_so_far, new_so_far, shown_so_far}
use Rattle.htl_runs.proofs.{events.SameTriggers.triggers_alike, events.NextReading.within_more, events.NextReading.turn_same, events.NextReading.all_read, events.NextLength.alike, events.NextLength.so_far, lists.LoadedLists.loaded_turns}
use Rattle.htl_runs.proofs.lines.LoadedRecords.{loaded_old, loaded_new}

-- the same sensors before an instant, and lists that have left the same
pub record AreSameBefore (t : Tables) (schedules : List (List SInstr)) (es fs : List Event) (now : ℕ) : Type 0 where
  pub within : AreTookWithin t es
  pub later : AreTookWithin t fs
  pub alike : Alike t es fs now
  pub lists : (n : ℕ) → n < now → AreSoFar (turn_at t schedules es n) (turn_at t schedules fs n) now

-- ---- one event more

module _ (t : Tables) (schedules : List (List SInstr)) (loaded : IsLoaded t schedules) (es : List Event) (within : AreTookWithin t es) where
  -- where the lengths are the same
  pub by_sensors : (fs : List Event) → AreTookWithin t fs → (now : ℕ) → Alike t es fs now → ((i u : ℕ) → took t es i u ≡ took t fs i u) → AreSameBefore t schedules es fs now
  by_sensors fs later now alike tooks =
      record {
        within = within;
        later = later;
        alike = alike;
        lists = λ n h. subst (λ v. AreSoFar (turn_at t schedules es n) v now) (turn_same t schedules es fs now alike loaded within tooks n h) (one_so_far (turn_at t schedules es n) now);
      }

  pub same_at : (to now : ℕ) → AreSameBefore t schedules es (es ++ V.At to ∷ []) now
  same_at to now = by_sensors (es ++ V.At to ∷ []) (within_more t es (V.At to) within tt) now (λ c u h. sym (sense_at t es to c u)) (λ i u. sym (took_at t es to i u))

  pub same_end : (to now : ℕ) → AreSameBefore t schedules es (es ++ V.End to ∷ []) now
  same_end to now = by_sensors (es ++ V.End to ∷ []) (within_more t es (V.End to) within tt) now (λ c u h. sym (sense_end t es to c u)) (λ i u. sym (took_end t es to i u))

  pub same_sense : (d : ℕ) (y : ℤ) (now : ℕ) → now ≤ reading_of 0 es → AreSameBefore t schedules es (es ++ V.Sense d y ∷ []) now
  same_sense d y now before_reading =
      by_sensors (es ++ V.Sense d y ∷ []) (within_more t es (V.Sense d y) within tt) now
      (λ c u h.
      let late : leb (reading_of 0 es) u ≡ false = lt-leb (reading_of 0 es) u (omega (arith, h, before_reading)) in
      sym (sense_sense t es d c u y ∙ ap (λ b. cond b y (sense t es c u)) (and_right (eqb c d) (leb (reading_of 0 es) u) late)))
      (λ i u. sym (took_sense t es d i u y))

  pub same_took : (i n : ℕ) → IsTookWithin t (V.Took i n) → (now : ℕ) → now ≡ reading_of 0 es → AreSameBefore t schedules es (es ++ V.Took i n ∷ []) now
  same_took i n fits now reading =
      record {
        within = within;
        later = within_more t es (V.Took i n) within fits;
        alike = alike t schedules loaded es within i n fits now reading;
        lists = so_far t schedules loaded es within i n fits now reading;
      }

-- ---- what they leave

module _ (t : Tables) (schedules : List (List SInstr)) (loaded : IsLoaded t schedules) (es fs : List Event) (now : ℕ) (same : AreSameBefore t schedules es fs now) where
  past : (n : ℕ) → (turn_at t schedules es n).frame ≤ n
  past n = (loaded_turns t schedules loaded es same.within).frames.past n

  -- who is finished
  finished_stays : finished_before (turn_at t schedules es) now ≡ finished_before (turn_at t schedules fs) now
  finished_stays = by now refl
    where
      by : (k : ℕ) → now ≡ k → finished_before (turn_at t schedules es) k ≡ finished_before (turn_at t schedules fs) k
      by zero e = refl
      by (suc k) e = finished_so_far (turn_at t schedules es k) (turn_at t schedules fs k) now (same.lists k (omega (arith, e))) (suc k) (omega (arith, past k)) (omega (arith, e))

  -- the records of the lists that began before an instant, and of the list that begins there
  old_stay : (n : ℕ) → n < now → old_records t schedules es (hyper t) n ≡ old_records t schedules fs (hyper t) n
  old_stay n h = loaded_old t schedules es loaded same.within n ∙ by (hyper t) n h ∙ sym (loaded_old t schedules fs loaded same.later n)
    where
      by : (o : Option ℕ) (n : ℕ) → n < now → standing_old t schedules es o n ≡ standing_old t schedules fs o n
      by None n h = refl
      by (Some p) zero h = refl
      by (Some p) (suc n) h =
          let u = turn_at t schedules es n in
          let v = turn_at t schedules fs n in
          let so = same.lists n (omega (arith, h)) in
          ap (plan_records u.plan u.node) (between_so_far u v now so (suc n) (suc (suc n)) (omega (arith, past n)) (omega arith) (omega (arith, h)))
          ∙ shown_so_far u v now so (turn_old_records (turn_at t schedules fs) (suc n))

  new_stay : (n : ℕ) → n < now → new_records t schedules es (hyper t) n ≡ new_records t schedules fs (hyper t) n
  new_stay n h = loaded_new t schedules es loaded same.within n ∙ by (hyper t) ∙ sym (loaded_new t schedules fs loaded same.later n)
    where
      by : (o : Option ℕ) → standing_new t schedules es o n ≡ standing_new t schedules fs o n
      by None = refl
      by (Some p) =
          let u = turn_at t schedules es n in
          let v = turn_at t schedules fs n in
          ap (plan_records u.plan u.node) (new_so_far u v now (same.lists n h) n (past n) (omega (arith, h)))
          ∙ shown_so_far u v now (same.lists n h) (turn_new_records (turn_at t schedules fs) n)

  pub states_stay : (n : ℕ) → n < now → state t es n ≡ state t fs n
  states_stay n h = state_same t es fs now n same.alike h

  earlier_stay : (n : ℕ) → n < now → before t es n ≡ before t fs n
  earlier_stay n h = before_same t es fs n (λ c u g. same.alike c u (omega (arith, g, h)))

  -- the lines of an instant before
  pub lines_stay : (code : ECode) (show : Shown) (n : ℕ) → n < now → lines t code schedules es show n ≡ lines t code schedules fs show n
  lines_stay code show n h =
      let text : List RunRecord → List ℕ = joined (record_text t show) in
      ap₂ (λ x y. text x ++ e_lines t code es show n ++ change_lines t es show n ++ text y) (old_stay n h) (new_stay n h)
      ∙ ap₂ (λ x y. text (old_records t schedules fs (hyper t) n) ++ cond (shows_code show) (joined (e_line t code n) (instant_path t code n x y)) [] ++ cond (shows_values show) (lines_text t (changes t n x y)) [] ++ text (new_records t schedules fs (hyper t) n)) (earlier_stay n h) (states_stay n h)

  -- the totals
  records_stay : all_records t schedules es now ≡ all_records t schedules fs now
  records_stay =
      up_to_same (records_at t schedules es) (records_at t schedules fs) now
      (λ n h. ap₂ (λ (x y : List RunRecord). map (λ (z : RunRecord). z.left) (x ++ y)) (old_stay n h) (new_stay n h))

  pub jobs_stay : jobs_done t schedules es now ≡ jobs_done t schedules fs now
  jobs_stay = ap (λ ls. capped (count_by (λ (l : Left). l.finished) ls)) records_stay

  pub s_stays : s_done t schedules es now ≡ s_done t schedules fs now
  s_stays = ap (λ (ls : List Left). capped (length ls)) records_stay

  pub e_stays : (code : ECode) → e_done t code es now ≡ e_done t code fs now
  e_stays code = ap (λ (ds : List _). capped (length ds)) (up_to_same (e_path t code es) (e_path t code fs) now (λ n h. ap₂ (instant_path t code n) (earlier_stay n h) (states_stay n h)))

  -- values, buffers, modes and triggers
  pub valued_stays : (code : ECode) (w : Content) (m : Standing) (e : ℕ) → IsValued t code es now (finished_before (turn_at t schedules es) now) w m e
      → IsValued t code fs now (finished_before (turn_at t schedules fs) now) w m e
  valued_stays code w m e f =
      record {
        values =
            subst (λ z. ValuesFollow t fs now z w) finished_stays
            (values_alike t loaded.range loaded.kept es fs now (finished_before (turn_at t schedules es) now) w same.alike (λ i x s st fin. all_read t schedules loaded es same.within now i x s st fin) f.values);
        shaped = f.shaped;
        triggers = triggers_alike t loaded.range now code es fs same.alike m f.triggers;
        safe = f.safe;
        count = f.count ∙ e_stays code;
      }
