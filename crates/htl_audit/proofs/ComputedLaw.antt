-- The values that a legal log gives are those of logical execution time, instant by instant.
use Rattle.std.proofs.Common.{◌≡◌, ◌≤◌, ◌<◌, ◌⊎◌, inl, inr, ℕ, zero, suc, ◌-◌, Bool, true, false, cond, ◌||◌, eqb, List, [], ◌∷◌, ◌++◌, length, slice_get, Option, Some, ℤ, refl, sym, ap, ap₂, ◌∙◌, subst, arith}
use Rattle.htl_audit.proofs.Words.{eqb-true, eqb-false, ne_eqb, Event, Inv, Stay, State, KeptApart, state, before, sense, stays_at, AreInRange, Tables, SInstr, AreFeasible, Content, first_content, completed, first_shaped, AreTookWithin, schedules_of, InvStands, Ready, ValuesFollow, HasPlaces, and_also, effects, all_reads, all_writes, with_sensors, follows_on, after_shape, holds_values, finish_follows, completed_shape, has_places, Slice, ended, ending, is_finished, with_lines, Known, next_known, known, GivesTheMeaning, LegalLogGivesTheMeaning, HaveRounds, round_of, all_rounds, lies_in, ticks, job_length, IsLegal, none-some, false_from_ne_true}
use Rattle.htl_audit.proofs.FinishedByLog.{finished_is, finished_stands, alike, own_job, never, lies_own, has_read, all_ready, none_ready, all_carried}
use Rattle.htl_audit.proofs.{Judging.lies, Judging.ticks_more, LegalLogs.ended_next, LegalLogs.ending_at, LegalLogs.kept, LegalLogs.one_ending, LegalLogs.none_first, StandingJobs.HasJobFrom, StandingJobs.stands_order}
use Rattle.htl_audit.proofs.Rounds.{accepted_range, accepted_kept, first_rules, have_rounds}

module _ (t : Tables) (lists : List (List SInstr)) (range : AreInRange t) (kept16 : KeptApart t 16) (feasible : AreFeasible t lists) (rounds : HaveRounds t) (es : List Event) (within : AreTookWithin t es) (end : ℕ) (log : List Slice) (legal : IsLegal t es end log) where
  first12 : KeptApart t 12
  first12 = first_rules t kept16

  abbrev finished : ℕ → ℕ → ℕ → Bool
  finished now m i = is_finished t es (before t es now).stays (ended m log) i

  -- ---- the lines that end at an instant

  module _ (n : ℕ) (soon : n < end) where
    abbrev stays : List (Option Stay)
    stays = (state t es n).stays

    abbrev lines : List Slice
    lines = ended (suc n) log

    -- where none does, nobody more is finished
    none_more : ending (suc n) log ≡ [] → (i : ℕ) (x : Inv) (s : ℕ) → InvStands t stays i x s → finished (suc n) (suc n) i ≡ finished (suc n) (suc (suc n)) i
    none_more none i x s st =
        let r = round_of t es s in
        let j = own_job t range kept16 rounds es within end log legal n soon i s x st in
        let same : ticks r j.job (ended (suc (suc n)) log) ≡ ticks r j.job lines = omega (arith, ended_next r j.job (suc n) log, ap (ticks r j.job) none) in
        finished_is t es stays i s x st j lines ∙ ap (λ k. eqb k (job_length r j.position)) (sym same) ∙ sym (finished_is t es stays i s x st j (ended (suc (suc n)) log))

    module _ (y : Slice) (one : ending (suc n) log ≡ y ∷ []) where
      line : (k : ℕ) × (slice_get log k ≡ Some y) × (y.to ≡ suc n)
      line = ending_at (suc n) log 0 y (ap (λ (xs : List Slice). slice_get xs 0) one)

      room : y.from < y.to
      room = (kept (all_rounds t es (suc end)) (suc end) log legal line.0 y line.1).room

      module _ (i s : ℕ) (x : Inv) (st : InvStands t stays i x s) where
        abbrev job : HasJobFrom t es s i x
        job = own_job t range kept16 rounds es within end log legal n soon i s x st

        -- with the line the job has what it has at the next instant
        with_line : ticks (round_of t es s) job.job (lines ++ y ∷ []) ≡ ticks (round_of t es s) job.job (ended (suc (suc n)) log)
        with_line =
            let r = round_of t es s in
            omega (arith, ticks_more r job.job lines y, ended_next r job.job (suc n) log, ap (ticks r job.job) one)

        line_finishes : is_finished t es stays (lines ++ y ∷ []) i ≡ finished (suc n) (suc (suc n)) i
        line_finishes =
            finished_is t es stays i s x st job (lines ++ y ∷ []) ∙ ap (λ k. eqb k (job_length (round_of t es s) job.position)) with_line
            ∙ sym (finished_is t es stays i s x st job (ended (suc (suc n)) log))

        -- another job has no more ticks
        others_stay : (y.inv ≡ i → ⊥) → finished (suc n) (suc n) i ≡ finished (suc n) (suc (suc n)) i
        others_stay other =
            let r = round_of t es s in
            let same : ticks r job.job (lines ++ y ∷ []) ≡ ticks r job.job lines = omega (arith, ticks_more r job.job lines y, ap (λ (b : Bool). cond b (y.to - y.from) 0) out) in
            finished_is t es stays i s x st job lines ∙ ap (λ k. eqb k (job_length r job.position)) (sym same ∙ with_line) ∙ sym (finished_is t es stays i s x st job (ended (suc (suc n)) log))
          where
            out : lies_in (round_of t es s) job.job y ≡ false
            out = false_from_ne_true (lies_in (round_of t es s) job.job y) (λ e. other ((lies (round_of t es s) job.job y e).inv ∙ job.inv))

        -- its own has fewer before the line than it takes
        open_yet : y.inv ≡ i → finished (suc n) (suc n) i ≡ false
        open_yet own =
            let r = round_of t es s in
            let lie = lies_own t range kept16 rounds es within end log legal n soon i s x st line.0 y line.1 line.2 own in
            let most = never t range kept16 rounds es within end log legal n soon i s x st (suc (suc n)) in
            let more = ap (λ (b : Bool). cond b (y.to - y.from) 0) lie in
            finished_is t es stays i s x st job lines
            ∙ ne_eqb (ticks r job.job lines) (job_length r job.position) (λ e. omega (arith, e, most, with_line, ticks_more r job.job lines y, more, room))

      same_or : (a b : ℕ) → (a ≡ b) ⊎ (a ≡ b → ⊥)
      same_or a b = grind arith

      -- where it finishes nobody
      nobody : is_finished t es stays (lines ++ y ∷ []) y.inv ≡ false → (i : ℕ) (x : Inv) (s : ℕ) → InvStands t stays i x s → finished (suc n) (suc n) i ≡ finished (suc n) (suc (suc n)) i
      nobody not i x s st = by (same_or y.inv i)
        where
          by : (y.inv ≡ i) ⊎ (y.inv ≡ i → ⊥) → finished (suc n) (suc n) i ≡ finished (suc n) (suc (suc n)) i
          by (inl own) = open_yet i s x st own ∙ sym (sym (line_finishes i s x st) ∙ ap (is_finished t es stays (lines ++ y ∷ [])) (sym own) ∙ not)
          by (inr other) = others_stay i s x st other

      -- where it finishes the job of its invocation
      somebody : is_finished t es stays (lines ++ y ∷ []) y.inv ≡ true → (i : ℕ) (x : Inv) (s : ℕ) → InvStands t stays i x s → and_also y.inv (finished (suc n) (suc n)) i ≡ finished (suc n) (suc (suc n)) i
      somebody done i x s st = by (eqb i y.inv) refl
        where
          by : (b : Bool) → eqb i y.inv ≡ b → (b || finished (suc n) (suc n) i) ≡ finished (suc n) (suc (suc n)) i
          by true e = sym (sym (line_finishes i s x st) ∙ ap (is_finished t es stays (lines ++ y ∷ [])) (eqb-true i y.inv e) ∙ done)
          by false e = others_stay i s x st (λ own. eqb-false i y.inv e (sym own))

      one_line : (w : Content) → ValuesFollow t es (suc n) (finished (suc n) (suc n)) w → HasPlaces t w → (b : Bool) → is_finished t es stays (lines ++ y ∷ []) y.inv ≡ b
          → ValuesFollow t es (suc n) (finished (suc n) (suc (suc n))) (cond b (completed t y.inv w) w) × HasPlaces t (cond b (completed t y.inv w) w)
      one_line w follows places false not = (alike t es (suc n) (finished (suc n) (suc n)) (finished (suc n) (suc (suc n))) w (nobody not) follows, places)
      one_line w follows places true done =
          let f = finished_stands t es stays (lines ++ y ∷ []) y.inv done in
          let i = y.inv in
          let lie = lies_own t range kept16 rounds es within end log legal n soon i f.1 f.0 f.2 line.0 y line.1 line.2 refl in
          let read = has_read t range kept16 rounds es within end log legal n soon i f.1 f.0 f.2 line.0 y line.1 lie (omega (arith, line.2)) (suc n) (omega (arith, line.2, room)) in
          let order = stands_order t range kept16 rounds es n i f.1 f.0 f.2 lists feasible within in
          let more =
          finish_follows t range first12 es (suc n) (finished (suc n) (suc n)) w follows i f.1 f.0 f.2 (open_yet i f.1 f.0 f.2 refl) read order.0 order.1 places in
          (alike t es (suc n) (and_also i (finished (suc n) (suc n))) (finished (suc n) (suc (suc n))) (completed t i w) (somebody done) more, completed_shape t i w places)

    lines_done : (w : Content) → ValuesFollow t es (suc n) (finished (suc n) (suc n)) w → HasPlaces t w → (ys : List Slice) → ending (suc n) log ≡ ys
        → ValuesFollow t es (suc n) (finished (suc n) (suc (suc n))) (with_lines t es stays lines ys w) × HasPlaces t (with_lines t es stays lines ys w)
    lines_done w follows places [] e = (alike t es (suc n) (finished (suc n) (suc n)) (finished (suc n) (suc (suc n))) w (none_more e) follows, places)
    lines_done w follows places (y ∷ []) e = one_line y e w follows places (is_finished t es stays (lines ++ y ∷ []) y.inv) refl
    lines_done w follows places (y ∷ z ∷ zs) e = absurd (omega (arith, one_ending (all_rounds t es (suc end)) (suc end) log legal (suc n), ap (λ (xs : List Slice). length xs) e))

  -- ---- from instant to instant

  abbrev done_at : ℕ → Content → Content
  done_at now w = with_lines t es (before t es now).stays (ended now log) (ending now log) w

  lines_at : (now : ℕ) → now ≤ end → (w : Content) → ValuesFollow t es now (finished now now) w → HasPlaces t w → ValuesFollow t es now (finished now (suc now)) (done_at now w) × HasPlaces t (done_at now w)
  lines_at zero late w follows places =
      let same : w ≡ done_at 0 w = ap (λ ys. with_lines t es [] (ended 0 log) ys w) (sym (none_first (all_rounds t es (suc end)) (suc end) log legal)) in (
        subst (λ v. ValuesFollow t es 0 (finished 0 1) v) same
            (alike t es 0 (finished 0 0) (finished 0 1) w (λ i x s st. absurd (none-some (record { mode = x.mode; start = s }) st.in_round)) follows),
        subst (HasPlaces t) same places,
      )
  lines_at (suc n) late w follows places = lines_done n (omega (arith, late)) w follows places (ending (suc n) log) refl

  ready_at : (now : ℕ) → now ≤ end → Ready t es now (finished now (suc now))
  ready_at zero late = none_ready t range kept16 rounds es within end log legal
  ready_at (suc n) late = all_ready t range kept16 rounds es within end log legal n (omega (arith, late))

  -- the modes of an instant follow from its values
  stays_are : (now : ℕ) → stays_at t (state t es now).values now (before t es now).stays ≡ (state t es now).stays
  stays_are zero = refl
  stays_are (suc n) = refl

  record Holds (now : ℕ) (k : Known) : Type 0 where
    stays : k.stays ≡ (before t es now).stays
    follows : ValuesFollow t es now (finished now now) k.world
    places : HasPlaces t k.world

  next : (now : ℕ) → now ≤ end → (k : Known) → Holds now k → Holds (suc now) (next_known t es log now k)
  next now late k h =
      let old = (before t es now).stays in
      let done = lines_at now late k.world h.follows h.places in
      let w = done_at now k.world in
      let ready = ready_at now late in
      let carried = all_carried t range kept16 rounds es within end log legal now in
      let sensed = with_sensors t (sense t es) now (effects t (all_writes t now old) w) in
      let make : List (Option Stay) → Known = λ z. record { world = effects t (all_reads t now z) sensed; stays = z } in
      let values = holds_values t range first12 es now (finished now (suc now)) (finished (suc now) (suc now)) w done.0 done.1 ready carried in
      let same : next_known t es log now k ≡ make (state t es now).stays =
      ap (λ z. next_known t es log now (record { world = k.world; stays = z })) h.stays ∙ ap make (ap (λ v. stays_at t v now old) values ∙ stays_are now) in
      subst (Holds (suc now)) (sym same)
      (record {
        stays = refl;
        follows = follows_on t range first12 es now (finished now (suc now)) (finished (suc now) (suc now)) w done.0 done.1 ready carried;
        places = after_shape t range first12 es now (finished now (suc now)) (finished (suc now) (suc now)) w done.0 done.1 ready carried;
      })

  holds : (now : ℕ) → now ≤ suc end → Holds now (known t es log now)
  holds zero late =
      record {
        stays = refl;
        follows = record {
          values = refl;
          inputs = λ i x s k c n st fin at past. absurd (none-some (record { mode = x.mode; start = s }) st.in_round);
          outputs = λ i x s k st fin at. absurd (none-some (record { mode = x.mode; start = s }) st.in_round);
        };
        places = has_places t (first_content t) range first12 (first_shaped t range);
      }
  holds (suc n) late = next n (omega (arith, late)) (known t es log n) (holds n (omega (arith, late)))

  whole_state : (now : ℕ) → ◌≡◌ {A = State} (record { values = (state t es now).values; stays = (state t es now).stays }) (state t es now)
  whole_state zero = refl
  whole_state (suc n) = refl

  pub gives_the_meaning : (now : ℕ) → now ≤ end → GivesTheMeaning t es log now
  gives_the_meaning now late =
      let h = holds (suc now) (omega (arith, late)) in
      let make : List ℤ → List (Option Stay) → State = λ values stays. record { values = values; stays = stays } in
      record { same = ap₂ make h.follows.values h.stays ∙ whole_state now; buffers = h.follows }

-- ---- the law

pub legal_log_gives_the_meaning : LegalLogGivesTheMeaning
legal_log_gives_the_meaning o es end log accepted within legal now late =
    gives_the_meaning o.tables (schedules_of o) (accepted_range o accepted) (accepted_kept o accepted) accepted.feasible (have_rounds o accepted) es within end log legal now late
