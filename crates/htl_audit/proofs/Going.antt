-- An auditor goes from one start of rounds to the next, and on to a reading or to the end.
use Rattle.std.proofs.Common.{◌≡◌, ℕ, suc, ◌+◌, ◌-◌, ◌≤◌, ◌<◌, true, false, List, [], ◌∷◌, ◌++◌, length, drop, map, Option, Result, Ok, Err, OnOk, refl, sym, ◌∙◌, ap, subst, arith}
use mathlib.Core.Path.{fun_ext}
use Rattle.htl_audit.proofs.Words.{Event, State, Stay, root_periods, begins, up_to, Object, IsAccepted, Shown, Values, Puts, append_known-start, Puts-second, Puts-failed, append_known, modes_at, took, AreTookWithin, text_between, lines_of, state_same, reading_more, sense_at, took_at, up_to_more, Audit, AuditFollows, IsStopped, IsAudited, AreSized, all_rounds, Kept, passed, lengths_begun, LogFollows, LogEnds, option_map}
use Rattle.htl_model.specs.declared.event.Event.TheVariants as V
use Rattle.htl_machine.specs.Calls as machines
use Rattle.htl_audit.proofs.{Begun.agrees, Begun.begun_follows, Begun.ends, Between.text_same, Between.passes_between, Between.reads_again, Between.ends_between, Between.modes_before, Keepers.passed_sized, Passing.passed_follows}
use Rattle.htl_audit.proofs.{Growing.rounds_agree, Growing.rounds_still, Growing.rounds_same, Rounds.accepted_range, Rounds.accepted_kept, Rounds.have_rounds}

-- ---- the text of two stretches

abbrev lines_behind : Object → List Event → Shown → ℕ → ℕ → List ℕ
lines_behind o es show from n = lines_of o es show (from + n)

pub text_more : (o : Object) (es : List Event) (show : Shown) (from at to : ℕ) → from ≤ at → at ≤ to → text_between o es show from to ≡ text_between o es show from at ++ text_between o es show at to
text_more o es show from at to low high =
    ap (up_to (lines_behind o es show from)) (let z : to - from ≡ (at - from) + (to - at) = omega (arith, low, high) in z) ∙ up_to_more (lines_behind o es show from) (at - from) (to - at)
    ∙ ap (λ (g : ℕ → List ℕ). up_to (lines_behind o es show from) (at - from) ++ up_to g (to - at)) (fun_ext (λ n. ap (lines_of o es show) (let z : from + (at - from + n) ≡ at + n = omega (arith, low) in z)))

-- ---- a stop

pub stop_first : (a : Audit) (es : List Event) → IsAccepted a.machine.object → AuditFollows a es → IsStopped a es
stop_first a es accepted f =
    record { machine = reads_again a.machine es accepted f.machine; within = f.machine.kept.within; shown = f.shown; takes = f.takes; log = f.log }

module _ (a : Audit) (es : List Event) (accepted : IsAccepted a.machine.object) (sized : AreSized a) (f : IsStopped a es) where
  -- the lines and windows that end before a later instant, over the rounds before it
  log_then : (at later : ℕ) → a.machine.run_state.reading ≤ at → at ≤ later → ((n : ℕ) → a.machine.run_state.reading ≤ n → n < at → begins (root_periods a.machine.object.tables) n ≡ false)
      → LogFollows a.machine.object.tables (all_rounds a.machine.object.tables es at) later a.log (passed a.machine.object.tables later (drop a.kept.place a.log) a.kept)
  log_then at later low high none =
      subst (λ rs. LogFollows a.machine.object.tables rs later a.log (passed a.machine.object.tables later (drop a.kept.place a.log) a.kept)) (rounds_still a.machine.object.tables es a.machine.run_state.reading at low none)
      (passed_follows a.machine.object.tables (all_rounds a.machine.object.tables es a.machine.run_state.reading) a.machine.run_state.reading later (omega (arith, low, high))
      (rounds_agree a.machine.object.tables (have_rounds a.machine.object accepted) es es a.machine.run_state.reading (agrees a.machine.object.tables (accepted_range a.machine.object accepted) es f.within a.machine.run_state.reading) a.machine.run_state.reading (omega arith))
      a.log a.kept sized.stands f.log)

  pub turn_reading : (s : ℕ) (m : machines.Seen) → machines.Follows m (es ++ V.At a.machine.run_state.reading ∷ [] ++ V.At s ∷ []) → m.run_state.reading ≡ s
  turn_reading s m g = g.kept.reading ∙ reading_more 0 (es ++ V.At a.machine.run_state.reading ∷ []) (V.At s)

  pub turn_stops : (s : ℕ) (m : machines.Seen) → a.machine.run_state.reading ≤ s → begins (root_periods a.machine.object.tables) s ≡ true → ((n : ℕ) → a.machine.run_state.reading ≤ n → n < s → begins (root_periods a.machine.object.tables) n ≡ false)
      → machines.IsSameRun a.machine m → machines.Follows m (es ++ V.At a.machine.run_state.reading ∷ [] ++ V.At (suc s) ∷ [])
      → IsStopped (record { machine = m; log = a.log; takes = a.takes; kept = lengths_begun m.object.tables m.standing.calendar.modes a.takes s (passed a.machine.object.tables (suc s) (drop a.kept.place a.log) a.kept) }) es
  turn_stops s m low is none same g =
      record {
        machine = subst (λ n. machines.Follows m (es ++ V.At n ∷ [])) (sym read) on;
        within = subst (λ (o : Object). AreTookWithin o.tables es) (sym same.object) f.within;
        shown = same.show ∙ f.shown;
        takes = λ i u h later. ap (λ (o : Object). took o.tables es i u) same.object ∙ f.takes i u (subst (λ (o : Object). i < length o.tables.invs) same.object h) (omega (arith, later, read, low));
        log = log;
      }
    where
      read : m.run_state.reading ≡ suc s
      read = turn_reading (suc s) m g

      accepted_then : IsAccepted m.object
      accepted_then = subst IsAccepted (sym same.object) accepted

      on : machines.Follows m (es ++ V.At (suc s) ∷ [])
      on = passes_between m es a.machine.run_state.reading (suc s) accepted_then (subst (λ (o : Object). AreTookWithin o.tables es) (sym same.object) f.within) g

      modes : m.standing.calendar.modes ≡ modes_at a.machine.object.tables es s
      modes =
          modes_before m (es ++ V.At (suc s) ∷ []) s accepted_then on read ∙ ap (λ (o : Object). modes_at o.tables (es ++ V.At (suc s) ∷ []) s) same.object
          ∙ ap (λ (z : State). map (λ (o : Option Stay). option_map (λ (y : Stay). y.mode) o) z.stays)
          (state_same a.machine.object.tables (es ++ V.At (suc s) ∷ []) es (suc s) s (λ c u h. sense_at a.machine.object.tables es (suc s) c u) (omega arith))

      here : LogFollows a.machine.object.tables (all_rounds a.machine.object.tables es (suc s)) (suc s) a.log (lengths_begun a.machine.object.tables (modes_at a.machine.object.tables es s) a.takes s (passed a.machine.object.tables (suc s) (drop a.kept.place a.log) a.kept))
      here =
          begun_follows a.machine.object.tables (accepted_range a.machine.object accepted) (accepted_kept a.machine.object accepted) (have_rounds a.machine.object accepted) es f.within s is a.log
          (passed a.machine.object.tables (suc s) (drop a.kept.place a.log) a.kept) (log_then s (suc s) low (omega arith) none) a.takes (λ i u h later. f.takes i u h (omega (arith, later, low)))
          (passed_sized (length a.machine.object.tables.invs) a.machine.object.tables (suc s) (drop a.kept.place a.log) a.kept sized)

      log : LogFollows m.object.tables (all_rounds m.object.tables es m.run_state.reading) m.run_state.reading a.log (lengths_begun m.object.tables m.standing.calendar.modes a.takes s (passed a.machine.object.tables (suc s) (drop a.kept.place a.log) a.kept))
      log =
          subst (λ n. LogFollows m.object.tables (all_rounds m.object.tables es n) n a.log (lengths_begun m.object.tables m.standing.calendar.modes a.takes s (passed a.machine.object.tables (suc s) (drop a.kept.place a.log) a.kept))) (sym read)
          (subst (λ (o : Object). LogFollows o.tables (all_rounds o.tables es (suc s)) (suc s) a.log (lengths_begun o.tables m.standing.calendar.modes a.takes s (passed a.machine.object.tables (suc s) (drop a.kept.place a.log) a.kept))) (sym same.object)
          (subst (λ ms. LogFollows a.machine.object.tables (all_rounds a.machine.object.tables es (suc s)) (suc s) a.log (lengths_begun a.machine.object.tables ms a.takes s (passed a.machine.object.tables (suc s) (drop a.kept.place a.log) a.kept))) (sym modes) here))

  -- ---- on to a reading

  pub stop_follows : (to : ℕ) (m : machines.Seen) → a.machine.run_state.reading ≤ to → ((n : ℕ) → a.machine.run_state.reading ≤ n → n < to → begins (root_periods a.machine.object.tables) n ≡ false)
      → machines.IsSameRun a.machine m → machines.Follows m (es ++ V.At a.machine.run_state.reading ∷ [] ++ V.At to ∷ [])
      → AuditFollows (record { machine = m; log = a.log; takes = a.takes; kept = passed a.machine.object.tables to (drop a.kept.place a.log) a.kept }) (es ++ V.At to ∷ [])
  stop_follows to m low none same g =
      record {
        machine = passes_between m es a.machine.run_state.reading to (subst IsAccepted (sym same.object) accepted) (subst (λ (o : Object). AreTookWithin o.tables es) (sym same.object) f.within) g;
        shown = same.show ∙ f.shown;
        takes = λ i u h later.
            took_at m.object.tables es to i u ∙ ap (λ (o : Object). took o.tables es i u) same.object
            ∙ f.takes i u (subst (λ (o : Object). i < length o.tables.invs) same.object h) (omega (arith, later, turn_reading to m g, low));
        log =
            subst (λ n. LogFollows m.object.tables (all_rounds m.object.tables (es ++ V.At to ∷ []) n) n a.log (passed a.machine.object.tables to (drop a.kept.place a.log) a.kept)) (sym (turn_reading to m g))
            (subst (λ (o : Object). LogFollows o.tables (all_rounds o.tables (es ++ V.At to ∷ []) to) to a.log (passed a.machine.object.tables to (drop a.kept.place a.log) a.kept)) (sym same.object)
            (subst (λ rs. LogFollows a.machine.object.tables rs to a.log (passed a.machine.object.tables to (drop a.kept.place a.log) a.kept))
            (rounds_same a.machine.object.tables es (es ++ V.At to ∷ []) to (λ c u h. sym (sense_at a.machine.object.tables es to c u)) (λ i u. sym (took_at a.machine.object.tables es to i u)))
            (log_then to to low (omega arith) none)));
      }

  -- ---- on to the end

  pub stop_ends : (to : ℕ) (m : machines.Seen) → a.machine.run_state.reading ≤ to → ((n : ℕ) → a.machine.run_state.reading ≤ n → n < to → begins (root_periods a.machine.object.tables) n ≡ false)
      → machines.IsSameRun a.machine m → machines.IsFinished m (es ++ V.At a.machine.run_state.reading ∷ []) to
      → IsAudited (record { machine = m; log = a.log; takes = a.takes; kept = passed a.machine.object.tables (suc to) (drop a.kept.place a.log) a.kept }) es to
  stop_ends to m low none same g =
      record {
        machine = ends_between m es a.machine.run_state.reading to (subst IsAccepted (sym same.object) accepted) (subst (λ (o : Object). AreTookWithin o.tables es) (sym same.object) f.within) g;
        log =
            subst (λ (o : Object). LogEnds (all_rounds o.tables es (suc to)) (suc to) a.log (passed a.machine.object.tables (suc to) (drop a.kept.place a.log) a.kept)) (sym same.object)
            (ends a.machine.object.tables (accepted_range a.machine.object accepted) (accepted_kept a.machine.object accepted) (have_rounds a.machine.object accepted) es f.within to a.log
            (passed a.machine.object.tables (suc to) (drop a.kept.place a.log) a.kept) (log_then to (suc to) low (omega arith) none));
      }

-- ---- the same by the calls

-- what a call of the machine writes, as the text of the events without the reading
pub turn_text : {T E : Type 0} (a a1 : Audit) (es : List Event) (k : Kept) (n s : ℕ) (w w1 : Option (List ℕ)) (f0 f1 : ℕ) (x : Result T E) → IsAccepted a.machine.object → a1 ≡ record a { kept = k } → n ≡ s → IsStopped a es
    → ((gs : List Event) → machines.Follows a1.machine gs → Puts w w1 f0 f1 (text_between a1.machine.object gs a1.machine.show a1.machine.run_state.reading n) x) → Puts w w1 f0 f1 (text_between a.machine.object es Values a.machine.run_state.reading s) x
turn_text a a1 es k n s w w1 f0 f1 x accepted is same f puts =
    let gs = es ++ V.At a.machine.run_state.reading ∷ [] in
    let one : Puts w w1 f0 f1 (text_between a1.machine.object gs a1.machine.show a1.machine.run_state.reading n) x = puts gs (subst (λ (z : Audit). machines.Follows z.machine gs) (sym is) f.machine) in
    let two : Puts w w1 f0 f1 (text_between a.machine.object gs a.machine.show a.machine.run_state.reading n) x =
    subst (λ (z : Audit). Puts w w1 f0 f1 (text_between z.machine.object gs z.machine.show z.machine.run_state.reading n) x) is one in
    subst (λ z. Puts w w1 f0 f1 z x)
    (ap (λ show. text_between a.machine.object gs show a.machine.run_state.reading n) f.shown ∙ ap (text_between a.machine.object gs Values a.machine.run_state.reading) same
    ∙ text_same a.machine.object es a.machine.run_state.reading Values a.machine.run_state.reading s accepted f.within)
    two

pub turn_done : (a a1 a2 a3 : Audit) (es : List Event) (n s : ℕ) → IsAccepted a.machine.object → AreSized a → a1 ≡ record a { kept = passed a.machine.object.tables n (drop a.kept.place a.log) a.kept } → a2 ≡ record a1 { machine = a2.machine }
    → a3 ≡ record a2 { kept = lengths_begun a2.machine.object.tables a2.machine.standing.calendar.modes a2.takes s a2.kept } → n ≡ suc s → a.machine.run_state.reading ≤ s → begins (root_periods a.machine.object.tables) s ≡ true
    → ((n : ℕ) → a.machine.run_state.reading ≤ n → n < s → begins (root_periods a.machine.object.tables) n ≡ false) → machines.IsSameRun a1.machine a2.machine
    → ((gs : List Event) → machines.Follows a1.machine gs → machines.Follows a2.machine (gs ++ V.At n ∷ [])) → IsStopped a es → IsStopped a3 es × (a3.machine.run_state.reading ≡ suc s)
turn_done a a1 a2 a3 es n s accepted sized e1 e2 e3 same low is none run step f =
    (subst (λ z. IsStopped z es) (sym all) (turn_stops a es accepted sized f s a2.machine low is none run_a follows), ap (λ (z : Audit). z.machine.run_state.reading) all ∙ turn_reading a es accepted sized f (suc s) a2.machine follows)
  where
    run_a : machines.IsSameRun a.machine a2.machine
    run_a = subst (λ (z : Audit). machines.IsSameRun z.machine a2.machine) e1 run

    follows : machines.Follows a2.machine (es ++ V.At a.machine.run_state.reading ∷ [] ++ V.At (suc s) ∷ [])
    follows =
        subst (λ m. machines.Follows a2.machine (es ++ V.At a.machine.run_state.reading ∷ [] ++ V.At m ∷ [])) same
        (step (es ++ V.At a.machine.run_state.reading ∷ []) (subst (λ (z : Audit). machines.Follows z.machine (es ++ V.At a.machine.run_state.reading ∷ [])) (sym e1) f.machine))

    all : a3 ≡ record { machine = a2.machine; log = a.log; takes = a.takes; kept = lengths_begun a2.machine.object.tables a2.machine.standing.calendar.modes a.takes s (passed a.machine.object.tables (suc s) (drop a.kept.place a.log) a.kept) }
    all =
        e3 ∙ ap (λ (z : Audit). record z { kept = lengths_begun z.machine.object.tables z.machine.standing.calendar.modes z.takes s z.kept })
        (e2 ∙ ap (λ (z : Audit). record z { machine = a2.machine }) (e1 ∙ ap (λ m. record a { kept = passed a.machine.object.tables m (drop a.kept.place a.log) a.kept }) same))

-- a reading is followed
pub advance_done : (a a1 a2 : Audit) (es : List Event) (to : ℕ) → IsAccepted a.machine.object → AreSized a → a1 ≡ record a { kept = passed a.machine.object.tables to (drop a.kept.place a.log) a.kept } → a2 ≡ record a1 { machine = a2.machine }
    → a.machine.run_state.reading ≤ to → ((n : ℕ) → a.machine.run_state.reading ≤ n → n < to → begins (root_periods a.machine.object.tables) n ≡ false) → machines.IsSameRun a1.machine a2.machine
    → ((gs : List Event) → machines.Follows a1.machine gs → machines.Follows a2.machine (gs ++ V.At to ∷ [])) → IsStopped a es → AuditFollows a2 (es ++ V.At to ∷ [])
advance_done a a1 a2 es to accepted sized e1 e2 low none run step f =
    subst (λ z. AuditFollows z (es ++ V.At to ∷ [])) (sym (e2 ∙ ap (λ (z : Audit). record z { machine = a2.machine }) e1))
    (stop_follows a es accepted sized f to a2.machine low none (subst (λ (z : Audit). machines.IsSameRun z.machine a2.machine) e1 run)
    (step (es ++ V.At a.machine.run_state.reading ∷ []) (subst (λ (z : Audit). machines.Follows z.machine (es ++ V.At a.machine.run_state.reading ∷ [])) (sym e1) f.machine)))

-- the end is
pub finish_done : (a a1 a2 : Audit) (es : List Event) (n to : ℕ) → IsAccepted a.machine.object → AreSized a → a1 ≡ record a { kept = passed a.machine.object.tables n (drop a.kept.place a.log) a.kept } → a2 ≡ record a1 { machine = a2.machine } → n ≡ suc to
    → a.machine.run_state.reading ≤ to → ((n : ℕ) → a.machine.run_state.reading ≤ n → n < to → begins (root_periods a.machine.object.tables) n ≡ false) → machines.IsSameRun a1.machine a2.machine
    → ((gs : List Event) → machines.Follows a1.machine gs → machines.IsFinished a2.machine gs to) → IsStopped a es → IsAudited a2 es to
finish_done a a1 a2 es n to accepted sized e1 e2 same low none run step f =
    subst (λ z. IsAudited z es to) (sym (e2 ∙ ap (λ (z : Audit). record z { machine = a2.machine }) (e1 ∙ ap (λ m. record a { kept = passed a.machine.object.tables m (drop a.kept.place a.log) a.kept }) same)))
    (stop_ends a es accepted sized f to a2.machine low none (subst (λ (z : Audit). machines.IsSameRun z.machine a2.machine) e1 run)
    (step (es ++ V.At a.machine.run_state.reading ∷ []) (subst (λ (z : Audit). machines.Follows z.machine (es ++ V.At a.machine.run_state.reading ∷ [])) (sym e1) f.machine)))

-- ---- from start to start

-- gone so far from a0 to a
pub record IsGoing (a0 a : Audit) (es : List Event) (w0 w : Option (List ℕ)) (f0 f : ℕ) : Type 0 where
  pub stopped : IsStopped a es
  pub text : w ≡ append_known w0 (text_between a0.machine.object es Values a0.machine.run_state.reading a.machine.run_state.reading)
  pub count : f ≡ f0

pub going_start : (a : Audit) (es : List Event) (w : Option (List ℕ)) (f : ℕ) → IsStopped a es → IsGoing a a es w w f f
going_start a es w f s =
    record {
      stopped = s;
      text = append_known-start w ∙ ap (append_known w) (sym (ap (up_to (lines_behind a.machine.object es Values a.machine.run_state.reading)) (let z : a.machine.run_state.reading - a.machine.run_state.reading ≡ 0 = omega arith in z)));
      count = refl;
    }

pub going_text : {T E : Type 0} (a0 a : Audit) (es : List Event) (to : ℕ) (w0 w w1 : Option (List ℕ)) (f0 f f1 : ℕ) (x : Result T E) → a0.machine.run_state.reading ≤ a.machine.run_state.reading → a.machine.run_state.reading ≤ to → machines.IsSameRun a0.machine a.machine → IsGoing a0 a es w0 w f0 f
    → Puts w w1 f f1 (text_between a.machine.object es Values a.machine.run_state.reading to) x → Puts w0 w1 f0 f1 (text_between a0.machine.object es Values a0.machine.run_state.reading to) x
going_text a0 a es to w0 w w1 f0 f f1 x low high same g p =
    subst (λ z. Puts w0 w1 f0 f1 z x) (sym (text_more a0.machine.object es Values a0.machine.run_state.reading a.machine.run_state.reading to low high))
    (Puts-second w0 w w1 f0 f f1 (text_between a0.machine.object es Values a0.machine.run_state.reading a.machine.run_state.reading) (text_between a0.machine.object es Values a.machine.run_state.reading to) x g.text g.count
    (subst (λ (o : Object). Puts w w1 f f1 (text_between o es Values a.machine.run_state.reading to) x) same.object p))

-- a refusal on the way leaves a prefix of the whole
pub going_failed : {S T E F : Type 0} (a0 a : Audit) (es : List Event) (mid to : ℕ) (w0 w w1 : Option (List ℕ)) (f0 f f1 : ℕ) (x : E) (y : F) → a0.machine.run_state.reading ≤ a.machine.run_state.reading → a.machine.run_state.reading ≤ mid → mid ≤ to → machines.IsSameRun a0.machine a.machine
    → IsGoing a0 a es w0 w f0 f → Puts {T = S} {E = E} w w1 f f1 (text_between a.machine.object es Values a.machine.run_state.reading mid) (Err x) → Puts {T = T} {E = F} w0 w1 f0 f1 (text_between a0.machine.object es Values a0.machine.run_state.reading to) (Err y)
going_failed {S} {T} {E} {F} a0 a es mid to w0 w w1 f0 f f1 x y low high rest same g p =
    subst (λ z. Puts {T = T} {E = F} w0 w1 f0 f1 z (Err y))
    (sym (text_more a0.machine.object es Values a0.machine.run_state.reading a.machine.run_state.reading to low (omega (arith, high, rest)) ∙ ap (λ z. text_between a0.machine.object es Values a0.machine.run_state.reading a.machine.run_state.reading ++ z) (text_more a0.machine.object es Values a.machine.run_state.reading mid to high rest)))
    (Puts-failed w0 w w1 f0 f f1 (text_between a0.machine.object es Values a0.machine.run_state.reading a.machine.run_state.reading) (text_between a0.machine.object es Values a.machine.run_state.reading mid) (text_between a0.machine.object es Values mid to) x y g.text g.count
    (subst (λ (o : Object). Puts {T = S} {E = E} w w1 f f1 (text_between o es Values a.machine.run_state.reading mid) (Err x)) same.object p))

-- one start further
pub going_on : {T E : Type 0} (a0 a a1 : Audit) (es : List Event) (at : ℕ) (w0 w w1 : Option (List ℕ)) (f0 f f1 : ℕ) (x : T) → a0.machine.run_state.reading ≤ a.machine.run_state.reading → a.machine.run_state.reading ≤ suc at → machines.IsSameRun a0.machine a.machine → IsGoing a0 a es w0 w f0 f
    → Puts {T = T} {E = E} w w1 f f1 (text_between a.machine.object es Values a.machine.run_state.reading (suc at)) (Ok x) → IsStopped a1 es → a1.machine.run_state.reading ≡ suc at → IsGoing a0 a1 es w0 w1 f0 f1
going_on a0 a a1 es at w0 w w1 f0 f f1 x low high same g p st read =
    let q = going_text a0 a es (suc at) w0 w w1 f0 f f1 (Ok x) low high same g p in
    record {
      stopped = st;
      text = q.whole ∙ ap (λ n. append_known w0 (text_between a0.machine.object es Values a0.machine.run_state.reading n)) (sym read);
      count = q.cause.kept;
    }

-- all starts are behind
pub going_gone : {T E : Type 0} (a0 a : Audit) (es : List Event) (w0 w : Option (List ℕ)) (f0 f : ℕ) (x : T) → Puts {T = T} {E = E} w0 w f0 f (text_between a0.machine.object es Values a0.machine.run_state.reading a.machine.run_state.reading) (Ok x) → IsStopped a es → IsGoing a0 a es w0 w f0 f
going_gone a0 a es w0 w f0 f x p st = record { stopped = st; text = p.whole; count = p.cause.kept }

pub advance_all : {T E : Type 0} (r : Result T E) (a a1 a2 : Audit) (es : List Event) (to : ℕ) → IsAccepted a.machine.object → AreSized a → a1 ≡ record a { kept = passed a.machine.object.tables to (drop a.kept.place a.log) a.kept } → a2 ≡ record a1 { machine = a2.machine }
    → a.machine.run_state.reading ≤ to → ((n : ℕ) → a.machine.run_state.reading ≤ n → n < to → begins (root_periods a.machine.object.tables) n ≡ false) → machines.IsSameRun a1.machine a2.machine
    → ((gs : List Event) → machines.Follows a1.machine gs → OnOk r (machines.Follows a2.machine (gs ++ V.At to ∷ []))) → IsStopped a es → OnOk r (AuditFollows a2 (es ++ V.At to ∷ []))
advance_all (Ok x) a a1 a2 es to accepted sized e1 e2 low none run step f = advance_done a a1 a2 es to accepted sized e1 e2 low none run (λ gs g. step gs g) f
advance_all (Err x) a a1 a2 es to accepted sized e1 e2 low none run step f = tt

pub finish_all : {T E : Type 0} (r : Result T E) (a a1 a2 : Audit) (es : List Event) (n to : ℕ) → IsAccepted a.machine.object → AreSized a → a1 ≡ record a { kept = passed a.machine.object.tables n (drop a.kept.place a.log) a.kept } → a2 ≡ record a1 { machine = a2.machine } → n ≡ suc to
    → a.machine.run_state.reading ≤ to → ((n : ℕ) → a.machine.run_state.reading ≤ n → n < to → begins (root_periods a.machine.object.tables) n ≡ false) → machines.IsSameRun a1.machine a2.machine
    → ((gs : List Event) → machines.Follows a1.machine gs → OnOk r (machines.IsFinished a2.machine gs to)) → IsStopped a es → OnOk r (IsAudited a2 es to)
finish_all (Ok x) a a1 a2 es n to accepted sized e1 e2 same low none run step f = finish_done a a1 a2 es n to accepted sized e1 e2 same low none run (λ gs g. step gs g) f
finish_all (Err x) a a1 a2 es n to accepted sized e1 e2 same low none run step f = tt
