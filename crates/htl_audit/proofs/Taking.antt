-- What an auditor follows of a log, where a length comes for the jobs that are released from now on.
use Rattle.std.proofs.Common.{◌≡◌, ℕ, suc, ◌+◌, ◌≤◌, ◌<◌, ◌⊎◌, inl, inr, Bool, true, false, cond, ◌&&◌, eqb, leb, List, [], ◌∷◌, ◌++◌, length, get_or, map, set, take, Option, Some, None, IfSome, refl, sym, ◌∙◌, ap, ap₂, subst, arith}
use Rattle.htl_audit.proofs.Words.{slice_get, eqb-true, eq-eqb, lt-leb, get_or-set_same, get_or-set_other, length-set, Event, root_periods, numbered, feeds, AreInRange, Tables, Job, precedes, took, modes_at, AreTookWithin, IsTookWithin, map_at, reading_of, sense_took, took_took, within_more, Slice, LogFault, Agree, AreEarly, Matches, AgreeBefore, HaveRounds, BeginningJobs, beginning, round_of, starts_before, all_rounds, Kept, has_job, sum_at, length_at, start_at, release_at, inv_takes, ticks, line_fault, how_many, jobs_done, IsNext, IsIn, IsCurrent, HasJob, AreKept, AreSummed, LogFollows}
use Rattle.htl_model.specs.declared.event.Event.TheVariants as V
use Rattle.htl_audit.specs.Legal as rules
use Rattle.htl_audit.proofs.{Agreeing.short_alike, Agreeing.done_alike, Agreeing.ticks_start, Begun.some_took, Growing.start_is, Growing.round_is, Growing.round_job, Growing.length_is, Growing.matched, Growing.rounds_agree}
use Rattle.htl_audit.proofs.{Onward.early, Onward.kept_then, Onward.first_stays, Summing.passes, Summing.count_same}

-- ---- what is kept

-- but for lengths all stays
pub record IsTaken (k new : Kept) : Type 0 where
  pub place : new.place ≡ k.place
  pub fault : new.fault ≡ k.fault
  pub end : new.end ≡ k.end
  pub stands : new.roster.stands ≡ k.roster.stands
  pub starts : new.roster.starts ≡ k.roster.starts
  pub sums : new.sums ≡ k.sums
  pub done : new.done ≡ k.done
  pub short : new.short ≡ k.short
  pub lengths : length new.roster.lengths ≡ length k.roster.lengths

pub taken_leaves : (t : Tables) (now i n : ℕ) (k : Kept) → IsTaken k (inv_takes t now i n k)
taken_leaves t now i n k = by (leb now (start_at k.roster i + release_at t i))
  where
    by : (b : Bool) → IsTaken k (cond b (record k { roster = record { stands = k.roster.stands; starts = k.roster.starts; lengths = set k.roster.lengths i n } }) k)
    by false = record { place = refl; fault = refl; end = refl; stands = refl; starts = refl; sums = refl; done = refl; short = refl; lengths = refl }
    by true = record { place = refl; fault = refl; end = refl; stands = refl; starts = refl; sums = refl; done = refl; short = refl; lengths = length-set k.roster.lengths i n }

pub taken_length : (t : Tables) (now i n m : ℕ) (k : Kept) → i < length k.roster.lengths → length_at (inv_takes t now i n k).roster m ≡ cond (eqb m i && leb now (start_at k.roster i + release_at t i)) n (length_at k.roster m)
taken_length t now i n m k h = by (eqb m i) (leb now (start_at k.roster i + release_at t i)) refl
  where
    by : (a b : Bool) → eqb m i ≡ a → length_at (cond b (record k { roster = record { stands = k.roster.stands; starts = k.roster.starts; lengths = set k.roster.lengths i n } }) k).roster m ≡ cond (a && b) n (length_at k.roster m)
    by false false e = refl
    by true false e = refl
    by true true e = ap (get_or (set k.roster.lengths i n) m) refl ∙ subst (λ z. get_or (set k.roster.lengths i n) z 0 ≡ n) (sym (eqb-true m i e)) (get_or-set_same k.roster.lengths i n 0 h)
    by false true e = get_or-set_other k.roster.lengths i m n 0 (λ z. let y : true ≡ false = sym (eq-eqb m i z) ∙ e in let w : ⊥ = cc in w)

module _ (t : Tables) (range : AreInRange t) (rounds : HaveRounds t) (es : List Event) (within : AreTookWithin t es) (i n : ℕ) (fits : IsTookWithin t (V.Took i n)) (log : List Slice) (k : Kept) (room : i < length k.roster.lengths)
    (f : LogFollows t (all_rounds t es (reading_of 0 es)) (reading_of 0 es) log k) where
  abbrev now : ℕ
  now = reading_of 0 es

  abbrev fs : List Event
  fs = es ++ V.Took i n ∷ []

  within_then : AreTookWithin t fs
  within_then = within_more t es (V.Took i n) within fits

  took_is : (m u : ℕ) → took t fs m u ≡ cond (eqb m i && leb now u) n (took t es m u)
  took_is m u = took_took t es i n m u

  agreed : AgreeBefore t es fs now
  agreed =
      record {
        senses = λ c u h. sym (sense_took t es i n c u);
        tooks = λ m u h. sym (took_is m u ∙ ap (λ b. cond b n (took t es m u)) (not_yet (eqb m i) u h));
        some = λ m u x at. (some_took t range es within m u x at, some_took t range fs within_then m u x at);
      }
    where
      not_yet : (a : Bool) (u : ℕ) → u < now → (a && leb now u) ≡ false
      not_yet true u h = lt-leb now u h
      not_yet false u h = refl

  agree : Agree now (all_rounds t es now) (all_rounds t fs now)
  agree = rounds_agree t rounds es fs now agreed now (omega arith)

  match : (s : ℕ) → s < now → Matches now (round_of t es s) (round_of t fs s)
  match s h = matched t rounds es fs now agreed s h

  abbrev c : ℕ
  c = f.judged.count

  soon : AreEarly now (take c log)
  soon = early t (all_rounds t es now) now now (omega arith) log k f.judged (all_rounds t fs now) now agree (omega arith) c (omega arith)

  abbrev then : Kept
  then = inv_takes t now i n k

  same : IsTaken k then
  same = taken_leaves t now i n k

  -- a job of a round with the new length, among the rounds with the old one
  record IsOld (r : BeginningJobs) (p : ℕ) (j : Job) : Type 0 where
    start : ℕ
    soon : start < now
    is : round_of t fs start ≡ r
    in_old : IsIn (all_rounds t es now) (round_of t es start) p j

  was : (r : BeginningJobs) (p : ℕ) (j : Job) (m : IsIn (all_rounds t fs now) r p j) → (o : IsOld r p j) × (o.in_old.number ≡ m.number)
  was r p j m =
      let a = round_is t fs now m.number r m.at in
      let b = start_is (root_periods t) now m.number a.0 a.1 in
      let job : slice_get (round_of t fs a.0).jobs p ≡ Some j = ap (λ (z : BeginningJobs). slice_get z.jobs p) a.2 ∙ m.job in (
        record {
          start = a.0;
          soon = b.0;
          is = a.2;
          in_old = record { number = m.number; at = map_at (round_of t es) (starts_before t now) m.number a.0 a.1; job = ap (λ js. slice_get js p) (match a.0 b.0).jobs ∙ job; present = m.present };
        },
        refl,
      )

  -- and the other way
  record IsThen (r : BeginningJobs) (p : ℕ) (j : Job) (number : ℕ) : Type 0 where
    start : ℕ
    is : round_of t es start ≡ r
    in_new : IsIn (all_rounds t fs now) (round_of t fs start) p j

  will : (r : BeginningJobs) (p : ℕ) (j : Job) (m : IsIn (all_rounds t es now) r p j) → IsThen r p j m.number
  will r p j m =
      let a = round_is t es now m.number r m.at in
      let b = start_is (root_periods t) now m.number a.0 a.1 in
      let job : slice_get (round_of t es a.0).jobs p ≡ Some j = ap (λ (z : BeginningJobs). slice_get z.jobs p) a.2 ∙ m.job in
      record {
        start = a.0;
        is = a.2;
        in_new = record { number = m.number; at = map_at (round_of t fs) (starts_before t now) m.number a.0 a.1; job = ap (λ js. slice_get js p) (sym (match a.0 b.0).jobs) ∙ job; present = m.present };
      }

  -- a current job stays current
  on : (s p : ℕ) (j : Job) → IsIn (all_rounds t es now) (round_of t es s) p j → IsIn (all_rounds t fs now) (round_of t fs s) p j → IsCurrent t k.roster (round_of t es s) p j → IsCurrent t then.roster (round_of t fs s) p j
  on s p j m m' cur =
      record {
        stands = ap (λ bs. get_or bs j.inv false) same.stands ∙ cur.stands;
        start = cur.start ∙ sym (ap (λ ns. get_or ns j.inv 0) same.starts);
        release = cur.release;
        end = cur.end;
        length =
            length_is t fs s p (round_of t fs s).jobs j m'.job ∙ took_is j.inv (s + j.release)
            ∙ ap (λ z. cond (eqb j.inv i && leb now (s + j.release)) n z) (sym (length_is t es s p (round_of t es s).jobs j m.job) ∙ cur.length)
            ∙ ap (λ b. cond b n (length_at k.roster j.inv)) (one_test (eqb j.inv i) refl)
            ∙ sym (taken_length t now i n j.inv k room);
      }
    where
      one_test : (a : Bool) → eqb j.inv i ≡ a → (eqb j.inv i && leb now (s + j.release)) ≡ (eqb j.inv i && leb now (start_at k.roster i + release_at t i))
      one_test false e = ap (λ b. b && leb now (s + j.release)) e ∙ sym (ap (λ b. b && leb now (start_at k.roster i + release_at t i)) e)
      one_test true e =
          let inv : j.inv ≡ i = eqb-true j.inv i e in
          ap (λ z. eqb j.inv i && leb now z) (ap₂ (λ a b. a + b) (cur.start ∙ ap (start_at k.roster) inv) (cur.release ∙ ap (release_at t) inv))

  module _ (kept : AreKept t (all_rounds t es now) k.roster) where
    back : (s p : ℕ) (j : Job) → IsIn (all_rounds t es now) (round_of t es s) p j → IsCurrent t then.roster (round_of t fs s) p j → IsCurrent t k.roster (round_of t es s) p j
    back s p j m cur = elim (kept.only (round_of t es s) p j m) [
      | inl y ↦ y
      | inr past ↦
          (let x = round_job t (modes_at t es s) (beginning t s) p j m.job m.present in
          absurd (omega (arith, past, cur.start, ap (λ ns. get_or ns j.inv 0) same.starts, x.2, x.3, (rounds.windows j.inv x.0 x.1).0)))
    ]

    old_current : (r : BeginningJobs) (p : ℕ) (j : Job) (o : IsOld r p j) → IsCurrent t then.roster r p j → IsCurrent t k.roster (round_of t es o.start) p j
    old_current r p j o cur = back o.start p j o.in_old (subst (λ z. IsCurrent t then.roster z p j) (sym o.is) cur)

    new_in : (r : BeginningJobs) (p : ℕ) (j : Job) (m : IsIn (all_rounds t fs now) r p j) (o : IsOld r p j) → IsIn (all_rounds t fs now) (round_of t fs o.start) p j
    new_in r p j m o = subst (λ z. IsIn (all_rounds t fs now) z p j) (sym o.is) m

    -- another job of the same round
    same_round : (r : BeginningJobs) (q : ℕ) (h : Job) (s : ℕ) → round_of t fs s ≡ r → s < now → (number : ℕ) → slice_get (all_rounds t es now) number ≡ Some (round_of t es s) → IsIn (all_rounds t fs now) r q h → IsIn (all_rounds t es now) (round_of t es s) q h
    same_round r q h s e soon number at m = record { number = number; at = at; job = ap (λ js. slice_get js q) (match s soon).jobs ∙ ap (λ (z : BeginningJobs). slice_get z.jobs q) e ∙ m.job; present = m.present }

    kept_then_too : AreKept t (all_rounds t fs now) then.roster
    kept_then_too = record { has = has; only = only; together = together; before = before; mates = mates; once = once }
      where
        stood : (m : ℕ) → has_job then.roster m ≡ true → has_job k.roster m ≡ true
        stood m e = sym (ap (λ bs. get_or bs m false) same.stands) ∙ e

        has : (m : ℕ) → has_job then.roster m ≡ true → HasJob t (all_rounds t fs now) then.roster m
        has m e =
            let h = kept.has m (stood m e) in
            let w = will h.round h.position h.job h.is in
            let there : IsIn (all_rounds t es now) (round_of t es w.start) h.position h.job = subst (λ z. IsIn (all_rounds t es now) z h.position h.job) (sym w.is) h.is in
            record {
              round = round_of t fs w.start;
              position = h.position;
              job = h.job;
              is = w.in_new;
              inv = h.inv;
              current = on w.start h.position h.job there w.in_new (subst (λ z. IsCurrent t k.roster z h.position h.job) (sym w.is) h.current);
            }

        only : (r : BeginningJobs) (p : ℕ) (j : Job) → IsIn (all_rounds t fs now) r p j → IsCurrent t then.roster r p j ⊎ (r.start + j.end ≤ start_at then.roster j.inv)
        only r p j m =
            let o = (was r p j m).0 in
            elim (kept.only (round_of t es o.start) p j o.in_old) [
              | inl cur ↦ inl (subst (λ z. IsCurrent t then.roster z p j) o.is (on o.start p j o.in_old (new_in r p j m o) cur))
              | inr past ↦ inr (omega (arith, past, ap (λ (z : BeginningJobs). z.start) o.is, ap (λ ns. get_or ns j.inv 0) same.starts))
            ]

        together : (r : BeginningJobs) (p q : ℕ) (j h : Job) → IsIn (all_rounds t fs now) r p j → IsIn (all_rounds t fs now) r q h → feeds t h.inv j.inv ≡ true → IsCurrent t then.roster r p j → IsCurrent t then.roster r q h
        together r p q j h a b fed cur =
            let o = (was r p j a).0 in
            let m = same_round r q h o.start o.is o.soon o.in_old.number o.in_old.at b in
            let c = kept.together (round_of t es o.start) p q j h o.in_old m fed (old_current r p j o cur) in
            subst (λ z. IsCurrent t then.roster z q h) o.is (on o.start q h m (subst (λ z. IsIn (all_rounds t fs now) z q h) (sym o.is) b) c)

        before : (r : BeginningJobs) (p q : ℕ) (j h : Job) → IsIn (all_rounds t fs now) r p j → IsIn (all_rounds t fs now) r q h → precedes q j ≡ feeds t h.inv j.inv
        before r p q j h a b = let o = (was r p j a).0 in kept.before (round_of t es o.start) p q j h o.in_old (same_round r q h o.start o.is o.soon o.in_old.number o.in_old.at b)

        mates : (r : BeginningJobs) (p : ℕ) (j : Job) (m : ℕ) → IsIn (all_rounds t fs now) r p j → IsCurrent t then.roster r p j → has_job then.roster m ≡ true → feeds t m j.inv ≡ true
            → (q : ℕ) × (h : Job) × (h.inv ≡ m) × IsIn (all_rounds t fs now) r q h
        mates r p j m a cur e fed =
            let o = (was r p j a).0 in
            let g = kept.mates (round_of t es o.start) p j m o.in_old (old_current r p j o cur) (stood m e) fed in
            (g.0, g.1, g.2, record { number = a.number; at = a.at; job = ap (λ (z : BeginningJobs). slice_get z.jobs g.0) (sym o.is) ∙ ap (λ js. slice_get js g.0) (sym (match o.start o.soon).jobs) ∙ g.3.job; present = g.3.present })

        once : (r s : BeginningJobs) (p q : ℕ) (j h : Job) (a : IsIn (all_rounds t fs now) r p j) (b : IsIn (all_rounds t fs now) s q h) → IsCurrent t then.roster r p j → IsCurrent t then.roster s q h → j.inv ≡ h.inv → (a.number ≡ b.number) × (p ≡ q)
        once r s p q j h a b x y same_inv =
            let o = was r p j a in
            let u = was s q h b in
            let g = kept.once (round_of t es o.0.start) (round_of t es u.0.start) p q j h o.0.in_old u.0.in_old (old_current r p j o.0 x) (old_current s q h u.0 y) same_inv in
            (sym o.1 ∙ g.0 ∙ u.1, g.1)

  -- the jobs that are done are the same
  done_same : jobs_done (all_rounds t es now) (take c log) ≡ jobs_done (all_rounds t fs now) (take c log)
  done_same = by (starts_before t now) (λ m s at. (start_is (root_periods t) now m s at).0)
    where
      one : (s : ℕ) → s < now → how_many (passes (take c log) (round_of t es s)) (numbered 0 (round_of t es s).jobs) ≡ how_many (passes (take c log) (round_of t fs s)) (numbered 0 (round_of t fs s).jobs)
      one s h =
          count_same (passes (take c log) (round_of t es s)) (passes (take c log) (round_of t fs s)) 0 (round_of t es s).jobs (λ d j at. each d j at j.present refl)
          ∙ ap (λ js. how_many (passes (take c log) (round_of t fs s)) (numbered 0 js)) (match s h).jobs
        where
          each : (d : ℕ) (j : Job) → slice_get (round_of t es s).jobs d ≡ Some j → (b : Bool) → j.present ≡ b → passes (take c log) (round_of t es s) (0 + d, j) ≡ passes (take c log) (round_of t fs s) (0 + d, j)
          each d j at false e = ap (λ b. b && rules.is_done (round_of t es s) (take c log) (0 + d, j)) e ∙ sym (ap (λ b. b && rules.is_done (round_of t fs s) (take c log) (0 + d, j)) e)
          each d j at true e =
              let here : slice_get (round_of t es s).jobs (0 + d) ≡ Some j = ap (slice_get (round_of t es s).jobs) (let z : 0 + d ≡ d = omega arith in z) ∙ at in
              ap (λ b. j.present && b) (done_alike now (take c log) soon (round_of t es s) (round_of t fs s) (0 + d) j (match s h) here e)

      by : (xs : List ℕ) → ((m s : ℕ) → slice_get xs m ≡ Some s → s < now) → jobs_done (map (round_of t es) xs) (take c log) ≡ jobs_done (map (round_of t fs) xs) (take c log)
      by [] h = refl
      by (s ∷ xs) h = ap₂ (λ a b. a + b) (one s (h 0 s refl)) (by xs (λ m z at. h (suc m) z at))

  summed : AreSummed t (all_rounds t es now) (take c log) k → AreSummed t (all_rounds t fs now) (take c log) then
  summed a =
      record {
        kept = kept_then_too a.kept;
        place = same.place ∙ a.place;
        end = same.end ∙ a.end;
        room = ap length same.sums ∙ a.room ∙ sym (ap length same.stands);
        sums = sums;
        done = same.done ∙ a.done ∙ done_same;
      }
    where
      sums : (r : BeginningJobs) (p : ℕ) (j : Job) → IsIn (all_rounds t fs now) r p j → IsCurrent t then.roster r p j → ticks r j (take c log) ≡ sum_at then.sums j.inv
      sums r p j m cur =
          let o = (was r p j m).0 in
          ticks_start r (round_of t es o.start) j (take c log) (sym (ap (λ (z : BeginningJobs). z.start) o.is)) ∙ a.sums (round_of t es o.start) p j o.in_old (old_current a.kept r p j o cur)
          ∙ sym (ap (λ ns. get_or ns j.inv 0) same.sums)

  pub taken_follows : LogFollows t (all_rounds t fs now) now log then
  taken_follows =
      record {
        judged = record { count = c; few = f.judged.few; keep = keep; next = next then.fault (sym same.fault) };
        short = λ none. same.short ∙ f.short (sym same.fault ∙ none) ∙ short_alike now (take c log) soon (all_rounds t es now) (all_rounds t fs now) agree;
        began = λ m. subst (λ ns. (get_or ns m 0 < now) ⊎ (get_or ns m 0 ≡ 0)) (sym same.starts) (f.began m);
      }
    where
      keep : (m : ℕ) (x : Slice) → m < c → slice_get log m ≡ Some x → (line_fault (all_rounds t fs now) now ([] ++ take m log) x ≡ None) × (x.to < now)
      keep = kept_then t (all_rounds t es now) now now (omega arith) log k f.judged (all_rounds t fs now) now agree (omega arith)

      next : (o : Option LogFault) → k.fault ≡ o → IsNext t (all_rounds t fs now) now ([] ++ take c log) (slice_get log c) then o
      next (Some g) e = first_stays t (all_rounds t es now) now now (omega arith) log k f.judged (all_rounds t fs now) now agree (omega arith) g e
      next None e =
          let b : AreSummed t (all_rounds t es now) (take c log) k × IfSome (slice_get log c) (λ x. now ≤ x.to) = subst (λ o. IsNext t (all_rounds t es now) now ([] ++ take c log) (slice_get log c) k o) e f.judged.next in
          (summed b.0, b.1)
