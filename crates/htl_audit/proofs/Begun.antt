-- What an auditor follows of a log, over an instant at which rounds begin.
use Rattle.std.proofs.Common.{◌≡◌, ℕ, suc, ◌+◌, ◌≤◌, ◌<◌, ◌⊎◌, inl, inr, Bool, true, false, cond, ◌&&◌, eqb, ltb, List, [], ◌∷◌, ◌++◌, length, get_or, take, Option, Some, None, IfSome, refl, sym, ◌∙◌, ap, ap₂, subst, arith}
use Rattle.htl_audit.proofs.Words.{slice_get, nat_tests, slice_get_within, Event, Inv, KeptApart, root_periods, begins, numbered, AreInRange, Tables, Job, took, inv_worst, modes_at, AreTookWithin, took_within, worst_some, Slice, LogFault, Agree, AreEarly, AgreeBefore, HaveRounds, BeginningJobs, round_of, all_rounds, Kept, sum_at, lengths_begun, ticks, line_fault, is_short, any_short, how_many, jobs_done, IsNext, IsLast, BeganBefore, IsIn, IsCurrent, AreSummed, IsSized, LogFollows, LogEnds, cases_lt, get_front, same_truth}
use Rattle.htl_audit.specs.Legal as rules
use Rattle.htl_audit.proofs.{Beginning.grown, Beginning.split, Beginning.is_new, Beginning.is_still, Beginning.begins_or_not, Beginning.old_current, Beginning.kept_new, RoundJobs.fresh, RoundJobs.fresh_begins, Summing.passes}
use Rattle.htl_audit.proofs.{Growing.rounds_agree, Growing.rounds_still, Onward.early, Onward.kept_then, Onward.first_stays, Renewing.renewed_sized, Renewing.renewed_else, Renewing.start_past, Judging.lies, Judging.no_ticks}
use Rattle.htl_audit.proofs.JobTests.{job_found, job_there, short_parts}

-- a job takes at least one tick
pub some_took : (t : Tables) → AreInRange t → (es : List Event) → AreTookWithin t es → (i u : ℕ) (x : Inv) → slice_get t.invs i ≡ Some x → 1 ≤ took t es i u
some_took t range es within i u x at = (took_within t i u 0 (inv_worst t i) es within (worst_some t i x range at).0 (omega arith)).0

pub agrees : (t : Tables) → AreInRange t → (es : List Event) → AreTookWithin t es → (now : ℕ) → AgreeBefore t es es now
agrees t range es within now =
    record {
      senses = λ c u h. refl;
      tooks = λ i u h. refl;
      some = λ i u x at. (some_took t range es within i u x at, some_took t range es within i u x at);
    }

how_none : {A : Type 0} (f : ℕ × A → Bool) (q : ℕ) (js : List A) → ((d : ℕ) (j : A) → slice_get js d ≡ Some j → f (q + d, j) ≡ false) → how_many f (numbered q js) ≡ 0
how_none f q [] h = refl
how_none f q (j ∷ js) h =
    let here : f (q, j) ≡ false = subst (λ z. f (z, j) ≡ false) (let z : q + 0 ≡ q = omega arith in z) (h 0 j refl) in
    ap₂ (λ b n. cond b 1 0 + n) here (how_none f (suc q) js (λ d i at. subst (λ z. f (z, i) ≡ false) (let z : q + suc d ≡ suc q + d = omega arith in z) (h (suc d) i at)))

done_both : (xs ys : List BeginningJobs) (log : List Slice) → jobs_done (xs ++ ys) log ≡ jobs_done xs log + jobs_done ys log
done_both [] ys log = omega arith
done_both (x ∷ xs) ys log = omega (arith, done_both xs ys log)

module _ (t : Tables) (range : AreInRange t) (kept : KeptApart t 16) (rounds : HaveRounds t) (es : List Event) (within : AreTookWithin t es) (s : ℕ) (is : begins (root_periods t) s ≡ true) (log : List Slice) (k : Kept)
    (f : LogFollows t (all_rounds t es s) (suc s) log k) where
  abbrev all : List BeginningJobs
  all = all_rounds t es s ++ round_of t es s ∷ []

  abbrev c : ℕ
  c = f.judged.count

  agree : Agree s (all_rounds t es s) all
  agree = subst (λ rs. Agree s (all_rounds t es s) rs) (grown t range kept rounds es s is) (rounds_agree t rounds es es s (agrees t range es within s) (suc s) (omega arith))

  soon : AreEarly s (take c log)
  soon = early t (all_rounds t es s) (suc s) s (omega arith) log k f.judged all (suc s) agree (omega arith) c (omega arith)

  keep : (i : ℕ) (x : Slice) → i < c → slice_get log i ≡ Some x → (line_fault all (suc s) ([] ++ take i log) x ≡ None) × (x.to < suc s)
  keep = kept_then t (all_rounds t es s) (suc s) s (omega arith) log k f.judged all (suc s) agree (omega arith)

  broken : (g : LogFault) → k.fault ≡ Some g → (x : Slice) × (slice_get log c ≡ Some x) × (x.to < suc s) × (line_fault all (suc s) (take c log) x ≡ Some g.kind) × (g.line ≡ suc (length (take c log)))
  broken = first_stays t (all_rounds t es s) (suc s) s (omega arith) log k f.judged all (suc s) agree (omega arith)

  -- a new job has no ticks yet, and takes some
  idle : (p : ℕ) (j : Job) → slice_get (round_of t es s).jobs p ≡ Some j → j.present ≡ true → (ticks (round_of t es s) j (take c log) ≡ 0) × (1 ≤ rules.job_length (round_of t es s) p)
  idle p j at here =
      let g = fresh t range kept rounds es s p j at here in
      (no_ticks (round_of t es s) j (take c log) (λ i x here e. omega (arith, (lies (round_of t es s) j x e).from, soon i x here)), omega (arith, g.length_is, some_took t range es within j.inv (s + j.release) g.inv g.known))

  done_new : jobs_done all (take c log) ≡ jobs_done (all_rounds t es s) (take c log)
  done_new = omega (arith, done_both (all_rounds t es s) (round_of t es s ∷ []) (take c log), how_none (passes (take c log) (round_of t es s)) 0 (round_of t es s).jobs (λ d j at. none d j at j.present refl))
    where
      other : (a b : ℕ) → a ≡ 0 → 1 ≤ b → eqb a b ≡ false
      other a b e h = grind (arith, nat_tests)

      none : (d : ℕ) (j : Job) → slice_get (round_of t es s).jobs d ≡ Some j → (b : Bool) → j.present ≡ b → (j.present && eqb (ticks (round_of t es s) j (take c log)) (rules.job_length (round_of t es s) (0 + d))) ≡ false
      none d j at false e = ap (λ b. b && eqb (ticks (round_of t es s) j (take c log)) (rules.job_length (round_of t es s) (0 + d))) e
      none d j at true e =
          let i = idle d j at e in
          let len : 1 ≤ rules.job_length (round_of t es s) (0 + d) = subst (λ z. 1 ≤ rules.job_length (round_of t es s) z) (let z : d ≡ 0 + d = omega arith in z) i.1 in
          ap₂ (λ a b. a && b) e (other (ticks (round_of t es s) j (take c log)) (rules.job_length (round_of t es s) (0 + d)) i.0 len)

  short_new : any_short all (suc s) (take c log) ≡ any_short (all_rounds t es s) (suc s) (take c log)
  short_new = same_truth _ _ there back
    where
      there : any_short all (suc s) (take c log) ≡ true → any_short (all_rounds t es s) (suc s) (take c log) ≡ true
      there e =
          let g = job_found (λ r j. is_short (suc s) r (take c log) j) all e in
          let short = short_parts g.job.present (g.round.start + g.job.end) (suc s) (ticks g.round g.job (take c log)) (rules.job_length g.round g.position) g.passes in
          let i : IsIn all g.round g.position g.job = record { number = g.is.number; at = g.is.at; job = g.is.job; present = short.0 } in
          elim (split t range kept rounds es s is g.round g.position g.job i) [
            | inl o ↦ job_there (λ r j. is_short (suc s) r (take c log) j) (all_rounds t es s) g.round g.position g.job (record { number = o.0.number; at = o.0.at; job = o.0.job }) g.passes
            | inr n ↦
                (let at : slice_get (round_of t es s).jobs g.position ≡ Some g.job = ap (λ (z : BeginningJobs). slice_get z.jobs g.position) (sym n.1) ∙ g.is.job in
                let w = fresh t range kept rounds es s g.position g.job at short.0 in
                absurd (omega (arith, short.1, w.room, ap (λ (z : BeginningJobs). z.start) n.1)))
          ]

      back : any_short (all_rounds t es s) (suc s) (take c log) ≡ true → any_short all (suc s) (take c log) ≡ true
      back e =
          let g = job_found (λ r j. is_short (suc s) r (take c log) j) (all_rounds t es s) e in
          job_there (λ r j. is_short (suc s) r (take c log) j) all g.round g.position g.job
          (record { number = g.is.number; at = get_front (all_rounds t es s) (round_of t es s ∷ []) g.is.number g.round g.is.at; job = g.is.job }) g.passes

  -- ---- at the end of a run

  ends_at_start : LogEnds (all_rounds t es (suc s)) (suc s) log k
  ends_at_start = subst (λ rs. LogEnds rs (suc s) log k) (sym (grown t range kept rounds es s is)) here
    where
      next : (o : Option LogFault) → k.fault ≡ o → IsLast all (suc s) (take c log) (slice_get log c) k o
      next (Some g) e = broken g e
      next None e =
          let n : AreSummed t (all_rounds t es s) (take c log) k × IfSome (slice_get log c) (λ x. suc s ≤ x.to) = subst (λ o. IsNext t (all_rounds t es s) (suc s) ([] ++ take c log) (slice_get log c) k o) e f.judged.next in
          (n.0.place, n.0.done ∙ sym done_new, n.1)

      here : LogEnds all (suc s) log k
      here = record { judged = record { count = c; few = f.judged.few; keep = keep; next = next k.fault refl }; short = λ none. f.short none ∙ sym short_new }

  -- ---- behind the beginning

  module _ (takes : List ℕ) (takes_are : (i u : ℕ) → i < length t.invs → s ≤ u → took t es i u ≡ get_or takes i 0) (sized : IsSized (length t.invs) k) where
    abbrev then : Kept
    then = lengths_begun t (modes_at t es s) takes s k

    rows : IsSized (length t.invs) then
    rows = renewed_sized t (modes_at t es s) takes s (length t.invs) (length t.invs) k sized

    began : BeganBefore (suc s) then
    began i = elim (begins_or_not t range kept rounds es s is takes takes_are k sized i) [
      | inl b ↦ elim (cases_lt i (length t.invs)) [
        | inl h ↦ inl (omega (arith, (is_new t range kept rounds es s is takes takes_are k sized i h b).start))
        | inr h ↦ inr (start_past t (modes_at t es s) takes s (length t.invs) i then rows h)
      ]
      | inr b ↦ subst (λ n. (n < suc s) ⊎ (n ≡ 0)) (sym (is_still t range kept rounds es s is takes takes_are k sized i b).start) (f.began i)
    ]

    summed : AreSummed t (all_rounds t es s) (take c log) k → AreSummed t all (take c log) then
    summed n =
        let same = renewed_else t (modes_at t es s) takes s (length t.invs) (length t.invs) k in
        record {
          kept = kept_new t range kept rounds es s is takes takes_are k sized n.kept rows.stands;
          place = same.place ∙ n.place;
          end = same.end ∙ n.end;
          room = rows.sums ∙ sym rows.stands;
          sums = sums;
          done = same.done ∙ n.done ∙ sym done_new;
        }
      where
        sums : (r : BeginningJobs) (p : ℕ) (j : Job) → IsIn all r p j → IsCurrent t then.roster r p j → ticks r j (take c log) ≡ sum_at then.sums j.inv
        sums r p j i cur = elim (split t range kept rounds es s is r p j i) [
          | inl o ↦
              (let d = old_current t range kept rounds es s is takes takes_are k sized r p j o.0 cur in
              n.sums r p j o.0 d.1 ∙ sym (is_still t range kept rounds es s is takes takes_are k sized j.inv d.0).sum)
          | inr m ↦
              (let at : slice_get (round_of t es s).jobs p ≡ Some j = ap (λ (z : BeginningJobs). slice_get z.jobs p) (sym m.1) ∙ i.job in
              let w = fresh t range kept rounds es s p j at i.present in
              ap (λ (z : BeginningJobs). ticks z j (take c log)) m.1 ∙ (idle p j at i.present).0
              ∙ sym (is_new t range kept rounds es s is takes takes_are k sized j.inv (slice_get_within t.invs j.inv w.inv w.known) (fresh_begins t range kept rounds es s p j w)).sum)
        ]

    pub begun_follows : LogFollows t (all_rounds t es (suc s)) (suc s) log then
    begun_follows = subst (λ rs. LogFollows t rs (suc s) log then) (sym (grown t range kept rounds es s is)) here
      where
        fault_is : then.fault ≡ k.fault
        fault_is = (renewed_else t (modes_at t es s) takes s (length t.invs) (length t.invs) k).fault

        short_is : then.short ≡ k.short
        short_is = (renewed_else t (modes_at t es s) takes s (length t.invs) (length t.invs) k).short

        next : (o : Option LogFault) → k.fault ≡ o → IsNext t all (suc s) ([] ++ take c log) (slice_get log c) then o
        next (Some g) e = broken g e
        next None e =
            let n : AreSummed t (all_rounds t es s) (take c log) k × IfSome (slice_get log c) (λ x. suc s ≤ x.to) = subst (λ o. IsNext t (all_rounds t es s) (suc s) ([] ++ take c log) (slice_get log c) k o) e f.judged.next in
            (summed n.0, n.1)

        here : LogFollows t all (suc s) log then
        here =
            record {
              judged = record { count = c; few = f.judged.few; keep = keep; next = next then.fault (sym fault_is) };
              short = λ none. short_is ∙ f.short (sym fault_is ∙ none) ∙ sym short_new;
              began = began;
            }

-- the end of a run, whether rounds begin there or not
pub ends : (t : Tables) → AreInRange t → KeptApart t 16 → HaveRounds t → (es : List Event) → AreTookWithin t es → (s : ℕ) (log : List Slice) (k : Kept) → LogFollows t (all_rounds t es s) (suc s) log k
    → LogEnds (all_rounds t es (suc s)) (suc s) log k
ends t range kept rounds es within s log k f = by (begins (root_periods t) s) refl
  where
    by : (b : Bool) → begins (root_periods t) s ≡ b → LogEnds (all_rounds t es (suc s)) (suc s) log k
    by true e = ends_at_start t range kept rounds es within s e log k f
    by false e = subst (λ rs. LogEnds rs (suc s) log k) (rounds_still t es s (suc s) (omega arith) (λ n low high. subst (λ z. begins (root_periods t) z ≡ false) (let z : s ≡ n = omega (arith, low, high) in z) e)) here
      where
        next : (o : Option LogFault) → IsNext t (all_rounds t es s) (suc s) ([] ++ take f.judged.count log) (slice_get log f.judged.count) k o → IsLast (all_rounds t es s) (suc s) (take f.judged.count log) (slice_get log f.judged.count) k o
        next (Some g) n = n
        next None n = (n.0.place, n.0.done, n.1)

        here : LogEnds (all_rounds t es s) (suc s) log k
        here = record { judged = record { count = f.judged.count; few = f.judged.few; keep = f.judged.keep; next = next k.fault f.judged.next }; short = f.short }
