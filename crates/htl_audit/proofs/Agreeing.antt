-- Rounds that agree before an instant judge the lines that end by it alike.
use Rattle.std.proofs.Common.{◌≡◌, ℕ, suc, ◌+◌, ◌-◌, ◌≤◌, ◌<◌, inl, inr, Bool, true, false, cond, not, ◌&&◌, ◌||◌, eqb, leb, ltb, List, [], ◌∷◌, ◌++◌, Some, refl, sym, ◌∙◌, ap, ap₂, subst, arith}
use Rattle.htl_audit.proofs.Words.{slice_get, list_all, nat_tests, numbered, Job, precedes, Slice, BeginningJobs, lies_in, ticks, job_length, is_done, is_free, is_over, is_short, any_job, any_short, last_end, slice_is_out_of_order, line_fault, Matches, Agree, AreEarly, and_parts, cases_lt, leb-false, lt-leb, ltb-true, same_truth}
use Rattle.htl_audit.proofs.{JobTests.all_at_0, JobTests.all_pass_0, JobTests.job_found, JobTests.job_there, JobTests.short_parts, JobTests.short_from, Judging.lies, Judging.rest, Judging.no_ticks, Judging.in_order, Judging.order_first}

-- ticks depend on a round by its start alone
lies_start : (r s : BeginningJobs) (j : Job) (x : Slice) → r.start ≡ s.start → lies_in r j x ≡ lies_in s j x
lies_start r s j x e = ap (λ n. j.present && eqb x.inv j.inv && leb (n + j.release) x.from && leb x.to (n + j.end)) e

pub ticks_start : (r s : BeginningJobs) (j : Job) (log : List Slice) → r.start ≡ s.start → ticks r j log ≡ ticks s j log
ticks_start r s j [] e = refl
ticks_start r s j (x ∷ xs) e = ap₂ (λ b n. cond b (x.to - x.from) 0 + n) (lies_start r s j x e) (ticks_start r s j xs e)

module _ (now : ℕ) (log : List Slice) (early : AreEarly now log) where
  -- whether a job's slices add up
  pub done_alike : (r s : BeginningJobs) (p : ℕ) (j : Job) → Matches now r s → slice_get r.jobs p ≡ Some j → j.present ≡ true → is_done r log (p, j) ≡ is_done s log (p, j)
  done_alike r s p j m at here = elim (cases_lt (r.start + j.release) now) [
    | inl h ↦ ap₂ (λ a b. eqb a b) (ticks_start r s j log m.start) (m.lengths p j at here h)
    | inr h ↦
        let a : ticks r j log ≡ 0 = no_ticks r j log (λ i x at e. omega (arith, (lies r j x e).from, early i x at, h)) in
        let b : ticks s j log ≡ 0 = sym (ticks_start r s j log m.start) ∙ a in
        let c = m.some p j at here in
        ap (λ z. eqb z (job_length r p)) a ∙ zero_not (job_length r p) c.0 ∙ sym (ap (λ z. eqb z (job_length s p)) b ∙ zero_not (job_length s p) c.1)
  ]
    where
      zero_not : (n : ℕ) → 1 ≤ n → eqb 0 n ≡ false
      zero_not n h = grind (arith, nat_tests)

  free_alike : (r s : BeginningJobs) (j : Job) → Matches now r s → is_free r log j ≡ is_free s log j
  free_alike r s j m =
      subst (λ js. is_free r log j ≡ list_all (λ (k : ℕ × Job). not (precedes k.0 j && k.1.present) || is_done s log k) (numbered 0 js)) m.jobs
      (same_truth _ _
      (λ e. all_pass_0 (λ (k : ℕ × Job). not (precedes k.0 j && k.1.present) || is_done s log k) r.jobs (λ q h at. to (precedes q j) h.present (is_done r log (q, h)) (is_done s log (q, h)) (done_alike r s q h m at)
      (all_at_0 (λ (k : ℕ × Job). not (precedes k.0 j && k.1.present) || is_done r log k) r.jobs e q h at)))
      (λ e. all_pass_0 (λ (k : ℕ × Job). not (precedes k.0 j && k.1.present) || is_done r log k) r.jobs (λ q h at. to (precedes q j) h.present (is_done s log (q, h)) (is_done r log (q, h)) (λ z. sym (done_alike r s q h m at z))
      (all_at_0 (λ (k : ℕ × Job). not (precedes k.0 j && k.1.present) || is_done s log k) r.jobs e q h at))))
    where
      to : (a b c d : Bool) → (b ≡ true → c ≡ d) → (not (a && b) || c) ≡ true → (not (a && b) || d) ≡ true
      to true true c d f e = sym (f refl) ∙ e
      to true false c d f e = refl
      to false b c d f e = refl

  module _ (rounds later : List BeginningJobs) (agree : Agree now rounds later) where
    -- whether some job passes, by a test of what begins before
    any_same : (test other : BeginningJobs → ℕ × Job → Bool) → ((r s : BeginningJobs) (p : ℕ) (j : Job) → Matches now r s → slice_get r.jobs p ≡ Some j → test r (p, j) ≡ other s (p, j))
        → ((s : BeginningJobs) (p : ℕ) (j : Job) → other s (p, j) ≡ true → s.start < now) → any_job test rounds ≡ any_job other later
    any_same test other matched began = same_truth _ _ there back
      where
        there : any_job test rounds ≡ true → any_job other later ≡ true
        there e =
            let f = job_found test rounds e in
            let m = agree.there f.is.number f.round f.is.at in
            job_there other later m.round f.position f.job (record { number = m.number; at = m.at; job = ap (λ js. slice_get js f.position) (sym m.same.jobs) ∙ f.is.job })
            (sym (matched f.round m.round f.position f.job m.same f.is.job) ∙ f.passes)

        back : any_job other later ≡ true → any_job test rounds ≡ true
        back e =
            let f = job_found other later e in
            elim (agree.back f.is.number f.round f.is.at) [
              | inl m ↦
                  let at : slice_get m.round.jobs f.position ≡ Some f.job = ap (λ js. slice_get js f.position) m.same.jobs ∙ f.is.job in
                  job_there test rounds m.round f.position f.job (record { number = m.number; at = m.at; job = at }) (matched m.round f.round f.position f.job m.same at ∙ f.passes)
              | inr h ↦ absurd (omega (arith, h, began f.round f.position f.job f.passes))
            ]

    -- whether a job fell short whose window ended before
    pub short_alike : any_short rounds now log ≡ any_short later now log
    short_alike =
        any_same (λ r j. is_short now r log j) (λ r j. is_short now r log j) same
        (λ s p j e. omega (arith, (short_parts j.present (s.start + j.end) now (ticks s j log) (job_length s p) e).1))
      where
        same : (r s : BeginningJobs) (p : ℕ) (j : Job) → Matches now r s → slice_get r.jobs p ≡ Some j → is_short now r log (p, j) ≡ is_short now s log (p, j)
        same r s p j m at =
            same_truth _ _
            (λ e.
            let a = short_parts j.present (r.start + j.end) now (ticks r j log) (job_length r p) e in
            short_from j.present (s.start + j.end) now (ticks s j log) (job_length s p) a.0 (omega (arith, a.1, m.start))
            (omega (arith, a.2, ticks_start r s j log m.start, m.lengths p j at a.0 (omega (arith, m.window p j at a.0, a.1)))))
            (λ e.
            let a = short_parts j.present (s.start + j.end) now (ticks s j log) (job_length s p) e in
            short_from j.present (r.start + j.end) now (ticks r j log) (job_length r p) a.0 (omega (arith, a.1, m.start))
            (omega (arith, a.2, ticks_start r s j log m.start, m.lengths p j at a.0 (omega (arith, m.window p j at a.0, a.1, m.start)))))

  module _ (rounds later : List BeginningJobs) (agree : Agree now rounds later) (x : Slice) (soon : x.from < now) where
    -- a test of the jobs in whose windows the slice lies
    with_test : (test other : BeginningJobs → ℕ × Job → Bool) → ((r s : BeginningJobs) (p : ℕ) (j : Job) → Matches now r s → slice_get r.jobs p ≡ Some j → lies_in r j x ≡ true → test r (p, j) ≡ other s (p, j))
        → any_job (λ r j. lies_in r j.1 x && test r j) rounds ≡ any_job (λ r j. lies_in r j.1 x && other r j) later
    with_test test other same =
        any_same rounds later agree (λ r j. lies_in r j.1 x && test r j) (λ r j. lies_in r j.1 x && other r j)
        (λ r s p j m at. by (lies_in r j x) (lies_in s j x) (test r (p, j)) (other s (p, j)) (lies_start r s j x m.start) (same r s p j m at))
        (λ s p j e. omega (arith, (lies s j x (and_parts (lies_in s j x) (other s (p, j)) e).0).from, soon))
      where
        by : (a b c d : Bool) → a ≡ b → (a ≡ true → c ≡ d) → (a && c) ≡ (b && d)
        by true b c d e f = ap₂ (λ u v. u && v) e (f refl)
        by false b c d e f = ap (λ u. u && d) e

    over_alike : any_job (λ r j. lies_in r j.1 x && is_over r (log ++ x ∷ []) j) rounds ≡ any_job (λ r j. lies_in r j.1 x && is_over r (log ++ x ∷ []) j) later
    over_alike =
        with_test (λ r j. is_over r (log ++ x ∷ []) j) (λ r j. is_over r (log ++ x ∷ []) j)
        (λ r s p j m at e. let l = lies r j x e in ap₂ (λ a b. ltb a b) (m.lengths p j at l.present (omega (arith, l.from, soon))) (ticks_start r s j (log ++ x ∷ []) m.start))

    rest_alike : rest (any_job (λ r j. lies_in r j.1 x) rounds) (any_job (λ r j. lies_in r j.1 x && is_over r (log ++ x ∷ []) j) rounds) (any_job (λ r j. lies_in r j.1 x && not (is_free r log j.1)) rounds)
        ≡ rest (any_job (λ r j. lies_in r j.1 x) later) (any_job (λ r j. lies_in r j.1 x && is_over r (log ++ x ∷ []) j) later) (any_job (λ r j. lies_in r j.1 x && not (is_free r log j.1)) later)
    rest_alike =
        ap₂ (λ a b. rest a b (any_job (λ r j. lies_in r j.1 x && not (is_free r log j.1)) rounds))
        (any_same rounds later agree (λ r j. lies_in r j.1 x) (λ r j. lies_in r j.1 x) (λ r s p j m at. lies_start r s j x m.start) (λ s p j e. omega (arith, (lies s j x e).from, soon))) over_alike
        ∙ ap (λ c. rest (any_job (λ r j. lies_in r j.1 x) later) (any_job (λ r j. lies_in r j.1 x && is_over r (log ++ x ∷ []) j) later) c)
        (with_test (λ r j. not (is_free r log j.1)) (λ r j. not (is_free r log j.1)) (λ r s p j m at e. ap not (free_alike r s j m)))

  -- a line that ends by `now`, and before the instant at which it is judged, is judged alike, also at a later instant
  pub fault_alike : (rounds later : List BeginningJobs) (first then : ℕ) (x : Slice) → Agree now rounds later → first ≤ then → x.to ≤ now → x.to < first → line_fault rounds first log x ≡ line_fault later then log x
  fault_alike rounds later first then x agree h by_now soon =
      order_first (slice_is_out_of_order first log x) (slice_is_out_of_order then log x) _ _
      (ap (λ b. leb x.to x.from || ltb x.from (last_end log) || b) (lt-leb first x.to soon ∙ sym (lt-leb then x.to (omega (arith, h, soon)))))
      (λ e. rest_alike rounds later agree x (omega (arith, (in_order first (last_end log) x e).0, by_now)))
