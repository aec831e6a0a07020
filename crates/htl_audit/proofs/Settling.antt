-- A job falls short at the end of its window: by what is kept exactly where it does by the lines.
use Rattle.std.proofs.Common.{◌≡◌, ℕ, zero, suc, ◌+◌, ◌-◌, ◌≤◌, ◌<◌, ◌⊎◌, inl, inr, Bool, true, false, cond, ◌&&◌, ◌||◌, ltb, List, [], ◌∷◌, ◌++◌, length, Some, refl, sym, ◌∙◌, ap, ap₂, subst, arith}
use Rattle.htl_audit.proofs.Words.{slice_get, Inv, Tables, Job, Slice, BeginningJobs, lies_in, ticks, is_short, any_short, Agree, Kept, has_job, sum_at, length_at, start_at, end_at, fell_short, any_fell_short_from, any_fell_short, BeganBefore, IsIn, IsCurrent, AreSummed, or_left, or_right, same_truth, marked_within, list_any, numbered, item_at}
use Rattle.htl_audit.specs.Legal as rules
use Rattle.htl_audit.proofs.{Judging.lies, Judging.no_ticks, Judging.ticks_both, JobTests.IsFound, JobTests.job_found, JobTests.job_there, JobTests.item_found, JobTests.item_there, JobTests.short_parts, JobTests.short_from}

-- ---- the test of the invocations

short_is_any : (t : Tables) (now : ℕ) (k : Kept) (n : ℕ) (xs : List Inv) → any_fell_short_from t now k n xs ≡ list_any (λ (z : ℕ × Inv). fell_short t now k z.0) (numbered n xs)
short_is_any t now k n [] = refl
short_is_any t now k n (x ∷ xs) = ap (λ b. fell_short t now k n || b) (short_is_any t now k (suc n) xs)

pub short_found : (t : Tables) (now : ℕ) (k : Kept) → any_fell_short t now k ≡ true → (i : ℕ) × (has_job k.roster i ≡ true) × (start_at k.roster i + end_at t i < now) × (sum_at k.sums i < length_at k.roster i)
short_found t now k e =
    let f = item_found (λ (z : ℕ × Inv). fell_short t now k z.0) 0 t.invs (sym (short_is_any t now k 0 t.invs) ∙ e) in
    let s = short_parts (has_job k.roster (0 + f.0)) (start_at k.roster (0 + f.0) + end_at t (0 + f.0)) now (sum_at k.sums (0 + f.0)) (length_at k.roster (0 + f.0)) f.3 in
    (0 + f.0, s.0, s.1, s.2)

pub short_there : (t : Tables) (now : ℕ) (k : Kept) (i : ℕ) → i < length t.invs → has_job k.roster i ≡ true → start_at k.roster i + end_at t i < now → sum_at k.sums i < length_at k.roster i → any_fell_short t now k ≡ true
short_there t now k i h here late few =
    let x = item_at t.invs i h in
    short_is_any t now k 0 t.invs
    ∙ item_there (λ (z : ℕ × Inv). fell_short t now k z.0) 0 t.invs i x.0 x.1
    (ap (fell_short t now k) (let z : 0 + i ≡ i = omega arith in z) ∙ short_from (has_job k.roster i) (start_at k.roster i + end_at t i) now (sum_at k.sums i) (length_at k.roster i) here late few)

module _ (t : Tables) (rounds : List BeginningJobs) (at later : ℕ) (order : at ≤ later) (agree : Agree at rounds rounds) (log more : List Slice) (k : Kept) (s : AreSummed t rounds (log ++ more) k) (rows : length k.roster.stands ≡ length t.invs)
    (began : BeganBefore at k) (behind : (i : ℕ) (x : Slice) → slice_get more i ≡ Some x → at ≤ x.to) where
  -- of a job whose window ended before `at` the ticks stay
  stay : (r : BeginningJobs) (j : Job) → r.start + j.end < at → ticks r j (log ++ more) ≡ ticks r j log
  stay r j h = omega (arith, ticks_both r j log more, no_ticks r j more (λ i x here e. omega (arith, (lies r j x e).to, h, behind i x here)))

  room : (r : BeginningJobs) (p : ℕ) (j : Job) → IsIn rounds r p j → j.release < j.end
  room r p j i = let m = agree.there i.number r i.at in m.same.window p j i.job i.present

  abbrev test : ℕ → List Slice → BeginningJobs → ℕ × Job → Bool
  test now xs r j = is_short now r xs j

  pub short_later : any_short rounds later (log ++ more) ≡ (any_short rounds at log || any_fell_short t later k)
  short_later = same_truth _ _ there back
    where
      there : any_short rounds later (log ++ more) ≡ true → (any_short rounds at log || any_fell_short t later k) ≡ true
      there e = by (s.kept.only f.round f.position f.job i)
        where
          f : IsFound (λ r j. is_short later r (log ++ more) j) rounds
          f = job_found (test later (log ++ more)) rounds e

          one : (f.job.present ≡ true) × (f.round.start + f.job.end < later) × (ticks f.round f.job (log ++ more) < rules.job_length f.round f.position)
          one = short_parts f.job.present (f.round.start + f.job.end) later (ticks f.round f.job (log ++ more)) (rules.job_length f.round f.position) f.passes

          i : IsIn rounds f.round f.position f.job
          i = record { number = f.is.number; at = f.is.at; job = f.is.job; present = one.0 }

          old : f.round.start + f.job.end < at → (any_short rounds at log || any_fell_short t later k) ≡ true
          old h =
              or_left (any_short rounds at log) (any_fell_short t later k)
              (job_there (test at log) rounds f.round f.position f.job f.is
              (short_from f.job.present (f.round.start + f.job.end) at (ticks f.round f.job log) (rules.job_length f.round f.position) one.0 h (omega (arith, stay f.round f.job h, one.2))))

          by : IsCurrent t k.roster f.round f.position f.job ⊎ (f.round.start + f.job.end ≤ start_at k.roster f.job.inv) → (any_short rounds at log || any_fell_short t later k) ≡ true
          by (inl c) =
              or_right (any_short rounds at log) (any_fell_short t later k)
              (short_there t later k f.job.inv (omega (arith, rows, marked_within k.roster.stands f.job.inv c.stands)) c.stands (omega (arith, c.start, c.end, one.1))
              (omega (arith, s.sums f.round f.position f.job i c, c.length, one.2)))
          by (inr past) = elim (began f.job.inv) [ inl b ↦ old (omega (arith, past, b)) | inr z ↦ absurd (omega (arith, past, z, room f.round f.position f.job i)) ]

      back : (any_short rounds at log || any_fell_short t later k) ≡ true → any_short rounds later (log ++ more) ≡ true
      back e = by (any_short rounds at log) refl e
        where
          by : (b : Bool) → any_short rounds at log ≡ b → (b || any_fell_short t later k) ≡ true → any_short rounds later (log ++ more) ≡ true
          by true g _ =
              let f = job_found (test at log) rounds g in
              let one = short_parts f.job.present (f.round.start + f.job.end) at (ticks f.round f.job log) (rules.job_length f.round f.position) f.passes in
              job_there (test later (log ++ more)) rounds f.round f.position f.job f.is
              (short_from f.job.present (f.round.start + f.job.end) later (ticks f.round f.job (log ++ more)) (rules.job_length f.round f.position) one.0 (omega (arith, one.1, order)) (omega (arith, stay f.round f.job one.1, one.2)))
          by false _ g =
              let n = short_found t later k g in
              let h = s.kept.has n.0 n.1 in
              let c = h.current in
              job_there (test later (log ++ more)) rounds h.round h.position h.job (record { number = h.is.number; at = h.is.at; job = h.is.job })
              (short_from h.job.present (h.round.start + h.job.end) later (ticks h.round h.job (log ++ more)) (rules.job_length h.round h.position) h.is.present
              (omega (arith, n.2, c.start, ap (start_at k.roster) h.inv, c.end, ap (end_at t) h.inv))
              (omega (arith, n.3, s.sums h.round h.position h.job h.is c, ap (sum_at k.sums) h.inv, c.length, ap (length_at k.roster) h.inv)))
