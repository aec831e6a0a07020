-- A record of a run that finishes a job is left no later than the job's round begins, and the latest finish more.
use Rattle.std.proofs.Common.{◌≡◌, ◌≤◌, ◌<◌, inr, ℕ, ◌+◌, ◌-◌, ◌*◌, true, List, slice_get, Some, refl, sym, ap, ◌∙◌, subst, arith}
use Rattle.std.proofs.Math.Nat.{div-eq_of_lt-le}
use Rattle.htl_runs.proofs.Words.{same_Some, Event, frame_of, Tables, Job, SInstr, Left, job_is, frame_modes, frame_at, walk_of, IsFeasibleRun, inv_at, inv_period}
use Rattle.htl_runs.proofs.{jobs.JobRounds.is_placed, jobs.JobTimes.working}
use Rattle.htl_times.proofs.{NoLater.finishes_no_later, Rising.stands_within_root}
use Rattle.htl_times.specs.{Response.IsLatest, Roots.root_of, declared.greatest.Greatest.Greatest}
use Rattle.htl_told.specs.Laws.{round_begin}
use Rattle.htl_told.proofs.FrameRoots.{has_place}

-- the round in which an instant lies
round_is : (period times now : ℕ) → period * times < now → now ≤ period * times + period → round_begin period now ≡ period * times
round_is period times now low high =
    let turn : times * period ≡ period * times = grind arith in
    let next : (times + 1) * period ≡ period * times + period = grind arith in
    let from : times * period ≤ now - 1 = omega (arith, turn, low) in
    let to : now - 1 < (times + 1) * period = omega (arith, next, low, high) in
    ap (λ (z : ℕ). period * z) (div-eq_of_lt-le period from to)

module _ (t : Tables) (lists : List (List SInstr)) (es : List Event) (run : IsFeasibleRun t lists es) where
  pub left_no_later : (k m inv root : ℕ) (l : Left) (g : Greatest) → slice_get (walk_of (frame_at t lists es (k * frame_of t))) m ≡ Some l → l.finished ≡ true
      → inv_at (frame_at t lists es (k * frame_of t)).jobs l.position ≡ inv → root_of t inv ≡ Some root → IsLatest t lists root g
      → k * frame_of t + l.at ≤ round_begin (inv_period t inv) (k * frame_of t + l.at) + g.ticks
  left_no_later k m inv root l g at done of_inv is_root latest =
      let f = k * frame_of t in
      let jobs = (frame_at t lists es f).jobs in
      let w = working t lists es run k m l at (inr done) in
      let own = is_placed t es k run.range run.kept run.ticks w.position w.job w.at w.present in
      let of_job : w.job.inv ≡ inv = ap (λ (z : Job). z.inv) (sym (job_is jobs w.position w.job w.at)) ∙ ap (inv_at jobs) (sym w.of) ∙ of_inv in
      let p = has_place t es f run.range run.kept w.position w.job.inv own.at own.place_is in
      let known = p.of_root_module in
      let within : root_of t w.job.inv ≡ Some p.number = stands_within_root t (frame_modes t es f own.at) p.number w.job.inv known.0 run.range run.kept known.1 known.2 p.stands in
      let one : root ≡ p.number = same_Some _ _ (sym is_root ∙ ap (root_of t) (sym of_job) ∙ within) in
      let no_later = finishes_no_later t lists es f w.position p.number own.at w.job g run p.is w.at w.present (subst (λ z. IsLatest t lists z g) one latest) in
      let by_then : l.at ≤ own.at + g.ticks = no_later.none_later m l.at (l, at, w.of, done, refl) in
      let start : round_begin (inv_period t inv) (f + l.at) ≡ f + own.at =
      ap (λ z. round_begin (inv_period t z) (f + l.at)) (sym of_job)
      ∙ round_is (inv_period t w.job.inv) own.times (f + l.at) (omega (arith, own.multiple, own.first, w.released)) (omega (arith, own.multiple, own.last, w.late))
      ∙ sym own.multiple in
      omega (arith, start, by_then)
