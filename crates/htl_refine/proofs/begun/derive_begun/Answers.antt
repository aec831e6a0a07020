use Rattle.std.proofs.Common.{length, take, ◌++◌, ◌≡◌, refl, sym, ap, ◌∙◌, subst, arith}
use Rattle.htl_refine.proofs.{Words.All, Words.placed_jobs, Words.HasTimes, Words.new_places, BegunTimes.new_times, NewJobs.places_are, NewJobs.jobs_are, NewJobs.end_is}
use Rattle.htl_refine.proofs.begun.derive_begun.Goals as goal

pub placed_jobs-requires-clause-times : goal.placed_jobs-requires-clause-times
placed_jobs-requires-clause-times c =
    let t = c.args.t.now in
    subst (λ xs. All HasTimes (placed_jobs t xs))
    (sym (places_are t c.args.s.now.modes c.as_slice-modes.result.now c.args.at c.args.n c.put_start-end.result (take c.fill_roots-modules.result c.fill_roots-modules.new.out) c.put_start-end.new.out (omega (arith, c.requires.room)) c.put_start-end.ensures.front c.as_slice-modes.ensures c.fill_roots-modules.ensures.roots))
    (new_times t c.keeps_ranges.ensures.ranges (λ r s h n l other b. c.requires.kept r s h n (omega (arith, l)) other b) c.args.s.now.modes c.args.at c.args.n c.requires.at)

pub returns-clause-jobs : goal.returns-clause-jobs
returns-clause-jobs c =
    let t = c.args.t.now in
    let m = c.args.s.now.modes in
    let n = c.args.n in
    let end = c.put_start-end.result in
    let places = places_are t m c.as_slice-modes.result.now c.args.at n end (take c.fill_roots-modules.result c.fill_roots-modules.new.out) c.put_start-end.new.out (omega (arith, c.requires.room)) c.put_start-end.ensures.front c.as_slice-modes.ensures c.fill_roots-modules.ensures.roots in
    let all : end ≡ length (new_places t m c.args.at n) = end_is t m c.as_slice-modes.result.now c.args.at n end (take c.fill_roots-modules.result c.fill_roots-modules.new.out) c.put_start-end.ensures.count c.as_slice-modes.ensures c.fill_roots-modules.ensures.roots in
    let size_is : length (take end c.put_start-end.new.out) ≡ end = ap (λ xs. length xs) places ∙ sym all in
    let jobs = subst (λ k. take k c.placed_jobs.new.out ≡ placed_jobs t (take end c.put_start-end.new.out)) size_is c.placed_jobs.ensures.jobs in
    c.copy_part.ensures.part ∙ ap (λ js. take n c.args.out.now ++ js) (jobs_are t m c.args.at n end (take end c.put_start-end.new.out) c.placed_jobs.new.out _ (omega (arith, c.put_start-end.ensures.count)) places jobs refl)
