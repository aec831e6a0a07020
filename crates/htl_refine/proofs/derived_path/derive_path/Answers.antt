use Rattle.std.proofs.Common.{◌≡◌, ◌∙◌, ℕ, List, Option, length, take, sym, ap, subst, arith}
use Rattle.htl_refine.proofs.Words.{All, length-map, starts, Tables, Place, Job, placed_job, placed_jobs, HasTimes, begun_places, begun_jobs, modes_of_all}
use Rattle.htl_refine.proofs.{AlongPath.jobs_along, AlongServing.refines_along, AlongServing.serves_along, BegunPlaces.begun_few, BegunPlaces.selections_of, BegunPlaces.as_many, BegunTimes.begun_times}
use Rattle.htl_refine.proofs.derived_path.derive_path.Goals as goal

many : (t : Tables) (sels : List (List (Option ℕ))) → length (begun_jobs t sels) ≡ length (begun_places t sels (starts t))
many t sels = length-map (begun_places t sels (starts t)) (placed_job t (begun_places t sels (starts t)))

written : (t : Tables) (sels : List (List (Option ℕ))) (n : ℕ) (places : List Place) (out : List Job) → take n places ≡ begun_places t sels (starts t) → n ≡ length (begun_places t sels (starts t))
    → take (length (take n places)) out ≡ placed_jobs t (take n places) → take n out ≡ begun_jobs t sels
written t sels n places out front count jobs =
    ap (λ k. take k out) (count ∙ sym (ap (λ xs. length xs) front)) ∙ jobs ∙ ap (placed_jobs t) front

pub fill_begun-count-requires-clause-room : goal.fill_begun-count-requires-clause-room
fill_begun-count-requires-clause-room c =
    let t = c.args.t.now in
    let sels = c.args.sels.now in
    omega (arith, begun_few t (modes_of_all sels) (starts t) (selections_of t sels c.requires.selections), c.survey-frame.ensures.limits.most)

pub placed_jobs-requires-clause-times : goal.placed_jobs-requires-clause-times
placed_jobs-requires-clause-times c =
    let t = c.args.t.now in
    subst (λ xs. All HasTimes (placed_jobs t xs)) (sym c.fill_begun-count.ensures.front)
    (begun_times t c.keeps_ranges.ensures.ranges (λ r s h n l other b. c.requires.kept r s h n (omega (arith, l)) other b) (modes_of_all c.args.sels.now) c.survey-frame.ensures.limits.frame)

pub returns-clause-count : goal.returns-clause-count
returns-clause-count c = c.fill_begun-count.ensures.count ∙ sym (many c.args.t.now (modes_of_all c.args.sels.now))

pub returns-clause-jobs : goal.returns-clause-jobs
returns-clause-jobs c = written c.args.t.now (modes_of_all c.args.sels.now) _ _ _ c.fill_begun-count.ensures.front c.fill_begun-count.ensures.count c.placed_jobs.ensures.jobs

pub returns-clause-derived : goal.returns-clause-derived
returns-clause-derived c = λ path along.
    let t = c.args.t.now in
    let sels = c.args.sels.now in
    written t (modes_of_all sels) _ _ _ c.fill_begun-count.ensures.front c.fill_begun-count.ensures.count c.placed_jobs.ensures.jobs
    ∙ jobs_along t path (modes_of_all sels) (omega (arith, c.requires.few, as_many sels)) along c.fill_begun-count.result (c.fill_begun-count.ensures.count ∙ sym (many t (modes_of_all sels)))

pub returns-clause-refines : goal.returns-clause-refines
returns-clause-refines c = λ path along.
    let t = c.args.t.now in
    let sels = c.args.sels.now in
    let is = written t (modes_of_all sels) _ _ _ c.fill_begun-count.ensures.front c.fill_begun-count.ensures.count c.placed_jobs.ensures.jobs in
    refines_along t path (modes_of_all sels) _ c.keeps_ranges.ensures.ranges c.requires.kept (omega (arith, c.requires.few, as_many sels)) along is

pub returns-clause-serves : goal.returns-clause-serves
returns-clause-serves c = λ path inside along lengths ss least most accepted.
    let t = c.args.t.now in
    let sels = c.args.sels.now in
    let is = written t (modes_of_all sels) _ _ _ c.fill_begun-count.ensures.front c.fill_begun-count.ensures.count c.placed_jobs.ensures.jobs in
    serves_along t path (modes_of_all sels) _ c.keeps_ranges.ensures.ranges c.requires.kept (omega (arith, c.requires.few, as_many sels)) along is inside _ (sym (as_many sels)) lengths ss least most accepted
