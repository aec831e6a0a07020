use Rattle.std.proofs.Common.{◌≡◌, ◌<◌, ◌+◌, length, get_or, add-one, ap, ◌∙◌, sym, arith}
use Rattle.htl_plan.proofs.{Words.starts, Words.Tables, Words.new_jobs, Words.start_early, Words.start_read, StayingJobs.begun_before, StayingJobs.more_begun, StayingJobs.jobs_more, StayingJobs.jobs_all, StayingJobs.room}
use Rattle.htl_plan.proofs.staying.staying_jobs.Goals as goal

pub derive_begun-n-requires-clause-at : goal.derive_begun-n-requires-clause-at
derive_begun-n-requires-clause-at c =
    let t : Tables = c.args.t.now in
    let there : c.loop-j.j < length (starts t) = omega (arith, c.loop-j-test.true, c.requires.frame.count) in
    omega (arith, start_read t c.args.f.now c.loop-j.j c.requires.frame there, start_early t c.keeps_ranges.ensures.ranges c.requires.limits c.loop-j.j there)

pub derive_begun-n-requires-clause-room : goal.derive_begun-n-requires-clause-room
derive_begun-n-requires-clause-room c =
    let t : Tables = c.args.t.now in
    let modes = c.args.s.now.modes in
    let j = c.loop-j.j in
    let n = c.loop-j.n in
    let there : j < length (starts t) = omega (arith, c.loop-j-test.true, c.requires.frame.count) in
    let at = ap (λ a. n + length (new_jobs t modes a n)) (start_read t c.args.f.now j c.requires.frame there) in
    omega (arith, at, more_begun t modes j n there c.loop-j.invariant.begun, room t modes c.keeps_ranges.ensures.ranges c.requires.limits c.requires.selection (j + 1), ap (begun_before t modes) (add-one j))

pub loop-j-preserved : goal.loop-j-preserved
loop-j-preserved c =
    let t : Tables = c.args.t.now in
    let modes = c.args.s.now.modes in
    let j = c.loop-j.j in
    let n = c.loop-j.n in
    let there : j < length (starts t) = omega (arith, c.loop-j-test.true, c.requires.frame.count) in
    let at = start_read t c.args.f.now j c.requires.frame there in
    let before = c.loop-j.invariant.begun in
    let last : c.derive_begun-n.result ≡ begun_before t modes (j + 1) =
    c.derive_begun-n.ensures.count ∙ ap (λ a. n + length (new_jobs t modes a n)) at ∙ more_begun t modes j n there before ∙ ap (begun_before t modes) (sym (add-one j)) in
    record {
      begun = last;
      front =
          jobs_more t modes j n there before (get_or c.args.f.now.starts j 0) c.derive_begun-n.result c.loop-j.out c.derive_begun-n.new.out at (last ∙ ap (begun_before t modes) (add-one j)) c.loop-j.invariant.front
          c.derive_begun-n.ensures.jobs;
    }

pub returns-clause-jobs : goal.returns-clause-jobs
returns-clause-jobs c =
    let t : Tables = c.args.t.now in
    let all : c.loop-j.j ≡ length (starts t) = omega (arith, c.loop-j-test.false, c.loop-j.auto, c.requires.frame.count) in
    (jobs_all t c.args.s.now.modes c.loop-j.j c.loop-j.n c.loop-j.out all c.loop-j.invariant.begun c.loop-j.invariant.front).0

pub returns-clause-count : goal.returns-clause-count
returns-clause-count c =
    let t : Tables = c.args.t.now in
    let all : c.loop-j.j ≡ length (starts t) = omega (arith, c.loop-j-test.false, c.loop-j.auto, c.requires.frame.count) in
    (jobs_all t c.args.s.now.modes c.loop-j.j c.loop-j.n c.loop-j.out all c.loop-j.invariant.begun c.loop-j.invariant.front).1

pub returns-clause-few : goal.returns-clause-few
returns-clause-few c =
    let t : Tables = c.args.t.now in
    omega (arith, c.loop-j.invariant.begun, room t c.args.s.now.modes c.keeps_ranges.ensures.ranges c.requires.limits c.requires.selection c.loop-j.j)
