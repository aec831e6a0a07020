use Rattle.std.proofs.Common.{arith, ℕ, ◌+◌}
use Rattle.htl_edf.proofs.{Words.ints, Words.clamps, Words.absent_job, Words.jobs_of, Words.release_at, Bounds.release_at-small, Tightening.greatest_more_yes, Tightening.greatest_skipped}
use Rattle.htl_edf.proofs.rounds.released.Goals as goal

pub loop-p-init : goal.loop-p-init
loop-p-init c =
    let js = c.args.jobs.now in
    let j = jobs_of js in
    let first = c.next_bit-p.ensures in
    let well = c.requires.jobs.each c.args.q absent_job c.requires.q_in in
    record {
      within = first.most;
      found = first.found;
      latest = omega (arith, ints, well.window, well.small, greatest_skipped (λ x. j.before x c.args.q) (λ x. release_at j c.args.k x + j.worst x) (j.release c.args.q) 0 c.next_bit-p.result (omega arith) first.skipped);
    }

pub overflow_add-so_far : goal.overflow_add-so_far
overflow_add-so_far c =
    let js = c.args.jobs.now in
    let p = c.loop-p.p in
    let e = c.requires.at p (omega arith) (c.loop-p.invariant.found (omega arith)) in
    let b = release_at-small js c.requires.jobs c.args.k p (omega arith) in
    let w = (c.requires.jobs.each p absent_job (omega arith)).most in
    omega (arith, ints, e, b, w, c.requires.rounds)

pub loop-p-preserved : goal.loop-p-preserved
loop-p-preserved c =
    let js = c.args.jobs.now in
    let j = jobs_of js in
    let p = c.loop-p.p in
    let s = λ (x : ℕ). j.before x c.args.q in
    let f = λ (x : ℕ). release_at j c.args.k x + j.worst x in
    let z = j.release c.args.q in
    let e = c.requires.at p (omega arith) (c.loop-p.invariant.found (omega arith)) in
    let b = release_at-small js c.requires.jobs c.args.k p (omega arith) in
    let k = (c.requires.jobs.each p absent_job (omega arith)).most in
    let next = c.next_bit-p-in-loop-p.ensures in
    let more = greatest_more_yes s f z p (c.loop-p.invariant.found (omega arith)) in
    let rest = greatest_skipped s f z (p + 1) c.next_bit-p-in-loop-p.result next.least next.skipped in
    record {
      within = next.most;
      found = next.found;
      latest = omega (arith, ints, clamps, c.max-latest.ensures.value, c.loop-p.latest-is, e, b, k, c.requires.rounds, c.loop-p.invariant.latest, more, rest);
    }
