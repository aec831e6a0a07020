use Rattle.std.proofs.Common.{◌∙◌, arith, sym, ℕ, ◌+◌, pos, ◌-ℤ◌}
use Rattle.htl_edf.proofs.{Words.ints, Words.clamps, Words.absent_job, Words.jobs_of, Words.end_at, Bounds.end_at-small, Tightening.least_more_yes, Tightening.least_skipped}
use Rattle.htl_edf.proofs.rounds.ended.Goals as goal

pub loop-q-init : goal.loop-q-init
loop-q-init c =
    let js = c.args.jobs.now in
    let j = jobs_of js in
    let p = c.args.p in
    let first = c.next_bit-q.ensures in
    let well = c.requires.jobs.each p absent_job c.requires.p_in in
    record {
      within = first.most;
      found = λ h. sym (c.requires.successors p c.next_bit-q.result c.requires.p_in h) ∙ first.found h;
      earliest = omega (
        arith,
        ints,
        well.small,
        least_skipped (λ x. j.before p x) (λ x. end_at j c.args.k x -ℤ pos (j.worst x)) (pos (j.end p)) 0 c.next_bit-q.result (omega arith)
            (λ x k h. sym (c.requires.successors p x c.requires.p_in (omega (arith, h, first.most))) ∙ first.skipped x k h),
      );
    }

pub overflow_sub-so_far : goal.overflow_sub-so_far
overflow_sub-so_far c =
    let js = c.args.jobs.now in
    let q = c.loop-q.q in
    let e = c.requires.at q (omega arith) (c.loop-q.invariant.found (omega arith)) in
    let b = end_at-small js c.requires.jobs c.args.k q (omega arith) in
    let w = (c.requires.jobs.each q absent_job (omega arith)).most in
    omega (arith, ints, e, b, w, c.requires.rounds)

pub loop-q-preserved : goal.loop-q-preserved
loop-q-preserved c =
    let js = c.args.jobs.now in
    let j = jobs_of js in
    let p = c.args.p in
    let q = c.loop-q.q in
    let s = λ (x : ℕ). j.before p x in
    let f = λ (x : ℕ). end_at j c.args.k x -ℤ pos (j.worst x) in
    let z = pos (j.end p) in
    let e = c.requires.at q (omega arith) (c.loop-q.invariant.found (omega arith)) in
    let b = end_at-small js c.requires.jobs c.args.k q (omega arith) in
    let k = (c.requires.jobs.each q absent_job (omega arith)).most in
    let next = c.next_bit-q-in-loop-q.ensures in
    let more = least_more_yes s f z q (c.loop-q.invariant.found (omega arith)) in
    let rest = least_skipped s f z (q + 1) c.next_bit-q-in-loop-q.result next.least
    (λ x m h. sym (c.requires.successors p x c.requires.p_in (omega (arith, h, next.most))) ∙ next.skipped x m h) in
    record {
      within = next.most;
      found = λ h. sym (c.requires.successors p c.next_bit-q-in-loop-q.result c.requires.p_in h) ∙ next.found h;
      earliest = omega (arith, ints, clamps, c.min-earliest.ensures.value, c.loop-q.earliest-is, e, b, k, c.requires.rounds, c.loop-q.invariant.earliest, more, rest);
    }
