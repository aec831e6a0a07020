use Rattle.std.proofs.Common.{◌≡◌, arith, ◌<◌, ◌≤◌, ℕ, ℤ, pos, ltb, ◌&&◌, lt-ltb, le-ltb, false, true, length, ◌+◌, to_z, of_z, w64, get_or, ◌+ℤ◌}
use Rattle.std.specs.Prelude.{int_lt}
use Rattle.htl_edf.proofs.{Words.ints, Words.jobs_of, Words.no_window, Words.release_at, Words.end_at, Bounds.release_at-small}
use Rattle.htl_edf.specs.Search.{over, demand_below}
use Rattle.htl_edf.proofs.overload.is_over.Goals as goal

over_then : (A B E F : ℤ) (d D : ℕ) → A ≡ E → B ≡ F → d ≡ D → 0 < d → int_lt A B ≡ (ltb 0 D && int_lt E F)
over_then A B E F d D e f g h = let t : ltb 0 D ≡ true = lt-ltb 0 D (omega arith) in rw (e, f, t)

over_else : (E F : ℤ) (d D : ℕ) → d ≡ D → d ≤ 0 → ltb 0 d ≡ (ltb 0 D && int_lt E F)
over_else E F d D g h = let t : ltb 0 D ≡ false = le-ltb 0 D (omega arith) in rw (g, t)

pub overflow_add-result : goal.overflow_add-result
overflow_add-result c =
    let js = c.args.jobs.now in
    omega (arith, ints, c.requires.at.releases c.args.p c.requires.p_in, release_at-small js c.requires.jobs (length js) c.args.p c.requires.p_in, c.requires.jobs.few, c.demand-sum.ensures.small)

pub returns-then-sum-gt0 : goal.returns-then-sum-gt0
unfolding over
returns-then-sum-gt0 c =
    let js = c.args.jobs.now in
    let r = to_z w64 (of_z w64 (get_or c.args.windows.now c.args.p no_window).release) in
    over_then (to_z w64 (of_z w64 (get_or c.args.windows.now c.args.q no_window).end)) (to_z w64 (of_z w64 (r +ℤ to_z w64 c.demand-sum.result))) (end_at (jobs_of js) (length js) c.args.q) (pos (release_at (jobs_of js) (length js) c.args.p + demand_below js c.args.p c.args.q (length js))) c.demand-sum.result (demand_below js c.args.p c.args.q (length js))
    (omega (arith, ints, c.requires.at.ends c.args.q c.requires.q_in))
    (omega (arith, ints, c.requires.at.releases c.args.p c.requires.p_in, release_at-small js c.requires.jobs (length js) c.args.p c.requires.p_in, c.requires.jobs.few, c.demand-sum.ensures.small, c.demand-sum.ensures.is))
    c.demand-sum.ensures.is
    (omega arith)

pub returns-else-sum-gt0 : goal.returns-else-sum-gt0
unfolding over
returns-else-sum-gt0 c =
    let js = c.args.jobs.now in
    over_else (end_at (jobs_of js) (length js) c.args.q) (pos (release_at (jobs_of js) (length js) c.args.p + demand_below js c.args.p c.args.q (length js))) c.demand-sum.result (demand_below js c.args.p c.args.q (length js)) c.demand-sum.ensures.is (omega arith)
