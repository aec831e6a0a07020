use Rattle.htl_edf.proofs.{Words.arith, Words.length, Words.ints, Bounds.end_at-small}
use Rattle.htl_edf.proofs.ranks.fill_ends.Goals as goal

pub end_time-requires-clause-least : goal.end_time-requires-clause-least
end_time-requires-clause-least c =
    let js = c.args.jobs.now in
    omega (arith, ints, c.requires.at.ends c.loop-q.q (omega arith), end_at-small js c.requires.jobs (length js) c.loop-q.q (omega arith), c.requires.jobs.few)

pub end_time-requires-clause-most : goal.end_time-requires-clause-most
end_time-requires-clause-most c =
    let js = c.args.jobs.now in
    omega (arith, ints, c.requires.at.ends c.loop-q.q (omega arith), end_at-small js c.requires.jobs (length js) c.loop-q.q (omega arith))
