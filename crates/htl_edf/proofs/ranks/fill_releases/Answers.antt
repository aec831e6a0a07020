use Rattle.htl_edf.proofs.{Words.arith, Words.length, Words.ints, Words.number_of, Bounds.release_at-small}
use Rattle.htl_edf.proofs.ranks.fill_releases.Goals as goal

pub item-requires-clause-early : goal.item-requires-clause-early
item-requires-clause-early c =
    let js = c.args.jobs.now in
    let q = number_of c.args.by_end.now c.loop-rank.rank in
    let below = c.requires.ends.within c.loop-rank.rank (omega arith) in
    omega (arith, ints, below, c.requires.at.releases q below, release_at-small js c.requires.jobs (length js) q below, c.requires.jobs.few)
