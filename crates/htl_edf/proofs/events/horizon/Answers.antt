use Rattle.std.proofs.Common.{arith}
use Rattle.htl_edf.proofs.ReadyRanks.{ahead_again, released_later}
use Rattle.htl_edf.proofs.events.horizon.Goals as goal

pub returns-then-now-ranks-clause-ahead : goal.returns-then-now-ranks-clause-ahead
returns-then-now-ranks-clause-ahead c =
    let ranks = c.args.ranks in
    let now = c.release_by-now.result in
    let is = c.release_by-now.ensures in
    let next = is.later now.released (omega arith) (omega (arith, c.if-now-ranks.true)) in
    ahead_again ranks.jobs.now ranks.by_end.now ranks.by_release.now c.requires.ranked c.args.left.now c.args.t c.min-until.result now.ready now.released is
    (omega (arith, next, c.min-until.ensures, c.release.ensures, c.requires.early))
    (λ n b l. omega (arith, released_later ranks.jobs.now ranks.by_end.now ranks.by_release.now c.requires.ranked now.released n b l, c.min-until.ensures, c.release.ensures))

pub returns-else-now-ranks-clause-ahead : goal.returns-else-now-ranks-clause-ahead
returns-else-now-ranks-clause-ahead c =
    let ranks = c.args.ranks in
    let now = c.release_by-now.result in
    ahead_again ranks.jobs.now ranks.by_end.now ranks.by_release.now c.requires.ranked c.args.left.now c.args.t c.args.limit now.ready now.released c.release_by-now.ensures c.requires.early
    (λ n b l. absurd (omega (arith, b, l, c.if-now-ranks.false)))
