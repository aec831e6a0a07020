use Rattle.std.proofs.Common.{arith, ◌∙◌, ◌&&◌, ◌||◌, ap, eqb, ltb, get_or}
use Rattle.htl_edf.proofs.{Words.has_bit, Words.number_of, ReadyRanks.releasing_start, ReadyRanks.releasing_more, ReadyRanks.releasing_done}
use Rattle.htl_edf.proofs.events.release_by.Goals as goal

pub loop-n-init : goal.loop-n-init
loop-n-init c =
    let known = c.args.known in
    releasing_start c.args.ranks.jobs.now c.args.ranks.by_end.now c.args.ranks.by_release.now c.requires.ranked c.args.left.now c.args.t known.until known.ready known.released c.requires.known

pub loop-n-preserved : goal.loop-n-preserved
loop-n-preserved c =
    let ranks = c.args.ranks in
    let left = c.args.left.now in
    let rank = c.rank_released-rank.ensures.is in
    let here = ltb 0 (get_or left c.position.result 0) in
    releasing_more ranks.jobs.now ranks.by_end.now ranks.by_release.now c.requires.ranked left c.args.t c.loop-n.ready c.with_bit_if-ready.result c.loop-n.n here c.loop-n.invariant
    (omega arith) (omega (arith, c.release.ensures, c.if-release-t.true))
    (ap (λ p. ltb 0 (get_or left p 0)) (c.position.ensures.is ∙ ap (number_of ranks.by_end.now) rank))
    (λ p. c.with_bit_if-ready.ensures p ∙ ap (λ r. has_bit c.loop-n.ready p || (eqb p r && here)) rank)

pub returns-else-release-t : goal.returns-else-release-t
returns-else-release-t c =
    let ranks = c.args.ranks in
    releasing_done ranks.jobs.now ranks.by_end.now ranks.by_release.now c.requires.ranked c.args.left.now c.args.t c.loop-n.ready c.loop-n.n c.loop-n.invariant
    (λ _. omega (arith, c.release.ensures, c.if-release-t.false))

pub returns-after-loop-n : goal.returns-after-loop-n
returns-after-loop-n c =
    let ranks = c.args.ranks in
    releasing_done ranks.jobs.now ranks.by_end.now ranks.by_release.now c.requires.ranked c.args.left.now c.args.t c.loop-n.ready c.loop-n.n c.loop-n.invariant
    (λ below. absurd (omega (arith, below, c.loop-n-test.false)))
