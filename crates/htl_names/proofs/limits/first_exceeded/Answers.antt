use Rattle.htl_names.proofs.{Words.tree_of, LimitLaws.tallied, LimitLaws.none_exceeded, LimitLaws.exceeded}
use Rattle.htl_names.proofs.limits.first_exceeded.Goals as goal

pub count_and_limit-count-requires-clause-counted : goal.count_and_limit-count-requires-clause-counted
count_and_limit-count-requires-clause-counted c = tallied (tree_of c.args.tree.now) c.tally_of-sum.result c.tally_of-sum.ensures

pub returns-then-limit-count : goal.returns-then-limit-count
returns-then-limit-count c =
    let found = c.count_and_limit-count in
    exceeded (tree_of c.args.tree.now) c.loop-k.k c.loop-k.invariant c.loop-k-test.true
    found.result.0 found.result.1 c.min-count.result found.ensures.count found.ensures.limit found.ensures.small c.if-limit-count.true c.min-count.ensures

pub returns : goal.returns
returns c = none_exceeded (tree_of c.args.tree.now) c.loop-k.k c.loop-k.invariant c.loop-k-test.false
