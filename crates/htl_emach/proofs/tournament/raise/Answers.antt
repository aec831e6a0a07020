use Rattle.htl_emach.proofs.Roots.{tree_whole}
use Rattle.htl_emach.proofs.tournament.raise.Goals as goal

pub returns-then-holds-clause-tree : goal.returns-then-holds-clause-tree
returns-then-holds-clause-tree c =
    tree_whole c.args.count c.loop-at.at c.loop-at.nodes c.winner-x.result c.loop-at.invariant.2 c.winner-x.ensures (c.holds.ensures c.if-holds.true)
