use Rattle.std.proofs.Common.{◌≡◌, ◌++◌, drop, map}
use Rattle.htl_names.proofs.Words.{tree_of, invoke_item}
use Rattle.htl_names.proofs.invocations.put_invocations.Given as goal

abbrev pub invariant-loop-k : goal.invariant-loop-k
invariant-loop-k l =
    l.into.items ++ map (invoke_item l.home.source.layout.now (tree_of l.home.source.tree.now) l.home.number l.home.at) (drop l.k l.nodes)
    ≡ l.initial.into.items ++ map (invoke_item l.home.source.layout.now (tree_of l.home.source.tree.now) l.home.number l.home.at) l.nodes
