use Rattle.htl_names.proofs.Words.{IsNarrowInvoke, sym, subst, All}
use Rattle.htl_names.proofs.invocations.put_invocations.Goals as goal

pub invocation-requires : goal.invocation-requires
invocation-requires c =
    let home = c.args.home.now in
    let all = subst (All IsNarrowInvoke) c.requires (home.source.narrow.instances home.at) in
    subst IsNarrowInvoke (sym c.index-nodes-k.is) (all c.loop-k.k c.index-nodes-k.result c.loop-k-test.true)
