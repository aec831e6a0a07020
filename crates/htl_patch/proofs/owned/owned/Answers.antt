use Rattle.htl_patch.proofs.{Words.[], Words.owned_by, FunctionLists.flat_more}
use Rattle.htl_patch.proofs.owned.owned.Goals as goal

pub loop-k-preserved : goal.loop-k-preserved
loop-k-preserved c =
    flat_more (owned_by c.args.owners.now) c.args.keys.now c.loop-k.k c.loop-k.found.items c.push_owned.new.into.items [] c.loop-k-test.true c.in_ok-push_owned.ensures c.loop-k.invariant
