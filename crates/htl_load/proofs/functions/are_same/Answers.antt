use Rattle.htl_load.proofs.TypeLists.{same_types}
use Rattle.htl_load.proofs.functions.are_same.Goals as goal

pub returns : goal.returns
returns c = same_types c.args.a.now c.args.b.now c.eq.result c.eq.ensures
