use Rattle.std.proofs.Common.{◌+◌, ◌*◌}
use Rattle.htl_names.proofs.Words.{tree_nodes}
use Rattle.htl_names.proofs.functions.+formula.Given as goal

abbrev pub decreases-boxed : goal.decreases-boxed
decreases-boxed l = tree_nodes l.e * 2 + 1

abbrev pub decreases-formula : goal.decreases-formula
decreases-formula l = tree_nodes l.e.now * 2
