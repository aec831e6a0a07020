use Rattle.htl_text.specs.Bounds.{tree_nodes}
use Rattle.htl_text.proofs.printing.+term.Given as goal

abbrev pub decreases-term : goal.decreases-term
decreases-term l = tree_nodes l.e.now
