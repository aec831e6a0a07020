use Rattle.htl_top.proofs.Meaning.{go_keeps}
use Rattle.htl_top.proofs.laws.go_keeps_deadlines.Goals as goal

pub returns : goal.returns
returns c = go_keeps
