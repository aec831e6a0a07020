use Rattle.std.proofs.Common.{arith}
use Rattle.htl_names.proofs.Walking.{walking}
use Rattle.htl_names.proofs.walk.ModeNodePart.add.Goals.{in-Some, in_default}
use Rattle.htl_names.proofs.walk.ModeNodePart.add.Goals as goal

pub returns : goal.returns
returns c = elim c.match-self.branch [ in-Some w ↦ grind (arith, walking) | in_default w ↦ grind (arith, walking) ]
