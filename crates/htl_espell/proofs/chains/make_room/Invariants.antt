use Rattle.std.proofs.Common.{◌≡◌, ◌<◌, length}
use Rattle.htl_espell.specs.JumpChains.{AreJumpChains}
use Rattle.htl_espell.proofs.chains.make_room.Given as goal

abbrev pub invariant-loop-k : goal.invariant-loop-k
invariant-loop-k l = record { len : length l.cells ≡ length l.initial.cells; room : l.k < length l.cells; known : AreJumpChains l.code l.cells }

abbrev pub decreases-loop-k : goal.decreases-loop-k
decreases-loop-k l = l.k
