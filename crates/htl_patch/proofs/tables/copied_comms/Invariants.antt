use Rattle.std.proofs.Common.{◌≡◌, take}
use Rattle.htl_patch.proofs.tables.copied_comms.Given as goal

abbrev pub invariant-loop-x : goal.invariant-loop-x
invariant-loop-x l = l.found.items ≡ take l.x-index l.comms
