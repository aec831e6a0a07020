use Rattle.std.proofs.Common.{◌≡◌, take}
use Rattle.htl_patch.proofs.Words.{flat_map, owned_by}
use Rattle.htl_patch.proofs.owned.owned.Given as goal

abbrev pub invariant-loop-k : goal.invariant-loop-k
invariant-loop-k l = l.found.items ≡ flat_map (owned_by l.owners) (take l.k l.keys)
