use Rattle.std.proofs.Common.{◌≡◌, ◌++◌, ◌+◌, map, take}
use Rattle.htl_patch.proofs.owners.push_owners.Given as goal

abbrev pub invariant-loop-item : goal.invariant-loop-item
invariant-loop-item g l = l.into.items ≡ l.initial.into.items ++ map (λ x. l.before + g.T.HasOwner.owner_of x) (take l.item-index l.items)
