use Rattle.std.proofs.Common.{◌≡◌, take}
use Rattle.htl_model.proofs.copying.copies.Given as goal

abbrev pub invariant-loop-item : goal.invariant-loop-item
invariant-loop-item g l = l.found.items ≡ take l.item-index l.items
