use Rattle.std.proofs.Common.{◌≡◌, map, take}
use Rattle.htl_patch.specs.Placed.{placed_end}
use Rattle.htl_patch.proofs.mode_items.copied_ends.Given as goal

abbrev pub invariant-loop-k : goal.invariant-loop-k
invariant-loop-k l = l.found.items ≡ map (placed_end l.ports l.before) (take l.k l.ends)
