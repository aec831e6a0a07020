use Rattle.std.proofs.Common.{◌≡◌, min}
use Rattle.htl_object.specs.Files.{selections_to}
use Rattle.htl_object.proofs.selections.selections.Given as goal

abbrev pub invariant-loop-k : goal.invariant-loop-k
invariant-loop-k l = l.found ≡ min (selections_to l.modes l.modules l.k) 1025
