use Rattle.std.proofs.Common.{◌≡◌, min}
use Rattle.htl_object.specs.Files.{positions_to}
use Rattle.htl_object.proofs.selections.positions.Given as goal

abbrev pub invariant-loop-k : goal.invariant-loop-k
invariant-loop-k l = l.found ≡ min (positions_to l.modes l.modules l.invs l.k) 129
