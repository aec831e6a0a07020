use Rattle.std.proofs.Common.{◌≡◌}
use Rattle.htl_object.specs.Files.{widest_to}
use Rattle.htl_object.proofs.selections.widest.Given as goal

abbrev pub invariant-loop-q : goal.invariant-loop-q
invariant-loop-q l = l.found ≡ widest_to l.modes l.invs l.k l.q
