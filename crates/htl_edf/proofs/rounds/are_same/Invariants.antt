use Rattle.htl_edf.specs.Lists.{AgreeBelow}
use Rattle.htl_edf.proofs.rounds.are_same.Given as goal

abbrev pub invariant-loop-q : goal.invariant-loop-q
invariant-loop-q l = AgreeBelow l.q l.a l.b
