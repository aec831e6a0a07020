use Rattle.std.proofs.Common.{◌≡◌, drop}
use Rattle.htl_model.specs.First.{first_from}
use Rattle.htl_model.proofs.search.first_input.Given as goal

abbrev pub invariant-loop-j : goal.invariant-loop-j
invariant-loop-j g l = first_from ((g.C.Tries.tests l.t l.rule).input l.k l.inv) l.j (drop l.j l.ends) ≡ first_from ((g.C.Tries.tests l.t l.rule).input l.k l.inv) 0 l.ends
