use Rattle.std.proofs.Common.{◌≡◌, drop}
use Rattle.htl_model.proofs.Words.{first_from, of_rule}
use Rattle.htl_model.proofs.search.first_fault.Given as goal

abbrev pub invariant-loop-place : goal.invariant-loop-place
invariant-loop-place g l = first_from (of_rule g.C.Tries.tests g.C.Tries.number l.t) l.place (drop l.place l.rules) ≡ first_from (of_rule g.C.Tries.tests g.C.Tries.number l.t) 0 l.rules
