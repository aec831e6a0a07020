use Rattle.std.proofs.Common.{◌≡◌, drop}
use Rattle.htl_model.proofs.Words.{first_from, at_switch}
use Rattle.htl_model.proofs.search.first_switch.Given as goal

abbrev pub invariant-loop-l : goal.invariant-loop-l
invariant-loop-l g l = first_from (at_switch (g.C.Tries.tests l.t l.rule) l.m) l.l (drop l.l l.switches) ≡ first_from (at_switch (g.C.Tries.tests l.t l.rule) l.m) 0 l.switches
