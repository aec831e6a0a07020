use Rattle.std.proofs.Common.{◌≡◌, drop}
use Rattle.htl_model.proofs.Words.{first_from, in_mode, IsStartOf}
use Rattle.htl_model.proofs.search.of_rule.Given as goal

-- what is left of the modes gives what all give, and the next mode's invocations begin at `start`
abbrev pub invariant-loop-m : goal.invariant-loop-m
invariant-loop-m g l =
    (first_from (in_mode (g.C.Tries.tests l.t l.rule) (g.C.Tries.number l.rule) l.t) l.m (drop l.m l.modes)
    ≡ first_from (in_mode (g.C.Tries.tests l.t l.rule) (g.C.Tries.number l.rule) l.t) 0 l.modes)
    × IsStartOf l.t l.m l.start
