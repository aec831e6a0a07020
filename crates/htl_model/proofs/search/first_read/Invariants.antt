use Rattle.std.proofs.Common.{◌≡◌, drop}
use Rattle.htl_model.proofs.Words.{first_from, at_read}
use Rattle.htl_model.proofs.search.first_read.Given as goal

abbrev pub invariant-loop-j : goal.invariant-loop-j
invariant-loop-j g l = first_from (at_read (g.C.Tries.tests l.t l.rule) l.m) l.j (drop l.j l.reads) ≡ first_from (at_read (g.C.Tries.tests l.t l.rule) l.m) 0 l.reads
