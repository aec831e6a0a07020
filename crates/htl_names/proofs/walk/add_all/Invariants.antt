use Rattle.std.proofs.Common.{◌+◌, drop}
use Rattle.htl_names.proofs.Words.{AddsWith}
use Rattle.htl_names.proofs.walk.add_all.Given as goal

abbrev pub invariant-loop-k : goal.invariant-loop-k
invariant-loop-k g l =
    AddsWith (g.T.Part.rows_of l.list (l.first + l.k) (drop l.k l.parts)) (g.T.Part.rows_of l.list l.first l.parts) l.initial.into l.into
