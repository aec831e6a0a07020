use Rattle.std.proofs.Common.{◌≡◌, drop}
use Rattle.htl_model.specs.Tables.{greatest, offsets}
use Rattle.htl_model.proofs.window.release.Given as goal

abbrev pub invariant-loop-k : goal.invariant-loop-k
invariant-loop-k l = greatest l.latest (offsets l.t (drop l.k l.reads)) ≡ greatest 0 (offsets l.t l.reads)
