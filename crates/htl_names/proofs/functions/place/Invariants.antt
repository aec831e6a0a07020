use Rattle.std.proofs.Common.{◌≡◌, ◌+◌, eqb, drop}
use Rattle.htl_names.proofs.Words.{place_in}
use Rattle.htl_names.proofs.functions.place.Given as goal

abbrev pub invariant-loop-k : goal.invariant-loop-k
invariant-loop-k l = l.k + place_in (eqb l.comm) (drop l.k l.reads) ≡ place_in (eqb l.comm) l.reads
