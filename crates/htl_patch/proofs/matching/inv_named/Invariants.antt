use Rattle.std.proofs.Common.{◌≡◌, drop}
use Rattle.htl_patch.proofs.Words.{places_from, first, invokes_named}
use Rattle.htl_patch.proofs.matching.inv_named.Given as goal

abbrev pub invariant-loop-k : goal.invariant-loop-k
invariant-loop-k l = first (places_from (invokes_named l.t l.mode l.name) l.k (drop l.k l.all)) ≡ first (places_from (invokes_named l.t l.mode l.name) 0 l.all)
