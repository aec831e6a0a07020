use Rattle.std.proofs.Common.{◌≡◌, drop}
use Rattle.htl_patch.proofs.Words.{places_from, first, is_unmatched, first_unmatched}
use Rattle.htl_patch.proofs.joining.first_unmatched.Given as goal

abbrev pub invariant-loop-k : goal.invariant-loop-k
invariant-loop-k l =
    let g = l.g in
    first (places_from (is_unmatched g) l.k (drop l.k l.all)) ≡ first_unmatched g
