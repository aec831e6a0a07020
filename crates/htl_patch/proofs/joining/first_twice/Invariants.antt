use Rattle.std.proofs.Common.{◌≡◌, drop}
use Rattle.htl_patch.proofs.Words.{first_some, numbered, twice_at, first_twice}
use Rattle.htl_patch.proofs.joining.first_twice.Given as goal

abbrev pub invariant-loop-k : goal.invariant-loop-k
invariant-loop-k l =
    let g = l.g in
    first_some (twice_at g) (numbered l.k (drop l.k l.g.donor.modules)) ≡ first_twice g
