use Rattle.std.proofs.Common.{◌≡◌, length}
use Rattle.htl_edf.specs.Lists.{HoldsAfter}
use Rattle.htl_edf.proofs.rounds.tighten_in_rounds.Given as goal

abbrev pub invariant-loop-k : goal.invariant-loop-k
invariant-loop-k l = record { holds : HoldsAfter l.jobs l.out l.k; room : length l.last ≡ 128 }
