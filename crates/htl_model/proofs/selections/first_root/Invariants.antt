use Rattle.std.proofs.Common.{◌≡◌, drop}
use Rattle.htl_model.proofs.Words.{places_from, is_root}
use Rattle.htl_model.proofs.selections.first_root.Given as goal

abbrev pub invariant-loop-k : goal.invariant-loop-k
invariant-loop-k l = places_from is_root l.k (drop l.k l.modules) ≡ places_from is_root 0 l.modules
