use Rattle.std.proofs.Common.{◌≡◌, max, drop}
use Rattle.htl_top.proofs.Vocabulary.{most_invs, places_from, mode_of_module, modes_of}
use Rattle.htl_top.proofs.positions.widest.Given as goal

abbrev pub invariant-loop-k : goal.invariant-loop-k
invariant-loop-k l = max l.most (most_invs l.t (places_from (mode_of_module l.unit) l.k (drop l.k l.t.modes))) ≡ most_invs l.t (modes_of l.t l.unit)
