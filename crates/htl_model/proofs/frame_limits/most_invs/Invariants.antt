use Rattle.std.proofs.Common.{◌≡◌, ◌≤◌, max, drop}
use Rattle.htl_model.proofs.Words.{places_from, mode_of_module, modes_of, most_invs}
use Rattle.htl_model.proofs.frame_limits.most_invs.Given as goal

abbrev pub invariant-loop-k : goal.invariant-loop-k
invariant-loop-k l = record {
  most : max l.n (most_invs l.t (places_from (mode_of_module l.unit) l.k (drop l.k l.modes))) ≡ most_invs l.t (modes_of l.t l.unit);
  few : l.n ≤ 2048;
}
