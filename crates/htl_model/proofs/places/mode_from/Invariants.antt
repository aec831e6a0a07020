use Rattle.std.proofs.Common.{◌≡◌, ◌<◌, drop}
use Rattle.htl_model.specs.Frames.{choices, mode_from}
use Rattle.htl_model.proofs.places.mode_from.Given as goal

abbrev pub invariant-loop-k : goal.invariant-loop-k
invariant-loop-k l = record {
  behind : l.behind ≡ choices l.t (drop l.k l.rounds);
  some : 0 < l.behind;
  mode : mode_from l.t l.path l.unit l.at (drop l.k l.rounds) ≡ mode_from l.t l.path l.unit l.at l.rounds;
}
