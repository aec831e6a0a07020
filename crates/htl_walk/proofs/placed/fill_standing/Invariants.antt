use Rattle.std.proofs.Common.{◌≡◌, ◌++◌, length, take, drop}
use Rattle.htl_walk.specs.Placing.{standing_of}
use Rattle.htl_walk.proofs.placed.fill_standing.Given as goal

abbrev pub invariant-loop-q : goal.invariant-loop-q
invariant-loop-q l = record {
  front : take l.q l.out ++ standing_of (drop l.q l.places) ≡ standing_of l.places;
  len : length l.out ≡ 128;
}
