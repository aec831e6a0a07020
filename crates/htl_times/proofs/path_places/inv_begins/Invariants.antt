use Rattle.std.proofs.Common.{◌≡◌, length}
use Rattle.htl_times.specs.PathPlaces.{AreBegins}
use Rattle.htl_times.proofs.path_places.inv_begins.Given as goal

abbrev pub invariant-loop-m : goal.invariant-loop-m
invariant-loop-m l = record {
  begins : AreBegins l.t l.table l.m;
  size : length l.table ≡ 257;
}
