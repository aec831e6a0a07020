use Rattle.std.proofs.Common.{◌≡◌, ◌+◌, ◌++◌, length, map, take, drop}
use Rattle.htl_refine.specs.DerivedPaths.{standing_place, start_places}
use Rattle.htl_refine.proofs.derived_path.put_start.Given as goal

abbrev pub invariant-loop-k : goal.invariant-loop-k
invariant-loop-k l = record {
  front :
      take l.end l.out ++ map (standing_place l.t l.running.modes.now) (start_places l.t l.running.modes.now l.at (drop l.k l.roots))
      ≡ take l.n l.initial.out ++ map (standing_place l.t l.running.modes.now) (start_places l.t l.running.modes.now l.at l.roots);
  count : l.end + length (start_places l.t l.running.modes.now l.at (drop l.k l.roots)) ≡ l.n + length (start_places l.t l.running.modes.now l.at l.roots);
  len : length l.out ≡ length l.initial.out;
}
