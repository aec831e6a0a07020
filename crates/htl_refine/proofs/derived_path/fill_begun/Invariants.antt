use Rattle.std.proofs.Common.{◌≡◌, ◌+◌, ◌++◌, length, take, drop}
use Rattle.htl_refine.proofs.Words.{starts, begun_places, modes_of_all}
use Rattle.htl_refine.proofs.derived_path.fill_begun.Given as goal

abbrev pub invariant-loop-j : goal.invariant-loop-j
invariant-loop-j l = record {
  front : take l.n l.out ++ begun_places l.t (drop l.j (modes_of_all l.sels)) (drop l.j (starts l.t)) ≡ begun_places l.t (modes_of_all l.sels) (starts l.t);
  count : l.n + length (begun_places l.t (drop l.j (modes_of_all l.sels)) (drop l.j (starts l.t))) ≡ length (begun_places l.t (modes_of_all l.sels) (starts l.t));
  len : length l.out ≡ length l.initial.out;
}
