use Rattle.std.proofs.Common.{◌≡◌, ◌≤◌, ◌+◌, ◌++◌, length, take, drop}
use Rattle.htl_model.proofs.Words.{places_from, is_root, root_modules}
use Rattle.htl_model.proofs.rounds.fill_roots.Given as goal

abbrev pub invariant-loop-k : goal.invariant-loop-k
invariant-loop-k l = record {
  front : take l.n l.out ++ places_from is_root l.k (drop l.k l.modules) ≡ root_modules l.t;
  count : l.n + length (places_from is_root l.k (drop l.k l.modules)) ≡ length (root_modules l.t);
  few : l.n ≤ l.k;
}
