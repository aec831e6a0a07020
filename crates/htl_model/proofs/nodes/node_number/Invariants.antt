use Rattle.std.proofs.Common.{◌≡◌, ◌≤◌, ◌<◌, ◌+◌, ◌-◌, ◌*◌, drop}
use Rattle.htl_model.specs.Frames.{ways, nodes_of, node_of}
use Rattle.htl_model.proofs.nodes.node_number.Given as goal

abbrev pub invariant-loop-i : goal.invariant-loop-i
invariant-loop-i l = record {
  behind : l.behind ≡ ways (drop l.i l.radices);
  some : 0 < l.behind;
  below : l.below ≡ nodes_of (drop l.i l.radices);
  small : l.below ≤ 32768;
  node : l.n + node_of (drop l.i l.radices) l.path (l.j - l.i) ≡ node_of l.radices l.path l.j;
  few : l.n ≤ l.i * 40000;
}
