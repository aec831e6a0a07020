use Rattle.std.proofs.Common.{◌≡◌, ◌≤◌, ◌<◌, ◌+◌, ◌*◌, drop}
use Rattle.htl_model.specs.Frames.{ways, nodes_of}
use Rattle.htl_model.proofs.nodes.node_count.Given as goal

abbrev pub invariant-loop-i : goal.invariant-loop-i
invariant-loop-i l = record {
  nodes : l.n + l.front * nodes_of (drop l.i l.radices) ≡ nodes_of l.radices;
  product : l.front * ways (drop l.i l.radices) ≡ ways l.radices;
  few : l.n ≤ l.i * 1024;
  some : 0 < ways (drop l.i l.radices);
}
