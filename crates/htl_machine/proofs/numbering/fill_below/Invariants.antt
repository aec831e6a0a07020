use Rattle.std.proofs.Common.{◌≡◌, ◌≤◌, ◌<◌, ℕ, suc, drop, get_or, length}
use Rattle.htl_model.specs.Frames.{ways, nodes_of}
use Rattle.htl_machine.proofs.numbering.fill_below.Given as goal

abbrev pub invariant-loop-j : goal.invariant-loop-j
invariant-loop-j l = record {
  some : 0 < ways (drop l.j l.radices);
  rest : l.rest ≡ nodes_of (drop l.j l.radices);
  few : l.rest ≤ 32768;
  room : length l.below ≡ 32;
  below : (i : ℕ) → i < l.j → get_or l.below i 0 ≡ nodes_of (drop (suc i) l.radices);
  small : (i : ℕ) → i < l.j → get_or l.below i 0 ≤ 32768;
}
