use Rattle.std.proofs.Common.{◌≡◌, ◌≤◌, ◌+◌, drop}
use Rattle.htl_refine.proofs.Words.{places_from, mode_of_module, modes_of, place_among}
use Rattle.htl_refine.proofs.roots.mode_place.Given as goal

abbrev pub invariant-loop-k : goal.invariant-loop-k
invariant-loop-k l =
    record {
      going : l.n + place_among l.mode (places_from (mode_of_module l.«module») l.k (drop l.k l.modes)) ≡ place_among l.mode (modes_of l.t l.«module»);
      few : l.n ≤ l.k;
    }
