use Rattle.std.proofs.Common.{◌≡◌, ◌≤◌, ◌*◌}
use Rattle.htl_edf.specs.Search.{demand_below}
use Rattle.htl_edf.proofs.overload.demand.Given as goal

abbrev pub invariant-loop-r : goal.invariant-loop-r
invariant-loop-r l = record { is : l.sum ≡ demand_below l.jobs l.p l.q l.r; small : l.sum ≤ 1000000 * l.r }
