use Rattle.std.proofs.Common.{◌≡◌, map, take, drop, length}
use Rattle.htl_model.specs.FunctionTypes.{comm_type}
use Rattle.htl_model.proofs.lookup.fill_types.Given as goal

abbrev pub invariant-loop-k : goal.invariant-loop-k
invariant-loop-k l =
    (length l.types ≡ 256) × (take l.k l.types ≡ map (comm_type l.t) (take l.k l.reads)) × (drop l.k l.types ≡ drop l.k l.initial.types)
