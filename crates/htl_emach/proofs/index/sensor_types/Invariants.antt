use Rattle.std.proofs.Common.{◌≡◌, map, take}
use Rattle.htl_emach.specs.Indices.{sensor_type}
use Rattle.htl_emach.proofs.index.sensor_types.Given as goal

abbrev pub invariant-loop-k : goal.invariant-loop-k
invariant-loop-k l = l.types.items ≡ map sensor_type (take l.k l.comms)
