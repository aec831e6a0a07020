use Rattle.std.proofs.Common.{◌≡◌, ◌∷◌}
use Rattle.htl_bulk.proofs.Words.{bulk_comm, bulk_sensor, list_to}
use Rattle.htl_bulk.proofs.source.comms.Given as goal

abbrev pub invariant-loop-k : goal.invariant-loop-k
invariant-loop-k l = record { comms : l.comms.items ≡ bulk_sensor ∷ list_to bulk_comm l.k }
