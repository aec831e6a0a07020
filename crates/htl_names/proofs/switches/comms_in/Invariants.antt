use Rattle.std.proofs.Common.{◌≡◌, drop, map, fold}
use Rattle.htl_names.proofs.Words.{names_in, Id, comm_key, with_new, distinct, meaning}
use Rattle.htl_names.proofs.switches.comms_in.Given as goal

abbrev pub invariant-loop-k : goal.invariant-loop-k
invariant-loop-k l =
    fold with_new l.comms.items (map (λ (id : Id). meaning l.source.layout.now (comm_key id.name)) (names_in (drop l.k l.nodes)))
    ≡ distinct (map (λ (id : Id). meaning l.source.layout.now (comm_key id.name)) (names_in l.nodes))
