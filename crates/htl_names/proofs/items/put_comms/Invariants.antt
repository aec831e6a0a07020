use Rattle.std.proofs.Common.{◌≡◌, ◌++◌, drop, map, flat_map}
use Rattle.htl_names.proofs.Words.{PlainProgram, program_of, comm_item}
use Rattle.htl_names.proofs.items.put_comms.Given as goal

abbrev pub invariant-loop-k : goal.invariant-loop-k
invariant-loop-k l = l.into.items ++ map comm_item (flat_map (λ (p : PlainProgram). p.comms) (map program_of (drop l.k l.programs))) ≡ l.initial.into.items ++ map comm_item (flat_map (λ (p : PlainProgram). p.comms) (map program_of l.programs))
