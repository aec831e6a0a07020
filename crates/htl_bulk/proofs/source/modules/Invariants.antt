use Rattle.std.proofs.Common.{◌≡◌, map}
use Rattle.htl_bulk.proofs.Words.{bulk_module, list_to, module_of}
use Rattle.htl_bulk.proofs.source.modules.Given as goal

abbrev pub invariant-loop-k : goal.invariant-loop-k
invariant-loop-k l = record { modules : map module_of l.modules.items ≡ list_to (bulk_module l.n) l.k }
