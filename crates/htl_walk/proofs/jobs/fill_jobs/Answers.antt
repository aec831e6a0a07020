use Rattle.htl_model.proofs.BitLaws.{no_bits}
use Rattle.htl_walk.proofs.jobs.fill_jobs.Goals as goal

pub fill_by-requires-clause-empty : goal.fill_by-requires-clause-empty
fill_by-requires-clause-empty c = λ p q. no_bits 64 p q

pub fill_by-requires-then-ports-le-MORE_PORTS-clause-empty : goal.fill_by-requires-then-ports-le-MORE_PORTS-clause-empty
fill_by-requires-then-ports-le-MORE_PORTS-clause-empty c = λ p q. no_bits 512 p q

pub fill_by-requires-else-ports-le-MORE_PORTS-clause-empty : goal.fill_by-requires-else-ports-le-MORE_PORTS-clause-empty
fill_by-requires-else-ports-le-MORE_PORTS-clause-empty c = λ p q. no_bits 4096 p q
