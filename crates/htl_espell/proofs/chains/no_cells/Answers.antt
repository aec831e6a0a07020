use Rattle.htl_espell.proofs.AfterJumps.{no_chains}
use Rattle.htl_espell.proofs.chains.no_cells.Goals as goal

pub returns : goal.returns
returns c = λ code. no_chains code 2048
