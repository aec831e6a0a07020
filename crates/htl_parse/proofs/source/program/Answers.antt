use Rattle.htl_parse.proofs.Repeats.{comm-items, module-items}
use Rattle.htl_parse.proofs.source.program.Goals as goal

pub repeated-requires : goal.repeated-requires
repeated-requires c = comm-items

pub repeated-requires-2 : goal.repeated-requires-2
repeated-requires-2 c = module-items
