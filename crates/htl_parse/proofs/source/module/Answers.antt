use Rattle.htl_parse.proofs.Repeats.{task-items, mode-items}
use Rattle.htl_parse.proofs.source.module.Goals as goal

pub repeated-requires : goal.repeated-requires
repeated-requires c = task-items

pub repeated-requires-2 : goal.repeated-requires-2
repeated-requires-2 c = mode-items
