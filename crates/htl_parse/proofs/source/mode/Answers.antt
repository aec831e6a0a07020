use Rattle.htl_parse.proofs.Repeats.{port-items, invoke-items, switch-items}
use Rattle.htl_parse.proofs.source.mode.Goals as goal

pub repeated-requires : goal.repeated-requires
repeated-requires c = port-items

pub repeated-requires-2 : goal.repeated-requires-2
repeated-requires-2 c = invoke-items

pub repeated-requires-3 : goal.repeated-requires-3
repeated-requires-3 c = switch-items
