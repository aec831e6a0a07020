use Rattle.htl_parse.proofs.Repeats.{param-items, out-items}
use Rattle.htl_parse.proofs.statement.outputs.Goals as goal

pub listed-requires : goal.listed-requires
listed-requires c = param-items

pub listed-requires-else-is_abstract : goal.listed-requires-else-is_abstract
listed-requires-else-is_abstract c = out-items
