use Rattle.htl_parse.proofs.Repeats.{param-items}
use Rattle.htl_parse.proofs.statement.task_behind.Goals as goal

pub listed-requires : goal.listed-requires
listed-requires c = param-items
