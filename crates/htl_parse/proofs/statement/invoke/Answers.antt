use Rattle.std.proofs.Common.{rules}
use Rattle.htl_parse.specs.ReadingStatements.{invoke_at}
use Rattle.htl_parse.proofs.Repeats.{end-items}
use Rattle.htl_parse.proofs.statement.invoke.Goals as goal

pub listed-requires : goal.listed-requires
listed-requires c = end-items

pub listed-requires-2 : goal.listed-requires-2
listed-requires-2 c = end-items

pub returns : goal.returns
unfolding invoke_at
returns c = search rules
