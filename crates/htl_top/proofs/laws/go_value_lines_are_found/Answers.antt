use Rattle.htl_top.proofs.ValueLines.{go_changes_found}
use Rattle.htl_top.proofs.laws.go_value_lines_are_found.Goals as goal

pub returns : goal.returns
returns c = go_changes_found
