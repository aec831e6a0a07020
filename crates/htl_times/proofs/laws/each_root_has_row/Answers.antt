use Rattle.htl_times.proofs.RootRows.{each_root_has_row}
use Rattle.htl_times.proofs.laws.each_root_has_row.Goals as goal

pub returns : goal.returns
returns c = each_root_has_row
