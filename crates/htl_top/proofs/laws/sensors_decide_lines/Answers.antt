use Rattle.htl_model.proofs.Locality.{run_lines_same}
use Rattle.htl_top.proofs.laws.sensors_decide_lines.Goals as goal

pub returns : goal.returns
returns c = λ t es fs end h. run_lines_same t es fs end h
