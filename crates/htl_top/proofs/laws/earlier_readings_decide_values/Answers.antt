use Rattle.htl_top.proofs.EarlierReadings.{earlier_values}
use Rattle.htl_top.proofs.laws.earlier_readings_decide_values.Goals as goal

pub returns : goal.returns
returns c = earlier_values
