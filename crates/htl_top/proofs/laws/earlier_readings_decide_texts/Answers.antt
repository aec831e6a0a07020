use Rattle.htl_top.proofs.EarlierReadings.{earlier_texts}
use Rattle.htl_top.proofs.laws.earlier_readings_decide_texts.Goals as goal

pub returns : goal.returns
returns c = earlier_texts
