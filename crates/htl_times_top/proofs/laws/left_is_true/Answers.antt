use Rattle.htl_times_top.proofs.OneText as text
use Rattle.htl_times_top.proofs.laws.left_is_true.Goals as goal

pub returns : goal.returns
returns c = text.left_is_true
