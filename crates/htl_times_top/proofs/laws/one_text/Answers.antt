use Rattle.htl_times_top.proofs.OneText as text
use Rattle.htl_times_top.proofs.laws.one_text.Goals as goal

pub returns : goal.returns
returns c = text.one_text
