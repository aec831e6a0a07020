use Rattle.htl_form.proofs.paths.+has_rival.Given as goal

abbrev pub decreases-has_rival : goal.decreases-has_rival
decreases-has_rival l = l.steps
