use Rattle.htl_form.proofs.paths.+paths_rival.Given as goal

abbrev pub decreases-paths_rival : goal.decreases-paths_rival
decreases-paths_rival l = l.steps
