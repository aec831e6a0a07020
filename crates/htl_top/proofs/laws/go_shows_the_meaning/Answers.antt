use Rattle.htl_top.proofs.Meaning.{go_shows}
use Rattle.htl_top.proofs.laws.go_shows_the_meaning.Goals as goal

pub returns : goal.returns
returns c = go_shows
