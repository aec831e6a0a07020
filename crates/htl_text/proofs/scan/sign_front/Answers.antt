use Rattle.htl_text.proofs.Fronts.{front-sign, front-nothing}
use Rattle.htl_text.proofs.scan.sign_front.Goals as goal

pub returns-in-Some : goal.returns-in-Some
returns-in-Some c = front-sign c.args.text.now c.requires.no_letter c.requires.no_digit c.in-Some.sign c.in-Some.len c.in-Some.ensures

pub returns-in-None : goal.returns-in-None
returns-in-None c = front-nothing c.args.text.now c.requires.no_letter c.requires.no_digit c.in-None.ensures
