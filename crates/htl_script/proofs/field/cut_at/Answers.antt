use Rattle.std.proofs.Common.{◌+◌, ◌-◌, ◌≤◌, length, drop, sym, ◌∙◌, arith}
use Rattle.std.proofs.lemmas.List.{take_all, length-drop}
use Rattle.htl_script.proofs.Places.{fields_of-one, fields_of-cut}
use Rattle.htl_script.proofs.field.cut_at.Goals as goal

pub returns-in-None : goal.returns-in-None
returns-in-None c = fields_of-one c.args.text.now (sym c.requires.first ∙ c.in-None.is)

pub returns-in-Some : goal.returns-in-Some
returns-in-Some c =
    let place = c.in-Some.place in
    let text = c.args.text.now in
    let short : length (drop (place + 1) text) ≤ length text - (place + 1) = omega (arith, length-drop (place + 1) text) in
    rw (take_all (length text - (place + 1)) (drop (place + 1) text) short) (fields_of-cut text place (sym c.requires.first ∙ c.in-Some.is)).1
