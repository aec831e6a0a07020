use Rattle.std.proofs.Common.{is_some, ap, ◌∙◌}
use Rattle.htl_text.specs.Texts.{is_numeral, number_of}
use Rattle.htl_text.proofs.AtPlaces.{kept-number}
use Rattle.htl_text.proofs.tokens.number_in.Goals as goal

pub known_number-requires-clause-digits : goal.known_number-requires-clause-digits
known_number-requires-clause-digits c =
    ap is_numeral c.text_in.ensures ∙ (kept-number c.args.source.now c.args.entry c.requires.kept c.requires.kind).0

pub known_number-requires-clause-fits : goal.known_number-requires-clause-fits
known_number-requires-clause-fits c =
    ap is_some (ap number_of c.text_in.ensures ∙ (kept-number c.args.source.now c.args.entry c.requires.kept c.requires.kind).1)
