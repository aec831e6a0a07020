use Rattle.std.proofs.Common.{arith, is_some, sym, ap, ◌∙◌}
use Rattle.htl_text.proofs.{Words.is_ascii_digit, Words.prefix_len-le-length, Fronts.front-digits, Fronts.front-number, Fronts.front-short, Fronts.front-large}
use Rattle.htl_text.proofs.scan.number_front.Goals as goal

pub split_at-requires : goal.split_at-requires
split_at-requires c = let n = c.digits_len-len.ensures in let m = prefix_len-le-length is_ascii_digit c.args.text.now in omega (arith, n, m)

pub number_of-requires : goal.number_of-requires
number_of-requires c = front-digits c.args.text.now c.split_at.result.0.now c.digits_len-len.result c.requires c.digits_len-len.ensures c.split_at.ensures.front

pub returns-then-len-le-SHORT_NUMBER : goal.returns-then-len-le-SHORT_NUMBER
returns-then-len-le-SHORT_NUMBER c =
    front-short c.args.text.now c.split_at.result.0.now c.digits_len-len.result c.requires c.digits_len-len.ensures c.split_at.ensures.front c.if-len-le-SHORT_NUMBER.true

pub returns-in-Some : goal.returns-in-Some
returns-in-Some c =
    front-number c.args.text.now c.split_at.result.0.now c.digits_len-len.result c.requires c.digits_len-len.ensures c.split_at.ensures.front
    (ap is_some (sym c.number_of.ensures ∙ c.in-Some.is))

pub returns-in-None : goal.returns-in-None
returns-in-None c =
    front-large c.args.text.now c.split_at.result.0.now c.digits_len-len.result c.requires c.digits_len-len.ensures c.split_at.ensures.front
    (ap is_some (sym c.number_of.ensures ∙ c.in-None.is))
