use Rattle.std.proofs.Common.{arith, sym, ◌∙◌}
use Rattle.htl_text.proofs.{Words.prefix_len-le-length, Words.is_word_byte, Fronts.front-word, Fronts.front-name, Fronts.front-long}
use Rattle.htl_text.proofs.scan.word_front.Goals as goal

pub split_at-requires : goal.split_at-requires
split_at-requires c = let n = c.word_len-len.ensures in let m = prefix_len-le-length is_word_byte c.args.text.now in omega (arith, n, m)

pub returns-in-Some : goal.returns-in-Some
returns-in-Some c =
    front-word c.args.text.now c.split_at.result.0.now c.word_len-len.result c.requires c.word_len-len.ensures c.split_at.ensures.front c.in-Some.word (sym c.word_of.ensures ∙ c.in-Some.is)

pub returns-in-None : goal.returns-in-None
returns-in-None c =
    front-name c.args.text.now c.split_at.result.0.now c.word_len-len.result c.requires c.word_len-len.ensures c.split_at.ensures.front (sym c.word_of.ensures ∙ c.in-None.is) c.if-len-le-MAX_NAME.true

pub returns-in-None-2 : goal.returns-in-None-2
returns-in-None-2 c =
    front-long c.args.text.now c.split_at.result.0.now c.word_len-len.result c.requires c.word_len-len.ensures c.split_at.ensures.front (sym c.word_of.ensures ∙ c.in-None.is)
    (omega (arith, c.if-len-le-MAX_NAME.false))
