use Rattle.std.proofs.Common.{arith, Bool, cond, None, Some, ap, sym, ◌∙◌}
use Rattle.htl_top.proofs.CommandWords.{many_words, one_word, two_words, three_words, four_words}
use Rattle.htl_top.specs.Words.{Compile}
use Rattle.htl_top.proofs.words.read_words.Goals as goal

pub returns-then-words-gt-MOST_WORDS-clause-command : goal.returns-then-words-gt-MOST_WORDS-clause-command
returns-then-words-gt-MOST_WORDS-clause-command c = many_words c.args.words.now (omega (arith, c.if-words-gt-MOST_WORDS.true))

pub returns-in-len1-clause-command : goal.returns-in-len1-clause-command
returns-in-len1-clause-command c =
    one_word _ _ c.args.words.now c.in-len1.len_at_least c.in-len1.len_below (ap (λ (b : Bool). cond b (Some Compile) None) (sym c.eq.ensures ∙ c.if-eq.true))

pub returns-in-len2-clause-command : goal.returns-in-len2-clause-command
returns-in-len2-clause-command c = two_words _ _ c.args.words.now c.in-len2.len_at_least c.in-len2.len_below c.read_two.ensures.command

pub returns-in-len3-clause-command : goal.returns-in-len3-clause-command
returns-in-len3-clause-command c = three_words _ _ c.args.words.now c.in-len3.len_at_least c.in-len3.len_below c.read_three.ensures.command

pub returns-in-len4-clause-command : goal.returns-in-len4-clause-command
returns-in-len4-clause-command c = four_words _ _ c.args.words.now c.in-len4.len_at_least c.in-len4.len_below c.read_four.ensures.command
