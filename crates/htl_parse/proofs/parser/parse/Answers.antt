use Rattle.htl_parse.proofs.{Bounded.result-bounded, Whole.tells-tree, Whole.tells-long, Whole.tells-syntax}
use Rattle.htl_parse.proofs.parser.parse.Goals as goal

pub returns-clause-tree : goal.returns-clause-tree
returns-clause-tree c = tells-tree c.args.tokens.now.tokens c.parse_tokens.result c.parse_tokens.ensures

pub returns-clause-long : goal.returns-clause-long
returns-clause-long c = tells-long c.args.tokens.now.tokens c.parse_tokens.result c.parse_tokens.ensures

pub returns-clause-syntax : goal.returns-clause-syntax
returns-clause-syntax c = tells-syntax c.args.tokens.now.tokens c.parse_tokens.result c.parse_tokens.ensures

pub returns-clause-bounded : goal.returns-clause-bounded
returns-clause-bounded c =
    result-bounded c.args.tokens.now.tokens c.parse_tokens.result c.len-facts.ensures.held.short c.len-facts.ensures.held.spellable c.parse_tokens.ensures
