use Rattle.htl_text.proofs.FirstFault.{tells-tokens, tells-fault}
use Rattle.htl_text.proofs.lexer.lex.Goals as goal

pub returns-clause-tokens : goal.returns-clause-tokens
returns-clause-tokens c = tells-tokens c.args.bytes.now _ c.read_tokens.ensures

pub returns-clause-fault : goal.returns-clause-fault
returns-clause-fault c = tells-fault c.args.bytes.now _ c.read_tokens.ensures
