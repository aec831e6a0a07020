use Rattle.htl_text.proofs.Writing.{Adds-tokens}
use Rattle.htl_text.proofs.printer.Printer.tokens.Goals as goal

pub loop-token-preserved : goal.loop-token-preserved
loop-token-preserved c =
    Adds-tokens c.args.tokens.now c.loop-token.token-index c.token-item.result c.loop-token-test.true c.token-item.is c.args.self.now c.loop-token.self c.token.new.self
    c.loop-token.invariant c.token.ensures
