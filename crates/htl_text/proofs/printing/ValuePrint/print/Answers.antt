use Rattle.htl_text.proofs.{Words.rules, Words.Writes, Words.token_bytes, Writing.Adds-token}
use Rattle.htl_text.specs.declared.token.Token.TheVariants as token
use Rattle.htl_text.proofs.printing.ValuePrint.print.Goals as goal

pub returns : goal.returns
returns c =
    let written : Writes (token_bytes (token.Number c.args.self.now)) c.args.out.now c.token.new.self = search rules in
    Adds-token c.args.out.now c.token.new.self (token.Number c.args.self.now) written
