use Rattle.std.proofs.Common.{take, ◌++◌}
use Rattle.htl_text.specs.PrintedBytes.{Adds}
use Rattle.htl_text.proofs.printer.Printer.tokens.Given as goal

abbrev pub invariant-loop-token : goal.invariant-loop-token
invariant-loop-token l = Adds (λ more. take l.token-index l.tokens ++ more) l.fn.self l.self
