use Rattle.std.proofs.Common.{length}
use Rattle.htl_text.proofs.Keeping.{AreKeeping}
use Rattle.htl_text.proofs.lexer.read_tokens.Given as goal

abbrev pub invariant-loop-here : goal.invariant-loop-here
invariant-loop-here l = AreKeeping l.bytes l.rest l.entries.items

abbrev pub decreases-loop-here : goal.decreases-loop-here
decreases-loop-here l = length l.rest
