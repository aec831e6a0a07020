use Rattle.std.proofs.Common.{◌≡◌, None}
use Rattle.htl_top.specs.Words.{decimal_to}
use Rattle.htl_top.proofs.words.modules_in.Given as goal

abbrev pub invariant-loop-k : goal.invariant-loop-k
invariant-loop-k l = decimal_to l.k l.word ≡ None
