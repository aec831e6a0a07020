use Rattle.std.proofs.Common.{◌≡◌, drop}
use Rattle.htl_names.proofs.Words.{first_some, unknown_token}
use Rattle.htl_names.proofs.rules.first_unknown.Given as goal

abbrev pub invariant-loop-k : goal.invariant-loop-k
invariant-loop-k l = first_some (unknown_token l.symbols) (drop l.k l.uses) ≡ first_some (unknown_token l.symbols) l.uses
