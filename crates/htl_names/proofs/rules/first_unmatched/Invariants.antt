use Rattle.std.proofs.Common.{◌≡◌, map, drop}
use Rattle.htl_names.proofs.Words.{first_some, unmatched_token, parent_use_of}
use Rattle.htl_names.proofs.rules.first_unmatched.Given as goal

abbrev pub invariant-loop-k : goal.invariant-loop-k
invariant-loop-k l = first_some (unmatched_token l.symbols l.refined) (map parent_use_of (drop l.k l.parents)) ≡ first_some (unmatched_token l.symbols l.refined) (map parent_use_of l.parents)
