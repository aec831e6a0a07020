use Rattle.std.proofs.Common.{ℕ, ◌<◌, ◌≤◌, get_or}
use Rattle.htl_names.proofs.Words.{tree_of, symbols_of, counts, limits}
use Rattle.htl_names.proofs.limits.first_exceeded.Given as goal

abbrev pub invariant-loop-k : goal.invariant-loop-k
invariant-loop-k l = (j : ℕ) → j < l.k → get_or (counts (symbols_of (tree_of l.tree)) (tree_of l.tree)) j 0 ≤ get_or limits j 0
