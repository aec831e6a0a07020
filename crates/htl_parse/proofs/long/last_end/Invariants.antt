use Rattle.std.proofs.Common.{◌≤◌, ◌+◌, ◌-◌, take, drop}
use Rattle.htl_parse.specs.Runs.{IsStatementRun}
use Rattle.htl_parse.proofs.long.last_end.Given as goal

abbrev pub invariant-loop-place : goal.invariant-loop-place
invariant-loop-place l =
    (l.fn.begin ≤ l.place) × (l.place ≤ l.fn.begin + 513) × IsStatementRun (take (l.fn.begin + 513 - l.place) (drop l.place l.fn.tokens.tokens))

abbrev pub decreases-loop-place : goal.decreases-loop-place
decreases-loop-place l = l.place
