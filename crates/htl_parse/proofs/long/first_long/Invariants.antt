use Rattle.std.proofs.Common.{◌≤◌, ◌-◌, length}
use Rattle.htl_parse.proofs.LongRuns.{AreBehind}
use Rattle.htl_parse.proofs.long.first_long.Given as goal

abbrev pub invariant-loop-begin : goal.invariant-loop-begin
invariant-loop-begin l = (l.begin ≤ length l.fn.tokens.tokens) × AreBehind l.fn.tokens.tokens l.begin

abbrev pub decreases-loop-begin : goal.decreases-loop-begin
decreases-loop-begin l = length l.fn.tokens.tokens - l.begin
