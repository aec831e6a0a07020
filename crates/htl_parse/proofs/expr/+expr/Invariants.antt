use Rattle.std.proofs.Common.{◌≡◌, ◌+◌, ◌*◌, ◌++◌, length}
use Rattle.htl_parse.proofs.{Words.Expr, Words.nodes_of, Climbing.IsClimbing}
use Rattle.htl_parse.proofs.expr.+expr.Given as goal

abbrev pub decreases-atom : goal.decreases-atom
decreases-atom l = length l.cursor.now * 16 + 1

abbrev pub decreases-binary : goal.decreases-binary
decreases-binary l = length l.cursor.now * 16 + 3

abbrev pub decreases-bracketed : goal.decreases-bracketed
decreases-bracketed l = length l.cursor.now * 16 + 9

abbrev pub decreases-choice : goal.decreases-choice
decreases-choice l = length l.cursor.now * 16 + 9

abbrev pub decreases-unary : goal.decreases-unary
decreases-unary l = length l.cursor.now * 16 + 2

abbrev pub decreases-whole : goal.decreases-whole
decreases-whole l = length l.cursor.now * 16 + 4

abbrev pub invariant-binary-loop-token : goal.invariant-binary-loop-token
invariant-binary-loop-token l =
    (e : Expr) × IsClimbing l.fn.loosest l.fn.cursor l.cursor l.limit e × (l.nodes.items ≡ l.fn.nodes.items ++ nodes_of e)

abbrev pub decreases-binary-loop-token : goal.decreases-binary-loop-token
decreases-binary-loop-token l = length l.cursor
