use Rattle.std.proofs.Common.{sym, ◌∙◌, arith}
use Rattle.htl_refine.proofs.OrderLaws.{past_first, past_second, other_modes, mode_below}
use Rattle.htl_refine.proofs.order.precedes.Goals as goal

pub returns-then-a-count : goal.returns-then-a-count
returns-then-a-count c = sym (past_first c.args.t.now c.args.a c.args.b (omega arith))

pub returns-then-b-count : goal.returns-then-b-count
returns-then-b-count c = sym (past_second c.args.t.now c.args.a c.args.b (omega arith))

pub returns-then-inv_at : goal.returns-then-inv_at
returns-then-inv_at c = sym (other_modes c.args.t.now c.args.a c.args.b c.inv_at.result.now c.inv_at-2.result.now c.inv_at.ensures c.inv_at-2.ensures c.if-inv_at.true)

pub returns : goal.returns
returns c = c.has_bit.ensures ∙ c.requires.rows c.args.a c.args.b c.inv_at.result.now c.inv_at-2.result.now c.inv_at.ensures c.inv_at-2.ensures c.if-inv_at.false (mode_below c.args.t.now c.args.b c.inv_at-2.result.now c.keeps_ranges.ensures.ranges c.inv_at-2.ensures)
