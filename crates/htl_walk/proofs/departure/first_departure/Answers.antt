use Rattle.std.proofs.Common.{ℕ, ◌<◌, length, refl, arith}
use Rattle.htl_walk.proofs.Acceptance.{in_form, departs_at_length}
use Rattle.htl_walk.proofs.departure.first_departure.Goals as goal

pub returns-then-is_ended : goal.returns-then-is_ended
returns-then-is_ended c =
    in_form c.args.count c.args.period c.args.instrs.now (λ (k : ℕ) (h : k < length c.args.instrs.now) d. c.loop-k.invariant k (omega arith) d) (c.if-is_ended.ensures.yes refl)

pub returns-else-is_ended : goal.returns-else-is_ended
returns-else-is_ended c =
    departs_at_length c.args.count c.args.period c.args.instrs.now (λ (k : ℕ) (h : k < length c.args.instrs.now) d. c.loop-k.invariant k (omega arith) d) (c.if-is_ended.ensures.no refl)
