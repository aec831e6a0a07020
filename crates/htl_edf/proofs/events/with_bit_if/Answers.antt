use Rattle.std.proofs.Common.{◌∙◌, ◌&&◌, ◌||◌, eqb, sym, ap}
use Rattle.htl_model.specs.Bits.{has_bit}
use Rattle.htl_edf.proofs.BitRows.{or_none, and_true}
use Rattle.htl_edf.proofs.events.with_bit_if.Goals as goal

pub returns-then-is_more : goal.returns-then-is_more
returns-then-is_more c = λ p.
    c.with_bit.ensures p ∙ ap (λ b. has_bit c.args.row p || b) (and_true (eqb p c.args.q) ∙ ap (λ b. eqb p c.args.q && b) (sym c.if-is_more.true))

pub returns-else-is_more : goal.returns-else-is_more
returns-else-is_more c = λ p. or_none (has_bit c.args.row p) (eqb p c.args.q) ∙ ap (λ b. has_bit c.args.row p || (eqb p c.args.q && b)) (sym c.if-is_more.false)
