use Rattle.std.proofs.Common.{◌+◌, length, inr, refl, sym, ◌∙◌, arith}
use Rattle.htl_script.proofs.Words.{eqb-false, eqb-true, ne_eqb}
use Rattle.htl_script.proofs.lines.Lines.ends_before.Goals as goal

pub returns-then-is_full : goal.returns-then-is_full
returns-then-is_full c =
    let other = eqb-false (c.args.self.now.start + length c.args.self.now.line) 1073741824 (sym c.is_at_limit.ensures.value ∙ c.if-is_at_limit.false) in
    inr (refl, ne_eqb c.args.b 10 c.if-b-eq10.false, eqb-true (length c.args.self.now.line) 255 (sym c.is_full.ensures.value ∙ c.if-is_full.true), omega (arith, other, c.is_at_limit.ensures.bound))
