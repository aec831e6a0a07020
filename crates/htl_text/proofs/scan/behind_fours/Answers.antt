use Rattle.std.proofs.Common.{arith, sym, ◌∙◌}
use Rattle.htl_base.specs.Names.{is_word_byte}
use Rattle.htl_text.proofs.WordBytes.{behind-four}
use Rattle.htl_text.proofs.scan.behind_fours.Goals as goal

pub loop-rest-preserved : goal.loop-rest-preserved
loop-rest-preserved c =
    let four = behind-four is_word_byte c.loop-rest.rest.now c.in-len4-up.len_at_least (sym c.are_word_bytes.ensures ∙ c.if-not-are_word_bytes.false) in
    (omega (arith, four.passed, four.long, c.loop-rest.invariant.0), omega (arith, four.long, c.loop-rest.invariant.1))
