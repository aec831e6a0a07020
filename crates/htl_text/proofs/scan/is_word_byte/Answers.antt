use Rattle.std.proofs.Common.{arith, refl, ◌∙◌}
use Rattle.htl_base.specs.Names.{is_word_byte}
use Rattle.htl_text.proofs.WordBytes.{in_table}
use Rattle.htl_text.proofs.scan.is_word_byte.Goals as goal

pub returns : goal.returns
returns c = c.is_marked.ensures ∙ in_table is_word_byte _ refl c.args.b (omega (arith, c.ranges.b.fits))
