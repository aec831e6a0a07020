use Rattle.std.proofs.Common.{arith, refl, ◌∙◌}
use Rattle.htl_text.specs.Spans.{is_blank}
use Rattle.htl_text.proofs.WordBytes.{in_table}
use Rattle.htl_text.proofs.scan.is_blank.Goals as goal

pub returns : goal.returns
returns c = c.is_marked.ensures ∙ in_table is_blank _ refl c.args.b (omega (arith, c.ranges.b.fits))
