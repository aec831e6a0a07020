use Rattle.htl_compile.proofs.CodedLaws.{fitting_are_code}
use Rattle.htl_part_tests.proofs.made.made.Goals as goal

pub returns-in-Ok-clause-code : goal.returns-in-Ok-clause-code
returns-in-Ok-clause-code c = fitting_are_code c.in-Ok.t c.keeps_ranges.ensures.ranges c.in-Ok.ensures.fits
