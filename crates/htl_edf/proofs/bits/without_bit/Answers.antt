use Rattle.htl_edf.proofs.Words.{arith, cleared}
use Rattle.htl_edf.proofs.bits.without_bit.Goals as goal

pub returns : goal.returns
returns c = λ q. cleared c.args.row c.args.k q c.requires (omega (arith, c.ranges.row.fits))
