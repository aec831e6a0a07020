use Rattle.htl_model.proofs.BitLaws.{has_bit_set}
use Rattle.htl_model.proofs.bits.with_bit.Goals as goal

pub returns : goal.returns
returns c = λ q. has_bit_set c.args.row c.args.k q c.requires
