use Rattle.htl_object.proofs.BlockReading.{count_grows, count_stays}
use Rattle.htl_object.proofs.block_reader.U16NotedItemUnitBlockCount.read.Goals as goal

pub returns-then-number-noted-2-clause-noted : goal.returns-then-number-noted-2-clause-noted
returns-then-number-noted-2-clause-noted c = count_grows c.args._before.now c.args.noted.now.blocks c.in_ok-number.number c.requires c.if-number-noted-2.true

pub returns-else-number-noted-2-clause-noted : goal.returns-else-number-noted-2-clause-noted
returns-else-number-noted-2-clause-noted c = count_stays c.args._before.now c.args.noted.now.blocks c.in_ok-number.number c.requires c.if-number-noted.false c.if-number-noted-2.false
