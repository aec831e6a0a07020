use Rattle.std.proofs.Common.{refl, arith}
use Rattle.htl_machine.proofs.MarkRows.{put_row}
use Rattle.htl_machine.proofs.marks.Marks.put.Goals as goal

pub returns : goal.returns
returns c = put_row c.args.self.now _ c.args.number c.put_bit.result c.args.marked (omega arith) c.requires refl c.with_bit-self.ensures (rw c.row.ensures at c.put_bit.ensures)
