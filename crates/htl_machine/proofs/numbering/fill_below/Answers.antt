use Rattle.std.proofs.Common.{arith}
use Rattle.htl_runs.proofs.lists.NodesBelow.{AreBelow, one_below}
use Rattle.htl_machine.proofs.numbering.fill_below.Goals as goal

pub loop-j-preserved : goal.loop-j-preserved
loop-j-preserved c =
    let v = c.loop-j.invariant in
    let h : AreBelow c.args.radices.now c.loop-j.below c.loop-j.j c.loop-j.rest = record { some = v.some; behind = v.rest; few = v.few; room = v.room; all_below = v.below; small = v.small } in
    let n = one_below c.args.radices.now c.loop-j.below c.loop-j.j c.loop-j.rest (omega arith) c.requires.room h in
    record { some = n.some; rest = n.behind; few = n.few; room = n.room; below = n.all_below; small = n.small }
