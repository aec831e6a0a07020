use Rattle.htl_smach.proofs.{Words.take, Words.arith, Words.length-take, Joined.front}
use Rattle.htl_smach.proofs.machine.copy_front.Goals as goal

pub returns : goal.returns
returns c =
    front c.args.count c.copy_from_slice.new.self _ (take c.args.count c.args.from.now) c.copy_from_slice.ensures.after
    (omega (arith, length-take c.args.count c.args.from.now))
