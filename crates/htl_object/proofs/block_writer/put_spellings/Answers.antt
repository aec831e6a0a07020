use Rattle.htl_object.proofs.Rounds.{put}
use Rattle.htl_object.proofs.block_writer.put_spellings.Goals as goal

pub loop-spelling-preserved : goal.loop-spelling-preserved
loop-spelling-preserved c =
    put c.args.spellings.now c.loop-spelling.spelling-index c.spelling-item.result c.loop-spelling-test.true c.spelling-item.is (λ s. s.items) c.args.out.now c.loop-spelling.out c.extend.new.self
    c.loop-spelling.invariant (rw c.deref.ensures.value at c.extend.ensures)
