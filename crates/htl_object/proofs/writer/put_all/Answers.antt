use Rattle.htl_object.proofs.Rounds.{kept, put}
use Rattle.htl_object.proofs.writer.put_all.Goals as goal

pub loop-x-preserved : goal.loop-x-preserved
loop-x-preserved g c =
    let items = c.args.items.now in (
      put items c.loop-x.x-index c.x-item.result c.loop-x-test.true c.x-item.is g.T.Spelled.spelling c.args.out.now c.loop-x.out c.put.new.out c.loop-x.invariant.0
          c.put.ensures.spelled,
      kept items c.loop-x.x-index c.x-item.result c.loop-x-test.true c.x-item.is g.T.Spelled.keeps c.loop-x.invariant.1 c.put.ensures.types,
    )
