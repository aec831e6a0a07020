use Rattle.htl_object.proofs.Spelled.{anchors_more, anchors_kept}
use Rattle.htl_object.proofs.encoding.put_anchors.Goals as goal
use Rattle.htl_object.specs.Lists.{anchors_of}

pub loop-m-preserved : goal.loop-m-preserved
loop-m-preserved c =
    let e = rw (c.as_slice-enter.ensures, c.as_slice-begin.ensures, c.as_slice-decide.ensures) at c.put.ensures.spelled in
    let h = rw (c.as_slice-enter.ensures, c.as_slice-begin.ensures, c.as_slice-decide.ensures) at c.put.ensures.types in (
      anchors_more (anchors_of c.args.code.now) c.loop-m.m c.args.out.now c.loop-m.out c.put.new.out c.loop-m.invariant.0 e,
      anchors_kept (anchors_of c.args.code.now) c.loop-m.m c.loop-m.invariant.1 h,
    )
