use Rattle.std.proofs.Common.{sym, ap, ◌∙◌, arith, ◌+◌, map, drop}
use Rattle.htl_model.specs.Frames.{common_multiple, multiple_of, too_long, unit_period}
use Rattle.htl_model.proofs.FrameLimits.{longer_none, multiple_next}
use Rattle.htl_model.proofs.starts.hyperperiod.Goals as goal

pub loop-k-preserved : goal.loop-k-preserved
loop-k-preserved c =
    let t = c.args.t.now in
    let us = c.args.roots.now in
    let s = longer_none t c.loop-k.multiple us c.loop-k.k (omega arith) c.loop-k.invariant.long in
    let is = c.common-multiple.ensures ∙ ap (common_multiple c.loop-k.multiple) c.unit_period.ensures in
    record {
      multiple = ap (λ n. multiple_of n (map (unit_period t) (drop (c.loop-k.k + 1) us))) is ∙ sym (multiple_next t c.loop-k.multiple us c.loop-k.k (omega arith)) ∙ c.loop-k.invariant.multiple;
      long = ap (λ n. too_long t n (drop (c.loop-k.k + 1) us)) is ∙ s.1;
      small = omega (arith, is, s.0);
    }
