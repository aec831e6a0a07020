use Rattle.std.proofs.Common.{arith, ◌∙◌}
use Rattle.htl_parse.proofs.LongRuns.{run-before}
use Rattle.htl_parse.proofs.long.last_end.Goals as goal

pub loop-place-preserved : goal.loop-place-preserved
loop-place-preserved c = (
  omega (arith, c.loop-place-test.true),
  omega (arith, c.loop-place.invariant.1),
  run-before c.args.tokens.now.tokens c.args.begin c.loop-place.place c.loop-place-test.true c.loop-place.invariant.1 c.loop-place.invariant.2
      (record { t = c.ends_at.ensures.t; is = c.ends_at.ensures.is; tells = c.ends_at.ensures.tells ∙ c.if-ends_at.false }),
)
