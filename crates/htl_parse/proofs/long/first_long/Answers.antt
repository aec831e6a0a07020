use Rattle.std.proofs.Common.{arith}
use Rattle.htl_parse.proofs.LongRuns.{behind-end, long-here, none-long}
use Rattle.htl_parse.proofs.long.first_long.Goals as goal

pub loop-begin-preserved : goal.loop-begin-preserved
loop-begin-preserved c =
    let found = c.in-Some.ensures in (
      omega (arith, found.1, c.loop-begin-test.true, c.len-count.ensures.value),
      behind-end c.args.tokens.now.tokens c.loop-begin.begin c.in-Some.end c.loop-begin.invariant.1 found.1 found.2,
    )

pub returns-in-None : goal.returns-in-None
returns-in-None c =
    long-here c.args.tokens.now.tokens c.loop-begin.begin (omega (arith, c.loop-begin-test.true, c.len-count.ensures.value)) c.loop-begin.invariant.1 c.in-None.ensures

pub returns : goal.returns
returns c =
    none-long c.args.tokens.now.tokens c.loop-begin.begin (omega (arith, c.loop-begin-test.false, c.len-count.ensures.value)) c.loop-begin.invariant.1
