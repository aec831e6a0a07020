use Rattle.std.proofs.Common.{arith, ◌∙◌}
use Rattle.htl_edf.proofs.{InTime.in_time_none, InTime.in_time_more, ReadyRanks.ahead_start}
use Rattle.htl_edf.proofs.parts.run_until.Goals as goal

pub loop-t-init : goal.loop-t-init
loop-t-init c = record {
  long = c.requires.left_same;
  lefts = c.requires.lefts;
  past = omega arith;
  within = c.requires.order;
  until = omega arith;
  ahead = ahead_start c.args.ranks.jobs.now c.args.ranks.by_end.now c.args.ranks.by_release.now c.requires.ranked c.args.left.now c.args.from;
  in_time = λ _. in_time_none c.args.ranks.jobs.now c.args.from;
}

pub loop-t-preserved : goal.loop-t-preserved
loop-t-preserved c =
    let m = c.advance-runs.ensures in
    record {
      long = m.left_same ∙ c.loop-t.invariant.long;
      lefts = m.lefts;
      past = omega (arith, c.loop-t.invariant.past, m.later);
      within = omega (arith, m.within, c.horizon-ahead.ensures.within);
      until = omega (arith, m.until, c.horizon-ahead.ensures.within);
      ahead = m.ahead;
      in_time = λ h.
          let both = c.stays_in_time-is_in_time.ensures h in
          in_time_more c.args.ranks.jobs.now c.args.from c.loop-t.t c.advance-runs.result.1 c.advance-runs.result.0 (c.loop-t.invariant.in_time both.0) m.runs both.1;
    }
