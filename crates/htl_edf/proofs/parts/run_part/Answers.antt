use Rattle.std.proofs.Common.{arith, rules, ◌∙◌, ◌-◌, refl}
use Rattle.htl_edf.proofs.{Words.jobs_of, Words.tight, Words.edf, Words.slices_from, InTime.in_time_none, InTime.in_time_more, PartRuns.part_some, PartRuns.part_idle, PartRuns.part_none, ReadyRanks.ahead_start}
use Rattle.htl_edf.proofs.parts.run_part.Goals as goal

pub loop-t-init : goal.loop-t-init
loop-t-init c =
    let e = part_none (edf (tight (jobs_of c.args.ranks.jobs.now))) c.args.from in
    record {
      long = c.requires.left_same;
      lefts = c.requires.lefts;
      past = omega arith;
      within = c.requires.order;
      until = omega arith;
      ahead = ahead_start c.args.ranks.jobs.now c.args.ranks.by_end.now c.args.ranks.by_release.now c.requires.ranked c.args.left.now c.args.from;
      in_time = λ h. (h, in_time_none c.args.ranks.jobs.now c.args.from);
      closed = rw e search rules;
      last = rw e refl;
    }

pub loop-t-preserved : goal.loop-t-preserved
loop-t-preserved c =
    let run = edf (tight (jobs_of c.args.ranks.jobs.now)) in
    let m = c.advance-runs.ensures in
    let e = part_idle run c.args.from c.loop-t.t c.advance-runs.result.1 c.loop-t.invariant.past m.later (λ i l. m.runs i l ∙ c.in_default.is) in
    record {
      long = m.left_same ∙ c.loop-t.invariant.long;
      lefts = m.lefts;
      past = omega (arith, c.loop-t.invariant.past, m.later);
      within = omega (arith, m.within, c.horizon-ahead.ensures.within);
      until = omega (arith, m.until, c.horizon-ahead.ensures.within);
      ahead = m.ahead;
      in_time = λ h.
          let both = c.stays_in_time-is_in_time.ensures h in
          let before = c.loop-t.invariant.in_time both.0 in
          (before.0, in_time_more c.args.ranks.jobs.now c.args.from c.loop-t.t c.advance-runs.result.1 c.advance-runs.result.0 before.1 m.runs both.1);
      closed = rw e c.loop-t.invariant.closed;
      last = rw e c.loop-t.invariant.last;
    }

pub loop-t-preserved-in_ok-last : goal.loop-t-preserved-in_ok-last
loop-t-preserved-in_ok-last c =
    let run = edf (tight (jobs_of c.args.ranks.jobs.now)) in
    let m = c.advance-runs.ensures in
    let e = part_some run c.args.from c.loop-t.t c.advance-runs.result.1 c.in-Some.p c.loop-t.invariant.past m.later (λ i l. m.runs i l ∙ c.in-Some.is) in
    let r = c.in_ok-last.ensures (slices_from run c.args.from (c.loop-t.t - c.args.from)) c.loop-t.invariant.closed c.loop-t.invariant.last in
    record {
      long = m.left_same ∙ c.loop-t.invariant.long;
      lefts = m.lefts;
      past = omega (arith, c.loop-t.invariant.past, m.later);
      within = omega (arith, m.within, c.horizon-ahead.ensures.within);
      until = omega (arith, m.until, c.horizon-ahead.ensures.within);
      ahead = m.ahead;
      in_time = λ h.
          let both = c.stays_in_time-is_in_time.ensures h in
          let before = c.loop-t.invariant.in_time both.0 in
          (before.0, in_time_more c.args.ranks.jobs.now c.args.from c.loop-t.t c.advance-runs.result.1 c.advance-runs.result.0 before.1 m.runs both.1);
      closed = rw e r.1;
      last = rw e r.0;
    }
