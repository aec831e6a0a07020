use Rattle.std.proofs.Common.{◌≡◌, ◌≤◌, ◌<◌, ◌-◌, ℕ, suc}
use Rattle.htl_edf.specs.Greatest.{with_worst, Fits}
use Rattle.htl_slack.specs.Slack.{IsKnown}
use Rattle.htl_slack.proofs.search.search.Given as goal

abbrev pub invariant-loop-low : goal.invariant-loop-low
invariant-loop-low l = record {
  tables : (v : ℕ) × (l.tables ≡ with_worst l.fn.t l.fn.task v);
  fits : Fits l.fn.t l.fn.task l.low;
  some : 0 < l.low;
  order : l.low < l.high;
  within : l.high ≤ suc l.fn.limit;
  known : IsKnown l.fn.t l.fn.task l.fn.limit l.high l.above;
}

abbrev pub decreases-loop-low : goal.decreases-loop-low
decreases-loop-low l = l.high - l.low
