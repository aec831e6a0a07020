use Rattle.std.proofs.Common.{◌≡◌, ◌+◌, ◌-◌, ◌/◌, ◌∙◌, sym, subst, arith}
use Rattle.htl_edf.proofs.{Words.Tables, Words.task_worst, Words.with_worst, Words.Fits, ReadyTasks.own_worst}
use Rattle.htl_slack.specs.Slack.{NoneOverloaded, IsFirstOverload}
use Rattle.htl_slack.proofs.{Searching.own_fits, Searching.is_greatest, Searching.middle, Searching.try_ready, Searching.try_frame, WorstAt.raised_again, WorstAt.task_stays}
use Rattle.htl_slack.proofs.search.search.Goals as goal

pub loop-low-init : goal.loop-low-init
loop-low-init c = record {
  tables = (task_worst c.args.t c.args.task, sym (own_worst c.args.t c.args.task));
  fits = subst (Fits c.args.t c.args.task) (sym c.task_worst-low.ensures) (own_fits c.args.t c.args.task c.requires.fits);
  some = omega (arith, c.task_worst-low.ensures, c.requires.some);
  order = omega (arith, c.task_worst-low.ensures, c.requires.own);
  within = omega arith;
  known = omega arith;
}

pub with_worst-tables-requires-clause-task : goal.with_worst-tables-requires-clause-task
with_worst-tables-requires-clause-task c = task_stays c.args.t c.loop-low.tables c.args.task c.loop-low.invariant.tables.0 c.loop-low.invariant.tables.1 c.requires.task

pub overload_in-requires-clause-frame : goal.overload_in-requires-clause-frame
overload_in-requires-clause-frame c =
    let t = c.args.t in
    let w = c.loop-low.low + (c.loop-low.high - c.loop-low.low) / 2 in
    let e : c.with_worst-tables.result ≡ with_worst t c.args.task w =
    c.with_worst-tables.ensures ∙ raised_again t c.loop-low.tables c.args.task c.loop-low.invariant.tables.0 w c.loop-low.invariant.tables.1 in
    try_frame t c.with_worst-tables.result c.args.frame.now c.args.task w e c.requires.frame

pub overload_in-requires-clause-ready : goal.overload_in-requires-clause-ready
overload_in-requires-clause-ready c =
    let t = c.args.t in
    let w = c.loop-low.low + (c.loop-low.high - c.loop-low.low) / 2 in
    let mid = middle c.loop-low.low c.loop-low.high (omega (arith, c.loop-low-test.true)) in
    let e : c.with_worst-tables.result ≡ with_worst t c.args.task w =
    c.with_worst-tables.ensures ∙ raised_again t c.loop-low.tables c.args.task c.loop-low.invariant.tables.0 w c.loop-low.invariant.tables.1 in
    try_ready t c.with_worst-tables.result c.args.task w e (omega (arith, mid.0)) (omega (arith, mid.1, c.loop-low.invariant.within, c.requires.limit)) c.requires.ready

pub loop-low-preserved-in-None : goal.loop-low-preserved-in-None
loop-low-preserved-in-None c =
    let t = c.args.t in
    let w = c.loop-low.low + (c.loop-low.high - c.loop-low.low) / 2 in
    let mid = middle c.loop-low.low c.loop-low.high (omega (arith, c.loop-low-test.true)) in
    let e : c.with_worst-tables.result ≡ with_worst t c.args.task w =
    c.with_worst-tables.ensures ∙ raised_again t c.loop-low.tables c.args.task c.loop-low.invariant.tables.0 w c.loop-low.invariant.tables.1 in
    record {
      tables = (w, e);
      fits = subst NoneOverloaded e c.in-None.ensures;
      some = omega (arith, mid.0);
      order = mid.1;
      within = c.loop-low.invariant.within;
      known = c.loop-low.invariant.known;
    }

pub loop-low-preserved : goal.loop-low-preserved
loop-low-preserved c =
    let t = c.args.t in
    let w = c.loop-low.low + (c.loop-low.high - c.loop-low.low) / 2 in
    let mid = middle c.loop-low.low c.loop-low.high (omega (arith, c.loop-low-test.true)) in
    let e : c.with_worst-tables.result ≡ with_worst t c.args.task w =
    c.with_worst-tables.ensures ∙ raised_again t c.loop-low.tables c.args.task c.loop-low.invariant.tables.0 w c.loop-low.invariant.tables.1 in
    record {
      tables = (w, e);
      fits = c.loop-low.invariant.fits;
      some = c.loop-low.invariant.some;
      order = mid.0;
      within = omega (arith, mid.1, c.loop-low.invariant.within);
      known = (omega (arith, mid.1, c.loop-low.invariant.within), subst (λ (u : Tables). IsFirstOverload u c.in-Some.found) e c.in-Some.ensures);
    }

pub with_worst-requires-clause-task : goal.with_worst-requires-clause-task
with_worst-requires-clause-task c = task_stays c.args.t c.loop-low.tables c.args.task c.loop-low.invariant.tables.0 c.loop-low.invariant.tables.1 c.requires.task

pub returns-clause-greatest : goal.returns-clause-greatest
returns-clause-greatest c =
    let i = c.loop-low.invariant in
    is_greatest c.args.t c.args.task c.args.limit c.loop-low.low c.loop-low.high c.loop-low.above i.fits i.order i.within (omega (arith, c.loop-low-test.false)) i.known

pub returns-clause-tables : goal.returns-clause-tables
returns-clause-tables c = c.with_worst.ensures ∙ raised_again c.args.t c.loop-low.tables c.args.task c.loop-low.invariant.tables.0 c.loop-low.low c.loop-low.invariant.tables.1
