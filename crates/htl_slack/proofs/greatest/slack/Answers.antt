use Rattle.std.proofs.Common.{◌≡◌, ◌≤◌, ◌<◌, length, sym, ◌∙◌, ap, subst, arith}
use Rattle.htl_edf.proofs.{Words.frame_limit, Words.nodes, Words.Tables, Words.task_worst, Words.with_worst, Words.AreReady, Words.ExplainsNodes, FrameTasks.limits_with_worst, PathOrder.ready}
use Rattle.htl_slack.proofs.{RootTasks.task_below, RootTasks.own_span, RootTasks.own_within, RootTasks.limit_small, Searching.nodes_same, Searching.no_fault, Searching.try_ready}
use Rattle.htl_slack.specs.Slack.{NoneOverloaded}
use Rattle.htl_slack.proofs.greatest.slack.Goals as goal

pub module_period-limit-requires : goal.module_period-limit-requires
module_period-limit-requires c = task_below c.args.t.now c.args.task c.keeps_ranges.ensures.ranges c.requires.invoked

pub search-found-requires-clause-ready : goal.search-found-requires-clause-ready
search-found-requires-clause-ready c = subst AreReady (sym c.in_ok-copy.ensures) (ready c.args.t.now c.keeps_ranges.ensures.ranges c.requires.formed c.requires.limits)

pub search-found-requires-clause-task : goal.search-found-requires-clause-task
search-found-requires-clause-task c =
    subst (λ (u : Tables). c.args.task < length u.tasks) (sym c.in_ok-copy.ensures) (task_below c.args.t.now c.args.task c.keeps_ranges.ensures.ranges c.requires.invoked)

pub search-found-requires-clause-some : goal.search-found-requires-clause-some
search-found-requires-clause-some c =
    let span = own_span c.args.t.now c.args.task c.keeps_ranges.ensures.ranges c.requires.invoked in
    subst (λ (u : Tables). 0 < task_worst u c.args.task) (sym c.in_ok-copy.ensures) (omega (arith, span.some))

pub search-found-requires-clause-own : goal.search-found-requires-clause-own
search-found-requires-clause-own c =
    let own = own_within c.args.t.now c.args.task c.keeps_ranges.ensures.ranges c.requires.invoked c.requires.formed in
    subst (λ (u : Tables). task_worst u c.args.task ≤ c.module_period-limit.result) (sym c.in_ok-copy.ensures) (omega (arith, own, c.module_period-limit.ensures))

pub search-found-requires-clause-limit : goal.search-found-requires-clause-limit
search-found-requires-clause-limit c =
    let small = limit_small c.args.t.now c.args.task c.keeps_ranges.ensures.ranges c.requires.invoked c.requires.formed in
    omega (arith, small, c.module_period-limit.ensures)

pub plan_nodes-requires-clause-limits : goal.plan_nodes-requires-clause-limits
plan_nodes-requires-clause-limits c =
    let g = c.search-found.result.greatest in
    let e : c.search-found.result.tables ≡ with_worst c.args.t.now c.args.task g = c.search-found.ensures.tables ∙ ap (λ (u : Tables). with_worst u c.args.task g) c.in_ok-copy.ensures in
    ap frame_limit e ∙ limits_with_worst c.args.t.now c.args.task g ∙ c.requires.limits

pub plan_nodes-requires-clause-ready : goal.plan_nodes-requires-clause-ready
plan_nodes-requires-clause-ready c =
    let g = c.search-found.result.greatest in
    let e : c.search-found.result.tables ≡ with_worst c.args.t.now c.args.task g = c.search-found.ensures.tables ∙ ap (λ (u : Tables). with_worst u c.args.task g) c.in_ok-copy.ensures in
    let small = limit_small c.args.t.now c.args.task c.keeps_ranges.ensures.ranges c.requires.invoked c.requires.formed in
    try_ready c.args.t.now c.search-found.result.tables c.args.task g e c.search-found.ensures.some
    (omega (arith, small, c.module_period-limit.ensures, c.search-found.ensures.greatest.within))
    (ready c.args.t.now c.keeps_ranges.ensures.ranges c.requires.formed c.requires.limits)

pub returns-in-Ok-clause-count : goal.returns-in-Ok-clause-count
returns-in-Ok-clause-count c =
    let g = c.search-found.result.greatest in
    let e : c.search-found.result.tables ≡ with_worst c.args.t.now c.args.task g = c.search-found.ensures.tables ∙ ap (λ (u : Tables). with_worst u c.args.task g) c.in_ok-copy.ensures in
    ap length c.new.ensures ∙ c.in-Ok.ensures.count ∙ ap nodes e ∙ nodes_same c.args.t.now c.survey-frame.result c.args.task g c.survey-frame.ensures

pub unreachable-requires : goal.unreachable-requires
unreachable-requires c =
    let u = c.search-found.result.tables in
    let o = c.in-Err-Overload in
    no_fault u o.field-0-0 o.field-0-1 o.field-0-2 o.field-0-3 (subst NoneOverloaded (sym c.search-found.ensures.tables) c.search-found.ensures.greatest.fits)
    (subst (ExplainsNodes u) o.field-0-is o.ensures.fault)
