use Rattle.std.proofs.Common.{◌≡◌, None, sym, subst}
use Rattle.htl_top.proofs.{Vocabulary.KeptApart, Vocabulary.frame_limit, Vocabulary.Tables, Vocabulary.NoneOverloaded, NoneOverloaded.none_overloaded}
use Rattle.htl_plan.proofs.PlanFrame.{keeps_apart}
use Rattle.htl_top.proofs.slack.slack_in.Goals as goal

pub slack-requires-clause-formed : goal.slack-requires-clause-formed
slack-requires-clause-formed c = subst (λ (u : Tables). KeptApart u 12) (sym c.tables.ensures.value) (keeps_apart c.args.l.now 12 c.tables.ensures.accepted)

pub slack-requires-clause-limits : goal.slack-requires-clause-limits
slack-requires-clause-limits c = subst (λ (u : Tables). frame_limit u ≡ None) (sym c.tables.ensures.value) c.tables.ensures.accepted.spelled.formed.ranges.frames

pub slack-requires-clause-fits : goal.slack-requires-clause-fits
slack-requires-clause-fits c = subst NoneOverloaded (sym c.tables.ensures.value) (none_overloaded c.args.l.now c.tables.ensures.accepted)
