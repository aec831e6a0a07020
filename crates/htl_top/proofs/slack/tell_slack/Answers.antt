use Rattle.std.proofs.Common.{◌<◌, length, refl, sym, subst}
use Rattle.htl_top.proofs.Vocabulary.{slice_get_within, Tables, IsRootNamed, NamesNoTask}
use Rattle.htl_top.proofs.slack.tell_slack.Goals as goal

pub returns-in_default-clause-answer : goal.returns-in_default-clause-answer
returns-in_default-clause-answer g c = (subst (λ (t : Tables). NamesNoTask t c.args.owner.now c.args.name.now) c.tables.ensures.value c.in_default.ensures, refl)

pub write_slack-requires : goal.write_slack-requires
write_slack-requires g c =
    let task = c.in-Some.task in
    let is = subst (λ (t : Tables). IsRootNamed t c.args.owner.now c.args.name.now task) c.tables.ensures.value c.in-Some.ensures in
    let t = c.args.l.now.tables in
    subst (λ (u : Tables). task < length u.tasks) (sym c.tables-2.ensures.value) (slice_get_within t.tasks task is.named.item is.named.at)
