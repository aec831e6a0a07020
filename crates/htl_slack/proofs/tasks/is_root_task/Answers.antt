use Rattle.std.proofs.Common.{◌≡◌, ◌∙◌, ap, sym}
use Rattle.htl_edf.proofs.Words.{list_any, Tables}
use Rattle.htl_slack.specs.RootTasks.{invokes}
use Rattle.htl_slack.proofs.RootTasks.{found, finding}
use Rattle.htl_slack.proofs.tasks.is_root_task.Goals as goal

pub returns : goal.returns
returns c =
    let t = c.args.t.now in
    let e : c.is_invoked.result ≡ list_any (invokes t c.args.task) t.invs =
    c.is_invoked.ensures ∙ ap (list_any (invokes t c.args.task)) (c.as_slice.ensures ∙ sym (ap (λ (u : Tables). u.invs) c.parts.ensures.value)) in
    (λ h. found t c.args.task (sym e ∙ h), λ h. e ∙ finding t c.args.task h)
