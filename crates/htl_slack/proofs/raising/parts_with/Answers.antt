use Rattle.std.proofs.Common.{◌≡◌, List, ◌∙◌, ap}
use Rattle.htl_model.specs.{declared.parts.Task.Task, Tables.tables_of}
use Rattle.htl_edf.specs.Greatest.{worst_in}
use Rattle.htl_slack.proofs.WorstAt.{worst_in-put}
use Rattle.htl_slack.proofs.raising.parts_with.Goals as goal

pub returns : goal.returns
returns c =
    let whole : c.new.result ≡ worst_in c.args.worst c.args.task c.args.parts.tasks =
    c.new.ensures ∙ worst_in-put c.args.worst c.args.task c.index_mut.result.now c.into_vec-tasks.result.items c.args.parts.tasks c.into_vec-tasks.ensures c.index_mut.ensures.value c.requires in
    ap (λ (ts : List Task). record (tables_of c.args.parts) { tasks = ts }) whole
