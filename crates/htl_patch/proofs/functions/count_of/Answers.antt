use Rattle.std.proofs.Common.{sym, ◌∙◌}
use Rattle.htl_patch.proofs.FunctionLists.{outputs_few}
use Rattle.htl_patch.proofs.functions.count_of.Goals as goal

pub function_count-requires : goal.function_count-requires
function_count-requires c = (outputs_few c.args.t.now c.tasks.result.now c.args.k c.index-tasks-k.result c.tasks.ensures.ranges c.tasks.ensures.value c.requires c.index-tasks-k.is).0

pub returns-clause-value : goal.returns-clause-value
returns-clause-value c =
    c.function_count.ensures.count ∙ sym (outputs_few c.args.t.now c.tasks.result.now c.args.k c.index-tasks-k.result c.tasks.ensures.ranges c.tasks.ensures.value c.requires c.index-tasks-k.is).1
