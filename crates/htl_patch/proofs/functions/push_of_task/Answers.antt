use Rattle.std.proofs.Common.{◌≡◌, ◌++◌, List, map, subst, OnOk}
use Rattle.htl_model.specs.Tables.{Fun, fun_of}
use Rattle.htl_patch.proofs.FunctionLists.{firsts_size, task_functions}
use Rattle.htl_patch.proofs.functions.push_of_task.Goals as goal

pub bounds-firsts-k : goal.bounds-firsts-k
bounds-firsts-k c = firsts_size c.args.t.now c.args.firsts.now c.args.k c.requires.firsts c.requires.within

pub push_functions-requires-clause-within : goal.push_functions-requires-clause-within
push_functions-requires-clause-within c =
    (task_functions c.args.t.now c.args.firsts.now c.args.k c.count_of-count.result c.keeps_ranges.ensures.ranges c.requires.firsts c.requires.within c.count_of-count.ensures.value).0

pub returns : goal.returns
returns c =
    let fs = (task_functions c.args.t.now c.args.firsts.now c.args.k c.count_of-count.result c.keeps_ranges.ensures.ranges c.requires.firsts c.requires.within c.count_of-count.ensures.value).1 in
    subst (λ (xs : List Fun). OnOk c.push_functions.result (map fun_of c.push_functions.new.into.items ≡ map fun_of c.args.into.now.items ++ xs)) fs c.push_functions.ensures
