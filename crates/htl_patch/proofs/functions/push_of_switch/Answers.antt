use Rattle.std.proofs.Common.{◌≡◌, ◌++◌, List, map, subst, OnOk}
use Rattle.htl_model.specs.Tables.{Fun, fun_of}
use Rattle.htl_patch.proofs.FunctionParts.{switch_place}
use Rattle.htl_patch.proofs.functions.push_of_switch.Goals as goal

pub push_functions-requires-clause-within : goal.push_functions-requires-clause-within
push_functions-requires-clause-within c = (switch_place c.args.t.now c.args.k c.switch_function-first.result c.keeps_ranges.ensures.ranges c.requires.within c.switch_function-first.ensures).0

pub returns : goal.returns
returns c =
    let fs = (switch_place c.args.t.now c.args.k c.switch_function-first.result c.keeps_ranges.ensures.ranges c.requires.within c.switch_function-first.ensures).1 in
    subst (λ (xs : List Fun). OnOk c.push_functions.result (map fun_of c.push_functions.new.into.items ≡ map fun_of c.args.into.now.items ++ xs)) fs c.push_functions.ensures
