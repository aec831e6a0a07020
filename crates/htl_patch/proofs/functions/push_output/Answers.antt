use Rattle.std.proofs.Common.{◌≡◌, ◌≤◌, ◌++◌, ◌-◌, ℕ, List, length, map, ap, subst, ◌∙◌, OnOk, arith}
use Rattle.htl_patch.proofs.{Words.nat_tests, Words.Fun, Words.fun_of, Words.functions_of, Words.Replacement, FunctionParts.of_front, FunctionParts.of_back}
use Rattle.htl_patch.proofs.functions.push_output.Goals as goal

pub push_of_task-requires-clause-within : goal.push_of_task-requires-clause-within
push_of_task-requires-clause-within c = let size = ap length c.tasks-front.ensures.value in grind (arith, nat_tests, c.if-k-front.true, size)

pub returns-then-k-front : goal.returns-then-k-front
returns-then-k-front c =
    let g = c.args.g.now in
    let size = ap length (c.tasks-front.ensures.value ∙ ap (λ (z : Replacement). z.host.tasks) c.g.view_is) in
    subst (λ (xs : List Fun). OnOk c.push_of_task.result (map fun_of c.push_of_task.new.into.items ≡ map fun_of c.args.into.now.items ++ xs))
    (ap (λ (z : Replacement). functions_of z.host c.args.k) c.g.view_is ∙ of_front g c.keeps_ranges.ensures.host c.keeps_ranges.ensures.donor c.args.k (grind (arith, nat_tests, c.if-k-front.true, size))) c.push_of_task.ensures

pub returns-else-k-front : goal.returns-else-k-front
returns-else-k-front c =
    let g = c.args.g.now in
    let size = ap length (c.tasks-front.ensures.value ∙ ap (λ (z : Replacement). z.host.tasks) c.g.view_is) in
    let most : length g.host.tasks ≤ c.args.k = grind (arith, nat_tests, c.if-k-front.false, size) in
    let place = ap (λ (n : ℕ). functions_of g.donor (c.args.k - n)) size in
    subst (λ (xs : List Fun). OnOk c.push_of_task-else-k-front.result (map fun_of c.push_of_task-else-k-front.new.into.items ≡ map fun_of c.args.into.now.items ++ xs))
    (ap (λ (z : Replacement). functions_of z.donor (c.args.k - length c.tasks-front.result.now)) c.g.view_is ∙ place ∙ of_back g c.keeps_ranges.ensures.host c.keeps_ranges.ensures.donor c.args.k most c.requires.within) c.push_of_task-else-k-front.ensures
