use Rattle.std.proofs.Common.{◌≡◌, ◌≤◌, ◌++◌, ◌-◌, ◌∷◌, [], ℕ, length, map, ap, subst, ◌∙◌, OnOk, arith}
use Rattle.htl_patch.proofs.{Words.nat_tests, Words.Fun, Words.fun_of, Words.function_of_switch, Words.Replacement, FunctionParts.switch_front, FunctionParts.switch_back}
use Rattle.htl_patch.proofs.functions.push_switch.Goals as goal

pub push_of_switch-requires-clause-within : goal.push_of_switch-requires-clause-within
push_of_switch-requires-clause-within c = let size = ap length c.switches-front.ensures.value in grind (arith, nat_tests, c.if-k-front.true, size)

pub returns-then-k-front : goal.returns-then-k-front
returns-then-k-front c =
    let g = c.args.g.now in
    let size = ap length (c.switches-front.ensures.value ∙ ap (λ (z : Replacement). z.host.switches) c.g.view_is) in
    subst (λ (f : Fun). OnOk c.push_of_switch.result (map fun_of c.push_of_switch.new.into.items ≡ map fun_of c.args.into.now.items ++ f ∷ []))
    (ap (λ (z : Replacement). function_of_switch z.host c.args.k) c.g.view_is ∙ switch_front g c.keeps_ranges.ensures.host c.keeps_ranges.ensures.donor c.args.k (grind (arith, nat_tests, c.if-k-front.true, size))) c.push_of_switch.ensures

pub returns-else-k-front : goal.returns-else-k-front
returns-else-k-front c =
    let g = c.args.g.now in
    let size = ap length (c.switches-front.ensures.value ∙ ap (λ (z : Replacement). z.host.switches) c.g.view_is) in
    let most : length g.host.switches ≤ c.args.k = grind (arith, nat_tests, c.if-k-front.false, size) in
    let place = ap (λ (n : ℕ). function_of_switch g.donor (c.args.k - n)) size in
    subst (λ (f : Fun). OnOk c.push_of_switch-else-k-front.result (map fun_of c.push_of_switch-else-k-front.new.into.items ≡ map fun_of c.args.into.now.items ++ f ∷ []))
    (ap (λ (z : Replacement). function_of_switch z.donor (c.args.k - length c.switches-front.result.now)) c.g.view_is ∙ place ∙ switch_back g c.keeps_ranges.ensures.host c.keeps_ranges.ensures.donor c.args.k most) c.push_of_switch-else-k-front.ensures
