use Rattle.std.proofs.Common.{◌<◌, ◌++◌, ℕ, List, length, map, All, ap, subst, sym, ◌∙◌}
use Rattle.htl_patch.proofs.Words.{flat_map, Fun, fun_of, Function, order, new_numbers, Numbering, functions_of, function_of_switch, combined}
use Rattle.htl_patch.proofs.NumberLaws.{tasks_within, switches_within}
use Rattle.htl_patch.proofs.functions.new_functions.Goals as goal

pub push_outputs-requires-clause-within : goal.push_outputs-requires-clause-within
push_outputs-requires-clause-within c =
    let g = c.args.g.now in
    subst (λ (xs : List ℕ). All (λ x. x < length (combined g).tasks) xs) (sym (c.as_slice-3.ensures.value ∙ ap (λ (z : Numbering). z.tasks) (c.n.view_is ∙ c.requires.numbers))) (tasks_within (combined g) (order g))

pub push_switches-requires-clause-within : goal.push_switches-requires-clause-within
push_switches-requires-clause-within c =
    let g = c.args.g.now in
    subst (λ (xs : List ℕ). All (λ x. x < length (combined g).switches) xs) (sym (c.as_slice-4.ensures.value ∙ ap (λ (z : Numbering). z.switches) (c.n.view_is ∙ c.requires.numbers)))
    (switches_within (combined g) (new_numbers g).modes)

pub returns : goal.returns
returns c =
    let g = c.args.g.now in
    let u = combined g in
    let tasks = c.as_slice-3.ensures.value ∙ ap (λ (z : Numbering). z.tasks) (c.n.view_is ∙ c.requires.numbers) in
    let switches = c.as_slice-4.ensures.value ∙ ap (λ (z : Numbering). z.switches) (c.n.view_is ∙ c.requires.numbers) in
    let fs = map (function_of_switch u) c.as_slice-4.result.now in
    c.in_ok-push_switches.ensures
    ∙ ap (λ (xs : List Fun). xs ++ fs) c.in_ok-push_outputs.ensures
    ∙ ap (λ (xs : List Function). (map fun_of xs ++ flat_map (functions_of u) c.as_slice-3.result.now) ++ fs) c.new-found.ensures.items
    ∙ ap (λ (ks : List ℕ). flat_map (functions_of u) ks ++ fs) tasks
    ∙ ap (λ (ks : List ℕ). flat_map (functions_of u) (new_numbers g).tasks ++ map (function_of_switch u) ks) switches
