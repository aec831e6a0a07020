use Rattle.std.proofs.Common.{◌≡◌, ◌<◌, ℕ, List, length, map, All, ap, subst, sym, ◌∙◌}
use Rattle.htl_patch.proofs.Words.{AreInRange, fun_of, order, new_numbers, patched, Numbering, port_at, task_at, inv_at, switch_at, new_port, new_task, new_inv, new_switch, combined, Replacement}
use Rattle.htl_patch.proofs.{Assembling.made, Assembling.same_tables, NumberLaws.ports_within, NumberLaws.tasks_within, NumberLaws.invs_within, NumberLaws.switches_within}
use Rattle.htl_patch.proofs.tables.assembled.Goals as goal
use Rattle.htl_patch.proofs.tables.assembled.Goals.{After-new-8}

pub new_ports-requires-clause-within : goal.new_ports-requires-clause-within
new_ports-requires-clause-within c =
    let g = c.args.g.now in
    subst (λ (xs : List ℕ). All (λ x. x < length (combined g).ports) xs) (sym (c.as_slice.ensures.value ∙ ap (λ (z : Numbering). z.ports) (c.n.view_is ∙ c.requires.numbers))) (ports_within (combined g) (new_numbers g).modes)

pub new_tasks-requires-clause-within : goal.new_tasks-requires-clause-within
new_tasks-requires-clause-within c =
    let g = c.args.g.now in
    subst (λ (xs : List ℕ). All (λ x. x < length (combined g).tasks) xs) (sym (c.as_slice-2.ensures.value ∙ ap (λ (z : Numbering). z.tasks) (c.n.view_is ∙ c.requires.numbers))) (tasks_within (combined g) (order g))

pub new_invs-requires-clause-within : goal.new_invs-requires-clause-within
new_invs-requires-clause-within c =
    let g = c.args.g.now in
    subst (λ (xs : List ℕ). All (λ x. x < length (combined g).invs) xs) (sym (c.as_slice-3.ensures.value ∙ ap (λ (z : Numbering). z.invs) (c.n.view_is ∙ c.requires.numbers))) (invs_within (combined g) (new_numbers g).modes)

pub new_switches-requires-clause-within : goal.new_switches-requires-clause-within
new_switches-requires-clause-within c =
    let g = c.args.g.now in
    subst (λ (xs : List ℕ). All (λ x. x < length (combined g).switches) xs) (sym (c.as_slice-4.ensures.value ∙ ap (λ (z : Numbering). z.switches) (c.n.view_is ∙ c.requires.numbers))) (switches_within (combined g) (new_numbers g).modes)

-- the lists together are the patched tables
assembled_is_patched : (c : After-new-8)
    → made c.new.result c.new-2.result c.new-3.result c.new-4.result c.new-5.result c.new-6.result c.new-7.result (map fun_of c.new-8.result)
    ≡ patched c.args.g.now
assembled_is_patched c =
    let g = c.args.g.now in
    same_tables (c.new.ensures ∙ c.in_ok-comms.ensures ∙ (c.comms.ensures.value ∙ ap (λ (z : Replacement). z.host.comms) c.g.view_is)) (c.new-2.ensures ∙ c.requires.modes) (c.new-3.ensures ∙ c.requires.modules)
    (c.new-4.ensures ∙ c.in_ok-ports.ensures ∙ ap (map (λ (x : ℕ). new_port (new_numbers g) (port_at (combined g) x))) (c.as_slice.ensures.value ∙ ap (λ (z : Numbering). z.ports) (c.n.view_is ∙ c.requires.numbers)))
    (c.new-5.ensures ∙ c.in_ok-tasks.ensures ∙ ap (map (λ (x : ℕ). new_task (new_numbers g) (task_at (combined g) x))) (c.as_slice-2.ensures.value ∙ ap (λ (z : Numbering). z.tasks) (c.n.view_is ∙ c.requires.numbers)))
    (c.new-6.ensures ∙ c.in_ok-invs.ensures ∙ ap (map (λ (x : ℕ). new_inv (new_numbers g) (inv_at (combined g) x))) (c.as_slice-3.ensures.value ∙ ap (λ (z : Numbering). z.invs) (c.n.view_is ∙ c.requires.numbers)))
    (c.new-7.ensures ∙ c.in_ok-switches.ensures ∙ ap (map (λ (x : ℕ). new_switch (new_numbers g) (switch_at (combined g) x))) (c.as_slice-4.ensures.value ∙ ap (λ (z : Numbering). z.switches) (c.n.view_is ∙ c.requires.numbers)))
    (ap (map fun_of) c.new-8.ensures ∙ c.in_ok-functions.ensures)

pub new-requires-9 : goal.new-requires-9
new-requires-9 c = subst AreInRange (sym (assembled_is_patched (goal.at.new-requires-9 c).After-new-8)) c.requires.ranges

pub returns : goal.returns
returns c = c.new-9.ensures ∙ assembled_is_patched (goal.at.returns c).After-new-8
