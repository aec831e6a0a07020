use Rattle.std.proofs.Common.{◌≡◌, length, ap, subst, IfOk, arith, ◌∙◌}
use Rattle.htl_patch.proofs.{Words.nat_tests, Words.Task, Words.new_numbers, Words.Replacement, NewItems.task_here, NewItems.task_there}
use Rattle.htl_patch.proofs.unit_items.new_task.Goals as goal

pub copied_task-requires : goal.copied_task-requires
copied_task-requires c =
    let g = c.args.g.now in
    (task_here g c.keeps_ranges.ensures.host c.keeps_ranges.ensures.donor (new_numbers g) c.args.p.now c.requires.places c.tasks-front.result.now c.args.k c.index-front-k.result c.as_slice.result.now (c.tasks-front.ensures.value ∙ ap (λ (z : Replacement). z.host.tasks) c.g.view_is) (grind (arith, nat_tests, c.if-k-front.true)) c.index-front-k.is c.as_slice.ensures.value).0

pub copied_task-requires-2 : goal.copied_task-requires-2
copied_task-requires-2 c =
    let g = c.args.g.now in
    (task_there g c.keeps_ranges.ensures.host c.keeps_ranges.ensures.donor (new_numbers g) c.args.p.now c.requires.places c.tasks-front.result.now c.tasks-back.result.now c.args.k (length c.modules-before.result.now) c.index-back-k.result c.as_slice-2.result.now (c.tasks-front.ensures.value ∙ ap (λ (z : Replacement). z.host.tasks) c.g.view_is) (c.tasks-back.ensures.value ∙ ap (λ (z : Replacement). z.donor.tasks) c.g.view_is) (grind (arith, nat_tests, c.if-k-front.false)) c.requires.within c.index-back-k.is c.as_slice-2.ensures.value (ap length (c.modules-before.ensures.value ∙ ap (λ (z : Replacement). z.host.modules) c.g.view_is))).0

pub returns-then-k-front : goal.returns-then-k-front
returns-then-k-front c =
    let g = c.args.g.now in
    let is = (task_here g c.keeps_ranges.ensures.host c.keeps_ranges.ensures.donor (new_numbers g) c.args.p.now c.requires.places c.tasks-front.result.now c.args.k c.index-front-k.result c.as_slice.result.now (c.tasks-front.ensures.value ∙ ap (λ (z : Replacement). z.host.tasks) c.g.view_is) (grind (arith, nat_tests, c.if-k-front.true)) c.index-front-k.is c.as_slice.ensures.value).1 in
    subst (λ (x : Task). IfOk c.copied_task.result (λ y. y ≡ x)) is c.copied_task.ensures

pub returns : goal.returns
returns c =
    let g = c.args.g.now in
    let is = (task_there g c.keeps_ranges.ensures.host c.keeps_ranges.ensures.donor (new_numbers g) c.args.p.now c.requires.places c.tasks-front.result.now c.tasks-back.result.now c.args.k (length c.modules-before.result.now) c.index-back-k.result c.as_slice-2.result.now (c.tasks-front.ensures.value ∙ ap (λ (z : Replacement). z.host.tasks) c.g.view_is) (c.tasks-back.ensures.value ∙ ap (λ (z : Replacement). z.donor.tasks) c.g.view_is) (grind (arith, nat_tests, c.if-k-front.false)) c.requires.within c.index-back-k.is c.as_slice-2.ensures.value (ap length (c.modules-before.ensures.value ∙ ap (λ (z : Replacement). z.host.modules) c.g.view_is))).1 in
    subst (λ (x : Task). IfOk c.copied_task-2.result (λ y. y ≡ x)) is c.copied_task-2.ensures
