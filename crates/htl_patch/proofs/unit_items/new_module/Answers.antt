use Rattle.std.proofs.Common.{length, ap, ◌∙◌, arith}
use Rattle.htl_patch.proofs.{Words.nat_tests, Words.new_numbers, Words.Replacement, NewItems.module_here, NewItems.module_there, NewItems.guest_parent_in}
use Rattle.htl_patch.proofs.unit_items.new_module.Goals as goal

pub copied_module-requires-clause-start : goal.copied_module-requires-clause-start
copied_module-requires-clause-start c =
    let g = c.args.g.now in
    (module_here g c.keeps_ranges.ensures.host c.keeps_ranges.ensures.donor (new_numbers g) c.args.p.now c.requires.places c.modules-front.result.now c.args.k c.index-front-k.result c.as_slice.result.now (c.modules-front.ensures.value ∙ ap (λ (z : Replacement). z.host.modules) c.g.view_is) (grind (arith, nat_tests, c.if-k-front.true)) c.index-front-k.is c.as_slice.ensures.value).0

pub copied_module-requires-clause-parent : goal.copied_module-requires-clause-parent
copied_module-requires-clause-parent c =
    let g = c.args.g.now in
    (module_here g c.keeps_ranges.ensures.host c.keeps_ranges.ensures.donor (new_numbers g) c.args.p.now c.requires.places c.modules-front.result.now c.args.k c.index-front-k.result c.as_slice.result.now (c.modules-front.ensures.value ∙ ap (λ (z : Replacement). z.host.modules) c.g.view_is) (grind (arith, nat_tests, c.if-k-front.true)) c.index-front-k.is c.as_slice.ensures.value).1

pub returns-then-k-front : goal.returns-then-k-front
returns-then-k-front c =
    let g = c.args.g.now in
    c.copied_module.ensures ∙ (module_here g c.keeps_ranges.ensures.host c.keeps_ranges.ensures.donor (new_numbers g) c.args.p.now c.requires.places c.modules-front.result.now c.args.k c.index-front-k.result c.as_slice.result.now (c.modules-front.ensures.value ∙ ap (λ (z : Replacement). z.host.modules) c.g.view_is) (grind (arith, nat_tests, c.if-k-front.true)) c.index-front-k.is c.as_slice.ensures.value).2

pub refined_parent-requires-clause-parent : goal.refined_parent-requires-clause-parent
refined_parent-requires-clause-parent c =
    let g = c.args.g.now in
    guest_parent_in g c.keeps_ranges.ensures.host c.keeps_ranges.ensures.donor (new_numbers g) c.args.p.now c.requires.places c.modules-front.result.now c.modules-back.result.now c.args.k c.index-back-k.result (c.modules-front.ensures.value ∙ ap (λ (z : Replacement). z.host.modules) c.g.view_is) (c.modules-back.ensures.value ∙ ap (λ (z : Replacement). z.donor.modules) c.g.view_is) (grind (arith, nat_tests, c.if-k-front.false)) c.requires.within c.index-back-k.is

pub copied_module-requires-2-clause-start : goal.copied_module-requires-2-clause-start
copied_module-requires-2-clause-start c =
    let g = c.args.g.now in
    (module_there g c.keeps_ranges.ensures.host c.keeps_ranges.ensures.donor (new_numbers g) c.args.p.now c.requires.places c.modules-front.result.now c.modules-back.result.now c.args.k (length c.modes-before.result.now) c.index-back-k.result c.refined_parent.result c.as_slice-2.result.now c.requires.patched_mode (c.modules-front.ensures.value ∙ ap (λ (z : Replacement). z.host.modules) c.g.view_is) (c.modules-back.ensures.value ∙ ap (λ (z : Replacement). z.donor.modules) c.g.view_is) (grind (arith, nat_tests, c.if-k-front.false)) c.requires.within c.index-back-k.is c.as_slice-2.ensures.value (ap length (c.modes-before.ensures.value ∙ ap (λ (z : Replacement). z.host.modes) c.g.view_is)) c.refined_parent.ensures).0

pub copied_module-requires-2-clause-parent : goal.copied_module-requires-2-clause-parent
copied_module-requires-2-clause-parent c =
    let g = c.args.g.now in
    (module_there g c.keeps_ranges.ensures.host c.keeps_ranges.ensures.donor (new_numbers g) c.args.p.now c.requires.places c.modules-front.result.now c.modules-back.result.now c.args.k (length c.modes-before.result.now) c.index-back-k.result c.refined_parent.result c.as_slice-2.result.now c.requires.patched_mode (c.modules-front.ensures.value ∙ ap (λ (z : Replacement). z.host.modules) c.g.view_is) (c.modules-back.ensures.value ∙ ap (λ (z : Replacement). z.donor.modules) c.g.view_is) (grind (arith, nat_tests, c.if-k-front.false)) c.requires.within c.index-back-k.is c.as_slice-2.ensures.value (ap length (c.modes-before.ensures.value ∙ ap (λ (z : Replacement). z.host.modes) c.g.view_is)) c.refined_parent.ensures).1

pub returns : goal.returns
returns c =
    let g = c.args.g.now in
    c.copied_module-2.ensures ∙ (module_there g c.keeps_ranges.ensures.host c.keeps_ranges.ensures.donor (new_numbers g) c.args.p.now c.requires.places c.modules-front.result.now c.modules-back.result.now c.args.k (length c.modes-before.result.now) c.index-back-k.result c.refined_parent.result c.as_slice-2.result.now c.requires.patched_mode (c.modules-front.ensures.value ∙ ap (λ (z : Replacement). z.host.modules) c.g.view_is) (c.modules-back.ensures.value ∙ ap (λ (z : Replacement). z.donor.modules) c.g.view_is) (grind (arith, nat_tests, c.if-k-front.false)) c.requires.within c.index-back-k.is c.as_slice-2.ensures.value (ap length (c.modes-before.ensures.value ∙ ap (λ (z : Replacement). z.host.modes) c.g.view_is)) c.refined_parent.ensures).2
