use Rattle.std.proofs.Common.{◌≡◌, IfOk, length, ap, subst, arith, ◌∙◌}
use Rattle.htl_patch.proofs.{Words.nat_tests, Words.Switch, Words.new_numbers, Words.Replacement, NewItems.switch_here, NewItems.switch_there}
use Rattle.htl_patch.proofs.mode_items.new_switch.Goals as goal

pub copied_switch-requires-clause-mode : goal.copied_switch-requires-clause-mode
copied_switch-requires-clause-mode c =
    let g = c.args.g.now in
    (switch_here g c.keeps_ranges.ensures.host c.keeps_ranges.ensures.donor (new_numbers g) c.args.p.now c.requires.places c.switches-front.result.now c.args.k c.index-front-k.result c.as_slice.result.now (c.switches-front.ensures.value ∙ ap (λ (z : Replacement). z.host.switches) c.g.view_is) (grind (arith, nat_tests, c.if-k-front.true)) c.index-front-k.is c.as_slice.ensures.value).0

pub copied_switch-requires-clause-target : goal.copied_switch-requires-clause-target
copied_switch-requires-clause-target c =
    let g = c.args.g.now in
    (switch_here g c.keeps_ranges.ensures.host c.keeps_ranges.ensures.donor (new_numbers g) c.args.p.now c.requires.places c.switches-front.result.now c.args.k c.index-front-k.result c.as_slice.result.now (c.switches-front.ensures.value ∙ ap (λ (z : Replacement). z.host.switches) c.g.view_is) (grind (arith, nat_tests, c.if-k-front.true)) c.index-front-k.is c.as_slice.ensures.value).1

pub copied_switch-requires-2-clause-mode : goal.copied_switch-requires-2-clause-mode
copied_switch-requires-2-clause-mode c =
    let g = c.args.g.now in
    (switch_there g c.keeps_ranges.ensures.host c.keeps_ranges.ensures.donor (new_numbers g) c.args.p.now c.requires.places c.switches-front.result.now c.switches-back.result.now c.args.k (length c.modes-before.result.now) c.index-back-k.result c.as_slice-2.result.now (c.switches-front.ensures.value ∙ ap (λ (z : Replacement). z.host.switches) c.g.view_is) (c.switches-back.ensures.value ∙ ap (λ (z : Replacement). z.donor.switches) c.g.view_is) (grind (arith, nat_tests, c.if-k-front.false)) c.requires.within c.index-back-k.is c.as_slice-2.ensures.value (ap length (c.modes-before.ensures.value ∙ ap (λ (z : Replacement). z.host.modes) c.g.view_is))).0

pub copied_switch-requires-2-clause-target : goal.copied_switch-requires-2-clause-target
copied_switch-requires-2-clause-target c =
    let g = c.args.g.now in
    (switch_there g c.keeps_ranges.ensures.host c.keeps_ranges.ensures.donor (new_numbers g) c.args.p.now c.requires.places c.switches-front.result.now c.switches-back.result.now c.args.k (length c.modes-before.result.now) c.index-back-k.result c.as_slice-2.result.now (c.switches-front.ensures.value ∙ ap (λ (z : Replacement). z.host.switches) c.g.view_is) (c.switches-back.ensures.value ∙ ap (λ (z : Replacement). z.donor.switches) c.g.view_is) (grind (arith, nat_tests, c.if-k-front.false)) c.requires.within c.index-back-k.is c.as_slice-2.ensures.value (ap length (c.modes-before.ensures.value ∙ ap (λ (z : Replacement). z.host.modes) c.g.view_is))).1

pub returns-then-k-front : goal.returns-then-k-front
returns-then-k-front c =
    let g = c.args.g.now in
    subst (λ (z : Switch). IfOk c.copied_switch.result (λ y. y ≡ z)) (switch_here g c.keeps_ranges.ensures.host c.keeps_ranges.ensures.donor (new_numbers g) c.args.p.now c.requires.places c.switches-front.result.now c.args.k c.index-front-k.result c.as_slice.result.now (c.switches-front.ensures.value ∙ ap (λ (z : Replacement). z.host.switches) c.g.view_is) (grind (arith, nat_tests, c.if-k-front.true)) c.index-front-k.is c.as_slice.ensures.value).2
    c.copied_switch.ensures

pub returns : goal.returns
returns c =
    let g = c.args.g.now in
    subst (λ (z : Switch). IfOk c.copied_switch-2.result (λ y. y ≡ z)) (switch_there g c.keeps_ranges.ensures.host c.keeps_ranges.ensures.donor (new_numbers g) c.args.p.now c.requires.places c.switches-front.result.now c.switches-back.result.now c.args.k (length c.modes-before.result.now) c.index-back-k.result c.as_slice-2.result.now (c.switches-front.ensures.value ∙ ap (λ (z : Replacement). z.host.switches) c.g.view_is) (c.switches-back.ensures.value ∙ ap (λ (z : Replacement). z.donor.switches) c.g.view_is) (grind (arith, nat_tests, c.if-k-front.false)) c.requires.within c.index-back-k.is c.as_slice-2.ensures.value (ap length (c.modes-before.ensures.value ∙ ap (λ (z : Replacement). z.host.modes) c.g.view_is))).2
    c.copied_switch-2.ensures
