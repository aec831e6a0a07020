use Rattle.std.proofs.Common.{length, ap, ◌∙◌, arith}
use Rattle.htl_patch.proofs.{Words.nat_tests, Words.new_numbers, Words.Replacement, NewItems.mode_here, NewItems.mode_there}
use Rattle.htl_patch.proofs.unit_items.new_mode.Goals as goal

pub copied_mode-requires : goal.copied_mode-requires
copied_mode-requires c =
    let g = c.args.g.now in
    (mode_here g c.keeps_ranges.ensures.host c.keeps_ranges.ensures.donor (new_numbers g) c.args.p.now c.requires.places c.modes-front.result.now c.args.k c.index-front-k.result c.as_slice.result.now (c.modes-front.ensures.value ∙ ap (λ (z : Replacement). z.host.modes) c.g.view_is) (grind (arith, nat_tests, c.if-k-front.true)) c.index-front-k.is c.as_slice.ensures.value).0

pub copied_mode-requires-2 : goal.copied_mode-requires-2
copied_mode-requires-2 c =
    let g = c.args.g.now in
    (mode_there g c.keeps_ranges.ensures.host c.keeps_ranges.ensures.donor (new_numbers g) c.args.p.now c.requires.places c.modes-front.result.now c.modes-back.result.now c.args.k (length c.modules-before.result.now) c.index-back-k.result c.as_slice-2.result.now (c.modes-front.ensures.value ∙ ap (λ (z : Replacement). z.host.modes) c.g.view_is) (c.modes-back.ensures.value ∙ ap (λ (z : Replacement). z.donor.modes) c.g.view_is) (grind (arith, nat_tests, c.if-k-front.false)) c.requires.within c.index-back-k.is c.as_slice-2.ensures.value (ap length (c.modules-before.ensures.value ∙ ap (λ (z : Replacement). z.host.modules) c.g.view_is))).0

pub returns-then-k-front : goal.returns-then-k-front
returns-then-k-front c =
    let g = c.args.g.now in
    c.copied_mode.ensures ∙ (mode_here g c.keeps_ranges.ensures.host c.keeps_ranges.ensures.donor (new_numbers g) c.args.p.now c.requires.places c.modes-front.result.now c.args.k c.index-front-k.result c.as_slice.result.now (c.modes-front.ensures.value ∙ ap (λ (z : Replacement). z.host.modes) c.g.view_is) (grind (arith, nat_tests, c.if-k-front.true)) c.index-front-k.is c.as_slice.ensures.value).1

pub returns : goal.returns
returns c =
    let g = c.args.g.now in
    c.copied_mode-2.ensures ∙ (mode_there g c.keeps_ranges.ensures.host c.keeps_ranges.ensures.donor (new_numbers g) c.args.p.now c.requires.places c.modes-front.result.now c.modes-back.result.now c.args.k (length c.modules-before.result.now) c.index-back-k.result c.as_slice-2.result.now (c.modes-front.ensures.value ∙ ap (λ (z : Replacement). z.host.modes) c.g.view_is) (c.modes-back.ensures.value ∙ ap (λ (z : Replacement). z.donor.modes) c.g.view_is) (grind (arith, nat_tests, c.if-k-front.false)) c.requires.within c.index-back-k.is c.as_slice-2.ensures.value (ap length (c.modules-before.ensures.value ∙ ap (λ (z : Replacement). z.host.modules) c.g.view_is))).1
