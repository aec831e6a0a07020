use Rattle.std.proofs.Common.{◌<◌, length, ap, refl, arith, ◌∙◌}
use Rattle.htl_patch.proofs.{Words.nat_tests, Words.first_twice, Words.Replacement, JoinLaws.twice_next, JoinLaws.twice_found}
use Rattle.htl_patch.proofs.joining.first_twice.Goals as goal

pub loop-k-preserved : goal.loop-k-preserved
loop-k-preserved c =
    let g = c.args.g.now in
    let size = ap length (c.modules-all.ensures.value ∙ ap (λ (z : Replacement). z.donor.modules) c.g.view_is) in
    let less : c.loop-k.k < length g.donor.modules = grind (arith, nat_tests, c.loop-k-test.true, size) in
    twice_next g g.donor.modules c.loop-k.k c.is_twice.result (first_twice g) refl less c.is_twice.ensures c.if-is_twice.false c.loop-k.invariant

pub returns-then-is_twice : goal.returns-then-is_twice
returns-then-is_twice c =
    let g = c.args.g.now in
    let size = ap length (c.modules-all.ensures.value ∙ ap (λ (z : Replacement). z.donor.modules) c.g.view_is) in
    let less : c.loop-k.k < length g.donor.modules = grind (arith, nat_tests, c.loop-k-test.true, size) in
    twice_found g g.donor.modules c.loop-k.k c.is_twice.result (first_twice g) refl less c.is_twice.ensures c.if-is_twice.true c.loop-k.invariant
