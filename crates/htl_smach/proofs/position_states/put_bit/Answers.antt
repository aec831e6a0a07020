use Rattle.std.proofs.Common.{◌≡◌, ◌||◌, Bool, true, false, cond, eqb, refl, sym, ◌∙◌, ap, arith}
use Rattle.htl_smach.proofs.Words.{has_bit, cleared}
use Rattle.htl_smach.proofs.position_states.put_bit.Goals as goal

one_more : (a b : Bool) → (a || b) ≡ cond b true a
one_more true true = refl
one_more true false = refl
one_more false true = refl
one_more false false = refl

pub returns-then-value : goal.returns-then-value
returns-then-value c = λ q.
    c.with_bit.ensures q ∙ one_more (has_bit c.args.set q) (eqb q c.args.position)
    ∙ ap (λ b. cond (eqb q c.args.position) b (has_bit c.args.set q)) (sym c.if-value.true)

pub returns-else-value : goal.returns-else-value
returns-else-value c = λ q.
    cleared c.args.set c.args.position q c.requires (omega (arith, c.ranges.set.fits))
    ∙ ap (λ b. cond (eqb q c.args.position) b (has_bit c.args.set q)) (sym c.if-value.false)
