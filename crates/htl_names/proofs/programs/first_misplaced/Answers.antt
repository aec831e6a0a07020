use Rattle.std.proofs.Common.{◌∙◌, refl, sym, subst, arith, below_more}
use Rattle.htl_names.proofs.{Words.symbols_of, Words.AreRefinedModes, Words.IsMisplaced, Searches.misplaced_here, Searches.placed_here}
use Rattle.htl_names.proofs.programs.first_misplaced.Goals as goal

pub loop-p-preserved : goal.loop-p-preserved
loop-p-preserved c ps rows are =
    below_more (λ q. IsMisplaced (symbols_of ps) ps q → ⊥) c.loop-p.p (c.loop-p.invariant ps rows are)
    (placed_here ps c.as_slice.result.now c.as_slice-refined.result.now c.in_ok-seen.seen.items (c.as_slice.ensures.value ∙ rows)
    (subst (AreRefinedModes ps) (sym c.as_slice-refined.ensures.value) are) c.in_ok-seen.ensures c.loop-p.p c.loop-p-test.true
    c.index.result.now c.index.ensures (sym c.is_misplaced.ensures ∙ c.if-is_misplaced.false))

pub returns-then-is_misplaced : goal.returns-then-is_misplaced
returns-then-is_misplaced c ps rows are =
    let misplaced = misplaced_here ps c.as_slice.result.now c.as_slice-refined.result.now c.in_ok-seen.seen.items (c.as_slice.ensures.value ∙ rows)
    (subst (AreRefinedModes ps) (sym c.as_slice-refined.ensures.value) are) c.in_ok-seen.ensures c.loop-p.p c.loop-p-test.true
    c.index.result.now c.index.ensures (sym c.is_misplaced.ensures ∙ c.if-is_misplaced.true) in
    (c.loop-p.p, (omega (arith, are.len, c.as_slice-refined.ensures.len, c.loop-p-test.true), misplaced, refl), λ k f below broken. c.loop-p.invariant ps rows are k below broken.1)

pub returns : goal.returns
returns c ps rows are k f broken = c.loop-p.invariant ps rows are k (let within = broken.0 in omega (arith, within, are.len, c.loop-p-test.false)) broken.1
