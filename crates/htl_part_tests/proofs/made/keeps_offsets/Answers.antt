use Rattle.std.proofs.Common.{◌<◌, ℕ, subst, arith, inl}
use Rattle.std.proofs.lemmas.Bool.Decides.{nat_tests}
use Rattle.htl_model.specs.FormRules.{Offsets}
use Rattle.htl_part_tests.proofs.made.keeps_offsets.Goals as goal

pub returns-in-Ok : goal.returns-in-Ok
returns-in-Ok c = λ _ s have need broken. c.in-Ok.ensures.kept Offsets s have need (omega arith) broken

pub returns-in-Err : goal.returns-in-Err
returns-in-Err c = λ late s have need broken.
    let above : 4 < c.in-Err.fault.rule = grind (arith, nat_tests) in
    let first = c.in-Err.ensures.first.1 in
    first.first Offsets s have need (inl (subst (λ (k : ℕ). 4 < k) first.rule above)) broken
