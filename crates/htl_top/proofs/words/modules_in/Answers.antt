use Rattle.std.proofs.Common.{arith, ◌≡◌, ◌+◌, suc, sym, ◌∙◌}
use Rattle.htl_top.proofs.ModuleNumbers.{found, none_found}
use Rattle.htl_top.proofs.words.modules_in.Goals as goal

pub returns-then-is_decimal-clause-number : goal.returns-then-is_decimal-clause-number
returns-then-is_decimal-clause-number c =
    let k = c.loop-k.k in
    let next : k + 1 ≡ suc k = omega arith in
    sym (found c.args.word.now k (k + 1) next c.loop-k-test.true c.loop-k.invariant (sym c.is_decimal.ensures ∙ c.if-is_decimal.true))

pub returns-clause-number : goal.returns-clause-number
returns-clause-number c =
    let all : c.loop-k.k ≡ 64 = omega (arith, c.loop-k-test.false, c.loop-k.auto.k-end) in
    sym (none_found c.args.word.now c.loop-k.k all c.loop-k.invariant)
