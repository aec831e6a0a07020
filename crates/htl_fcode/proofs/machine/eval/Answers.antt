use Rattle.std.proofs.Common.{◌≡◌, [], ◌∷◌, length, w64, sym, ap, ◌∙◌, subst, arith, rules, FitsSigned}
use Rattle.std.proofs.lemmas.Int.{to_z-of_z}
use Rattle.htl_model.specs.{Tables.Compiled, Tables.fun, Ranges.FitsType}
use Rattle.htl_fcode.specs.Stacks.{values_run}
use Rattle.htl_fcode.proofs.Runs.{values_run-verified, FitsType-verified, IsSome-values_after, values_run-end}
use Rattle.htl_fcode.proofs.machine.eval.Goals as goal

pub loop-instr-init : goal.loop-instr-init
loop-instr-init c =
    let code = c.args.v.code.now in
    ap (λ is. values_run c.args.args.now is c.new-stack.result) c.as_slice-instr-items.ensures
    ∙ ap (values_run c.args.args.now code.instrs) c.new-stack.ensures ∙ values_run-verified code c.args.args.now c.args.v.verified c.requires

pub step-requires : goal.step-requires
step-requires c =
    IsSome-values_after c.args.args.now c.as_slice-instr-items.result.now c.loop-instr.instr-index _ c.loop-instr.stack _ c.loop-instr-test.true
    c.loop-instr.invariant

pub pop-requires : goal.pop-requires
pop-requires c =
    let e = values_run-end c.args.args.now c.as_slice-instr-items.result.now c.loop-instr.instr-index c.loop-instr.stack c.loop-instr-test.false in
    let k : c.loop-instr.stack ≡ fun (Compiled c.args.v.code.now) c.args.args.now ∷ [] = cc (e, c.loop-instr.invariant) in
    omega (arith, ap length k)

pub returns-clause-value : goal.returns-clause-value
returns-clause-value c =
    let e = values_run-end c.args.args.now c.as_slice-instr-items.result.now c.loop-instr.instr-index c.loop-instr.stack c.loop-instr-test.false in
    let f : FitsSigned w64 c.pop.result = search rules in
    to_z-of_z w64 c.pop.result f ∙ cc (e, c.loop-instr.invariant, c.pop.ensures.taken)

pub returns-clause-fit : goal.returns-clause-fit
returns-clause-fit c =
    let e = values_run-end c.args.args.now c.as_slice-instr-items.result.now c.loop-instr.instr-index c.loop-instr.stack c.loop-instr-test.false in
    let f : FitsSigned w64 c.pop.result = search rules in
    let k : fun (Compiled c.args.v.code.now) c.args.args.now ≡ c.pop.result = cc (e, c.loop-instr.invariant, c.pop.ensures.taken) in
    subst (FitsType c.args.v.code.now.want) (k ∙ sym (to_z-of_z w64 c.pop.result f))
    (FitsType-verified c.args.v.code.now c.args.args.now c.args.v.verified c.requires)
