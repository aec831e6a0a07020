use Rattle.htl_model.specs.Functions.{term_of}
use Rattle.htl_func.proofs.Causes.{ill_typed-typed, no_function, IllTyped-exact, Deep-exact}
use Rattle.htl_func.proofs.compiler.compile_fn.Goals as goal

pub returns-in-Err-clause-complete : goal.returns-in-Err-clause-complete
returns-in-Err-clause-complete c =
    λ f. absurd (no_function c.args.first c.args.args.now c.args.want (term_of c.args.e.now) c.in-Err.fault c.in-Err.ensures f)

pub returns-in-Err-clause-ill_typed : goal.returns-in-Err-clause-ill_typed
returns-in-Err-clause-ill_typed c =
    IllTyped-exact c.args.first c.args.args.now c.args.want (term_of c.args.e.now) c.in-Err.fault c.in-Err.ensures

pub returns-in-Err-clause-deep : goal.returns-in-Err-clause-deep
returns-in-Err-clause-deep c =
    Deep-exact c.args.first c.args.args.now c.args.want (term_of c.args.e.now) c.in-Err.fault c.in-Err.ensures

pub returns-in-Ok-clause-ill_typed : goal.returns-in-Ok-clause-ill_typed
returns-in-Ok-clause-ill_typed c =
    λ token. (
      λ p. cc,
      λ i. let n = ill_typed-typed c.args.first c.args.args.now c.args.want (term_of c.args.e.now) c.in_default.ensures.typed in cc,
    )

pub returns-in-Err-code_of-clause-ill_typed : goal.returns-in-Err-code_of-clause-ill_typed
returns-in-Err-code_of-clause-ill_typed c =
    λ token. (
      λ p. cc,
      λ i. let n = ill_typed-typed c.args.first c.args.args.now c.args.want (term_of c.args.e.now) c.in_default.ensures.typed in cc,
    )
