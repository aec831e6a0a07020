use Rattle.std.proofs.lemmas.Grind.{merely}
use Rattle.htl_fcode.proofs.Runs.{Verified-types_run, types_run-Verified}
use Rattle.htl_fcode.proofs.verifier.verify.Goals as goal
use Rattle.htl_fcode.proofs.verifier.verify.Goals.{else-is_short-via-then-is_short+else-keeps_types, else-is_short-via-else-is_short}

pub invariant_of-result : goal.invariant_of-result
invariant_of-result c =
    record {
      verified = merely (Verified-types_run c.args.code.now (c.is_short.ensures.0 c.if-is_short.true) (c.keeps_types.ensures.0 c.if-keeps_types.true));
    }

pub returns-then-keeps_types-clause-verified : goal.returns-then-keeps_types-clause-verified
returns-then-keeps_types-clause-verified c =
    Verified-types_run c.args.code.now (c.is_short.ensures.0 c.if-is_short.true) (c.keeps_types.ensures.0 c.if-keeps_types.true)

pub returns-else-is_short-clause-refused : goal.returns-else-is_short-clause-refused
returns-else-is_short-clause-refused c =
    λ v.
    elim c.else-is_short.branch [
      | else-is_short-via-then-is_short+else-keeps_types w ↦
          absurd (let t = w.keeps_types.ensures.1 (types_run-Verified c.args.code.now v) in cc)
      | else-is_short-via-else-is_short w ↦ absurd (let t = c.is_short.ensures.1 v.short in let f = w.if-is_short.false in cc)
    ]
