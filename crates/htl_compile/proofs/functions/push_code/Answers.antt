use Rattle.std.proofs.Common.{◌≡◌, ◌++◌, ◌∷◌, [], Bool, true, cond, map, is_ok, ◌∙◌, ap, rules}
use Rattle.htl_compile.proofs.Words.{code_at, fun_of, map_further}
use Rattle.htl_compile.proofs.functions.push_code.Goals as goal

pub returns-clause-codes : goal.returns-clause-codes
returns-clause-codes c =
    let old = c.args.codes.now.items in
    let pushed : is_ok c.push.result ≡ true = search rules in
    ap (map fun_of) (c.push.ensures.items ∙ ap (λ (b : Bool). cond b (old ++ c.in-Ok.code ∷ []) old) pushed)
    ∙ map_further fun_of (code_at c.args.t.now) old c.in-Ok.code c.args.id c.requires.before c.in-Ok.ensures.code
