use Rattle.std.proofs.Common.{refl, ap, ◌∙◌, ◌++◌}
use Rattle.htl_model.specs.Functions.{term_of, postfix}
use Rattle.htl_func.proofs.CodeMeans.{IsCompiled-postfix}
use Rattle.htl_func.proofs.compiler.code_of.Goals as goal

pub returns : goal.returns
returns c =
    IsCompiled-postfix c.args.args.now c.args.want (term_of c.args.e.now) _ c.requires.function c.requires.nodes
    (c.new.ensures ∙ c.in_ok-types.ensures.items) refl (c.new-2.ensures ∙ c.in_ok-emit.ensures ∙ ap (λ is. is ++ postfix (term_of c.args.e.now)) c.new-instrs.ensures.items)
