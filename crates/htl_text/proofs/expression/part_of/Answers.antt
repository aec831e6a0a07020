use Rattle.std.proofs.Common.{rules, to_z, of_z, w64, ◌≡◌, List, sym, subst, ap, ap₂, ◌∙◌, ◌≤◌, length}
use Rattle.htl_text.specs.Expressions.{Expr, Number, Infix}
use Rattle.htl_text.proofs.{Words.IsExpr, Words.expr_in, Words.back, Words.front, Words.Node, Parts.ends_as, Parts.choice_same}
use Rattle.htl_text.proofs.expression.part_of.Goals as goal

pub invariant_of-e : goal.invariant_of-e
invariant_of-e c = (ends_as c.args.before.now c.args.last.now _ c.in-Unary.is c.requires).0

pub cut-r-requires-clause-short : goal.cut-r-requires-clause-short
cut-r-requires-clause-short c = (ends_as c.args.before.now c.args.last.now _ c.in-Binary.is c.requires).0

pub cut-r-requires-clause-whole : goal.cut-r-requires-clause-whole
cut-r-requires-clause-whole c = (ends_as c.args.before.now c.args.last.now _ c.in-Binary.is c.requires).1

pub invariant_of-l : goal.invariant_of-l
invariant_of-l c = subst IsExpr (sym c.cut-r.ensures.front) (ends_as c.args.before.now c.args.last.now _ c.in-Binary.is c.requires).2

pub cut-b-requires-clause-short : goal.cut-b-requires-clause-short
cut-b-requires-clause-short c = (ends_as c.args.before.now c.args.last.now _ c.in-Choose.is c.requires).0

pub cut-b-requires-clause-whole : goal.cut-b-requires-clause-whole
cut-b-requires-clause-whole c = (ends_as c.args.before.now c.args.last.now _ c.in-Choose.is c.requires).1

pub cut-a-requires-clause-short : goal.cut-a-requires-clause-short
cut-a-requires-clause-short c =
    subst (λ (l : List Node). c.in-Choose.first ≤ length l) (sym c.cut-b.ensures.front) (ends_as c.args.before.now c.args.last.now _ c.in-Choose.is c.requires).2

pub cut-a-requires-clause-whole : goal.cut-a-requires-clause-whole
cut-a-requires-clause-whole c =
    subst (λ (l : List Node). IsExpr (back c.in-Choose.first l)) (sym c.cut-b.ensures.front) (ends_as c.args.before.now c.args.last.now _ c.in-Choose.is c.requires).3

pub invariant_of-c : goal.invariant_of-c
invariant_of-c c =
    subst IsExpr (sym (c.cut-a.ensures.front ∙ ap (front c.in-Choose.first) c.cut-b.ensures.front)) (ends_as c.args.before.now c.args.last.now _ c.in-Choose.is c.requires).4

pub returns-in-Int : goal.returns-in-Int
returns-in-Int c =
    let same : to_z w64 (of_z w64 c.in-Int.x) ≡ c.in-Int.x = search rules in
    ap (Number c.in-Int.token) same ∙ ends_as c.args.before.now c.args.last.now _ c.in-Int.is c.requires

pub returns-in-Bool : goal.returns-in-Bool
returns-in-Bool c = ends_as c.args.before.now c.args.last.now _ c.in-Bool.is c.requires

pub returns-in-Named : goal.returns-in-Named
returns-in-Named c = ends_as c.args.before.now c.args.last.now _ c.in-Named.is c.requires

pub returns-in-Unary : goal.returns-in-Unary
returns-in-Unary c = (ends_as c.args.before.now c.args.last.now _ c.in-Unary.is c.requires).1

pub returns-in-Binary : goal.returns-in-Binary
returns-in-Binary c =
    ap₂ (λ (x y : Expr). Infix c.in-Binary.token c.in-Binary.op x y) (ap expr_in c.cut-r.ensures.front) c.cut-r.ensures.back
    ∙ (ends_as c.args.before.now c.args.last.now _ c.in-Binary.is c.requires).3

pub returns-in-Choose : goal.returns-in-Choose
returns-in-Choose c =
    choice_same c.in-Choose.token _ _ _ _ _ _ (ap expr_in (c.cut-a.ensures.front ∙ ap (front c.in-Choose.first) c.cut-b.ensures.front))
    (c.cut-a.ensures.back ∙ ap (λ (l : List Node). expr_in (back c.in-Choose.first l)) c.cut-b.ensures.front) c.cut-b.ensures.back
    ∙ (ends_as c.args.before.now c.args.last.now _ c.in-Choose.is c.requires).5
