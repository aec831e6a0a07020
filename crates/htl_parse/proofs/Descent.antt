-- Operands: where no prefix operator stands next, and what each level leaves.
use Rattle.std.proofs.Common.{◌≡◌, List, ◌∷◌, None, refl, sym, ap}
use Rattle.htl_parse.proofs.Words.{Placed, Put, prefix_of, And, Compare, Product, Unary, atom_by, unary_by, product_by, compare_by, and_by, read_expr, PassesOperator}
use Rattle.htl_parse.proofs.{Fronts.Less, Fixed.shrinks, ViableExpressions.unary-tells, ViableExpressions.product-tells, ViableExpressions.compare-tells, ViableExpressions.and-tells, ViableExpressions.read_expr-tells}
use Rattle.htl_text.specs.declared.token.Token.TheVariants as token
use Rattle.htl_text.specs.declared.token.Sign.TheVariants as sign

-- no prefix operator stands next
pub unary-plain : (old new : List Placed) → PassesOperator prefix_of old new None → unary_by read_expr old ≡ atom_by read_expr new
unary-plain (Put k (token.Sign sign.Minus) ∷ us) new passes = let e = passes.1 k sign.Minus us refl in absurd cc
unary-plain (Put k (token.Sign sign.Not) ∷ us) new passes = let e = passes.1 k sign.Not us refl in absurd cc
unary-plain old new passes = ap (atom_by read_expr) (sym passes.0)

pub unary-shrinks : Less (unary_by read_expr)
unary-shrinks = shrinks Unary (unary_by read_expr) (unary-tells read_expr read_expr-tells)

pub product-shrinks : Less (product_by read_expr)
product-shrinks = shrinks Product (product_by read_expr) (product-tells read_expr read_expr-tells)

pub compare-shrinks : Less (compare_by read_expr)
compare-shrinks = shrinks Compare (compare_by read_expr) (compare-tells read_expr read_expr-tells)

pub and-shrinks : Less (and_by read_expr)
and-shrinks = shrinks And (and_by read_expr) (and-tells read_expr read_expr-tells)
