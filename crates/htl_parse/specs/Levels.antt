-- The levels of the operators that stand between operands, from the loosest, 0, to the tightest, 4.
use Rattle.std.specs.Prelude.{ℕ, ◌+◌, ◌==◌, cond, Option, None}
use Rattle.std.proofs.Common.{zero, suc}
use Rattle.htl_base.specs.declared.operator.BinOp.{BinOp}
use Rattle.htl_text.specs.{Expressions.Expr, Grammar.or_of, Grammar.and_of, Grammar.compare_of, Grammar.sum_of, Grammar.product_of, declared.token.Sign.Sign}
use Rattle.htl_parse.specs.{Reading.Reader, ReadingExpressions.unary_by, ReadingExpressions.product_by, ReadingExpressions.sum_by, ReadingExpressions.compare_by, ReadingExpressions.and_by, ReadingExpressions.or_by}
use Rattle.htl_text.specs.declared.token.Sign.TheVariants as sign

-- the level of a sign; 5 where it stands between no operands
abbrev pub level_of : Sign → ℕ
level_of sign.Or = 0
level_of sign.And = 1
level_of sign.Less = 2
level_of sign.LessEqual = 2
level_of sign.Greater = 2
level_of sign.GreaterEqual = 2
level_of sign.Equal = 2
level_of sign.NotEqual = 2
level_of sign.Plus = 3
level_of sign.Minus = 3
level_of sign.Star = 4
level_of sign.Slash = 4
level_of sign.Percent = 4
level_of s = 5

-- the operators of a level
abbrev pub operator_at : ℕ → Sign → Option BinOp
operator_at zero s = or_of s
operator_at (suc zero) s = and_of s
operator_at (suc (suc zero)) s = compare_of s
operator_at (suc (suc (suc zero))) s = sum_of s
operator_at (suc (suc (suc (suc zero)))) s = product_of s
operator_at n s = None

-- what is read on a level; from 5 on an operand
abbrev pub level_by : Reader Expr → ℕ → Reader Expr
level_by nested zero = or_by nested
level_by nested (suc zero) = and_by nested
level_by nested (suc (suc zero)) = compare_by nested
level_by nested (suc (suc (suc zero))) = sum_by nested
level_by nested (suc (suc (suc (suc zero)))) = product_by nested
level_by nested n = unary_by nested

-- below which level the operators are that may follow one of this level and its right operand: comparisons don't follow one another
abbrev pub limit_behind : ℕ → ℕ
limit_behind level = cond (level == 2) level (level + 1)
