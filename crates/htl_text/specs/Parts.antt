-- What an expression is, with its operands.
use Rattle.htl_text.specs.{Expressions.Expr, Expressions.Number, Expressions.Flag, Expressions.Variable, Expressions.Prefix, Expressions.Infix, Expressions.Choice, declared.expression.Part.Part}
use Rattle.htl_text.specs.declared.expression.Part.TheVariants as part

abbrev pub whole_of : Part → Expr
whole_of (part.Int k x) = Number k x
whole_of (part.Bool k x) = Flag k x
whole_of (part.Named id) = Variable id
whole_of (part.Unary k op e) = Prefix k op e
whole_of (part.Binary k op l r) = Infix k op l r
whole_of (part.Choose k c a b) = Choice k c a b
