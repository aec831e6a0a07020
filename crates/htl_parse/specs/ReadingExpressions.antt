-- Reading expressions.
use Rattle.std.specs.Prelude.{ℕ, true, false, Option, Some, None, Ok, Err, List, ◌∷◌, length}
use Rattle.std.proofs.Common.{zero, suc}
use Rattle.htl_base.specs.declared.operator.BinOp.{BinOp}
use Rattle.htl_base.specs.declared.operator.UnOp.TheVariants as un
use Rattle.htl_text.specs.{Placed.Placed, Placed.Put, Expressions.Expr, Expressions.Number, Expressions.Flag, Expressions.Variable, Expressions.Prefix, Expressions.Infix, Expressions.Choice, declared.token.Sign.Sign}
use Rattle.htl_text.specs.Grammar.{or_of, and_of, compare_of, sum_of, product_of}
use Rattle.htl_parse.specs.Reading.{Read, Reader, ◌>>=◌, after_sign}
use Rattle.htl_text.specs.declared.token.Token.TheVariants as token
use Rattle.htl_text.specs.declared.token.Sign.TheVariants as sign
use Rattle.htl_text.specs.declared.token.Word.TheVariants as word

-- "(" has been read
abbrev pub bracketed : Reader Expr → Reader Expr
bracketed nested ts = nested ts >>= λ x. after_sign sign.CloseParen x.1 >>= λ rest. Ok (x.0, rest)

-- "if" has been read
abbrev pub chosen : Reader Expr → ℕ → Reader Expr
chosen nested k ts =
    after_sign sign.OpenParen ts >>= λ us. nested us >>= λ c. after_sign sign.Comma c.1 >>= λ vs. nested vs >>= λ a. after_sign sign.Comma a.1 >>= λ ws. nested ws >>= λ b. after_sign sign.CloseParen b.1
    >>= λ rest. Ok (Choice k c.0 a.0 b.0, rest)

-- an expression of one token
abbrev pub simple_at : Reader Expr
simple_at (Put k (token.Number x) ∷ ts) = Ok (Number k x, ts)
simple_at (Put k (token.Word word.True) ∷ ts) = Ok (Flag k true, ts)
simple_at (Put k (token.Word word.False) ∷ ts) = Ok (Flag k false, ts)
simple_at (Put k (token.Ident n) ∷ ts) = Ok (Variable (record { name = n; token = k }), ts)
simple_at ts = Err ts

abbrev pub atom_by : Reader Expr → Reader Expr
atom_by nested (Put k (token.Number x) ∷ ts) = Ok (Number k x, ts)
atom_by nested (Put k (token.Word word.True) ∷ ts) = Ok (Flag k true, ts)
atom_by nested (Put k (token.Word word.False) ∷ ts) = Ok (Flag k false, ts)
atom_by nested (Put k (token.Ident n) ∷ ts) = Ok (Variable (record { name = n; token = k }), ts)
atom_by nested (Put k (token.Sign sign.OpenParen) ∷ ts) = bracketed nested ts
atom_by nested (Put k (token.Word word.If) ∷ ts) = chosen nested k ts
atom_by nested ts = Err ts

abbrev pub unary_by : Reader Expr → Reader Expr
unary_by nested (Put k (token.Sign sign.Minus) ∷ ts) = unary_by nested ts >>= λ x. Ok (Prefix k un.Neg x.0, x.1)
unary_by nested (Put k (token.Sign sign.Not) ∷ ts) = unary_by nested ts >>= λ x. Ok (Prefix k un.Not x.0, x.1)
unary_by nested ts = atom_by nested ts

-- an operator stands at the front of all, or none
abbrev pub grown : (Expr → Reader Expr) → Reader Expr → ℕ → Expr → (all us : List Placed) → Option BinOp → Read Expr
grown again next k e all us (Some op) = next us >>= λ x. again (Infix k op e x.0) x.1
grown again next k e all us None = Ok (e, all)

-- e has been read; further operators and operands follow
abbrev pub tail : Reader Expr → (Sign → Option BinOp) → ℕ → Expr → Reader Expr
tail next ops (suc n) e (Put k (token.Sign s) ∷ us) = grown (tail next ops n) next k e (Put k (token.Sign s) ∷ us) us (ops s)
tail next ops n e us = Ok (e, us)

-- the same with a bound that is large enough
abbrev pub further : Reader Expr → (Sign → Option BinOp) → Expr → Reader Expr
further next ops e us = tail next ops (length us) e us

abbrev pub chain : Reader Expr → (Sign → Option BinOp) → Reader Expr
chain next ops ts = next ts >>= λ x. further next ops x.0 x.1

-- e has been read; one operator and an operand may follow
abbrev pub compared : Reader Expr → Expr → Reader Expr
compared next e (Put k (token.Sign s) ∷ us) = grown (λ f ts. Ok (f, ts)) next k e (Put k (token.Sign s) ∷ us) us (compare_of s)
compared next e us = Ok (e, us)

abbrev pub product_by : Reader Expr → Reader Expr
product_by nested = chain (unary_by nested) product_of

abbrev pub sum_by : Reader Expr → Reader Expr
sum_by nested = chain (product_by nested) sum_of

abbrev pub compare_by : Reader Expr → Reader Expr
compare_by nested ts = sum_by nested ts >>= λ x. compared (sum_by nested) x.0 x.1

abbrev pub and_by : Reader Expr → Reader Expr
and_by nested = chain (compare_by nested) and_of

abbrev pub or_by : Reader Expr → Reader Expr
or_by nested = chain (and_by nested) or_of

-- expressions of at most n tokens
abbrev pub expr_at : ℕ → Reader Expr
expr_at zero ts = Err ts
expr_at (suc n) ts = or_by (expr_at n) ts

-- an expression: it is or_by read_expr
unfoldable pub read_expr : Reader Expr
read_expr ts = expr_at (length ts) ts
