-- The grammar of expressions: one case for each production. `Spells level ts e rest`: the tokens ts
-- begin with a spelling of e on this level, and rest is what follows it.
use Rattle.std.specs.Prelude.{ℕ, ℤ, true, false, ◌≡◌, Option, Some, None, List, ◌∷◌}
use Rattle.htl_base.specs.{declared.operator.UnOp.UnOp, declared.operator.BinOp.BinOp}
use Rattle.htl_base.specs.declared.operator.UnOp.TheVariants as un
use Rattle.htl_base.specs.declared.operator.BinOp.TheVariants as bin
use Rattle.htl_text.specs.{Placed.Placed, Placed.Put, Expressions.Expr, Expressions.Number, Expressions.Flag, Expressions.Variable, Expressions.Prefix, Expressions.Infix, Expressions.Choice, declared.token.Sign.Sign}
use Rattle.htl_text.specs.declared.token.Token.TheVariants as token
use Rattle.htl_text.specs.declared.token.Sign.TheVariants as sign
use Rattle.htl_text.specs.declared.token.Word.TheVariants as word

-- the levels of precedence, the loosest first
pub data Level : Type 0 where
  Or And Compare Sum Product Unary Atom : Level

-- "-" | "!"
abbrev pub prefix_of : Sign → Option UnOp
prefix_of sign.Minus = Some un.Neg
prefix_of sign.Not = Some un.Not
prefix_of s = None

-- "||"
abbrev pub or_of : Sign → Option BinOp
or_of sign.Or = Some bin.Or
or_of s = None

-- "&&"
abbrev pub and_of : Sign → Option BinOp
and_of sign.And = Some bin.And
and_of s = None

-- "<" | "<=" | ">" | ">=" | "==" | "!="
abbrev pub compare_of : Sign → Option BinOp
compare_of sign.Less = Some bin.Lt
compare_of sign.LessEqual = Some bin.Le
compare_of sign.Greater = Some bin.Gt
compare_of sign.GreaterEqual = Some bin.Ge
compare_of sign.Equal = Some bin.Eq
compare_of sign.NotEqual = Some bin.Ne
compare_of s = None

-- "+" | "-"
abbrev pub sum_of : Sign → Option BinOp
sum_of sign.Plus = Some bin.Add
sum_of sign.Minus = Some bin.Sub
sum_of s = None

-- "*" | "/" | "%"
abbrev pub product_of : Sign → Option BinOp
product_of sign.Star = Some bin.Mul
product_of sign.Slash = Some bin.Div
product_of sign.Percent = Some bin.Rem
product_of s = None

pub data Spells : Level → List Placed → Expr → List Placed → Type 0 where
  -- expr = conj { "||" conj }
  conj : {ts : List Placed} {e : Expr} {rest : List Placed} → Spells And ts e rest → Spells Or ts e rest
  or : {ts us : List Placed} {l r : Expr} {rest : List Placed} {k : ℕ} {s : Sign} {op : BinOp}
      → Spells Or ts l (Put k (token.Sign s) ∷ us) → or_of s ≡ Some op → Spells And us r rest → Spells Or ts (Infix k op l r) rest
  -- conj = cmp { "&&" cmp }
  cmp : {ts : List Placed} {e : Expr} {rest : List Placed} → Spells Compare ts e rest → Spells And ts e rest
  and : {ts us : List Placed} {l r : Expr} {rest : List Placed} {k : ℕ} {s : Sign} {op : BinOp}
      → Spells And ts l (Put k (token.Sign s) ∷ us) → and_of s ≡ Some op → Spells Compare us r rest → Spells And ts (Infix k op l r) rest
  -- cmp = sum [ ( "<" | "<=" | ">" | ">=" | "==" | "!=" ) sum ]
  sum : {ts : List Placed} {e : Expr} {rest : List Placed} → Spells Sum ts e rest → Spells Compare ts e rest
  compare : {ts us : List Placed} {l r : Expr} {rest : List Placed} {k : ℕ} {s : Sign} {op : BinOp}
      → Spells Sum ts l (Put k (token.Sign s) ∷ us) → compare_of s ≡ Some op → Spells Sum us r rest → Spells Compare ts (Infix k op l r) rest
  -- sum = prod { ( "+" | "-" ) prod }
  prod : {ts : List Placed} {e : Expr} {rest : List Placed} → Spells Product ts e rest → Spells Sum ts e rest
  add : {ts us : List Placed} {l r : Expr} {rest : List Placed} {k : ℕ} {s : Sign} {op : BinOp}
      → Spells Sum ts l (Put k (token.Sign s) ∷ us) → sum_of s ≡ Some op → Spells Product us r rest → Spells Sum ts (Infix k op l r) rest
  -- prod = unary { ( "*" | "/" | "%" ) unary }
  unary : {ts : List Placed} {e : Expr} {rest : List Placed} → Spells Unary ts e rest → Spells Product ts e rest
  multiply : {ts us : List Placed} {l r : Expr} {rest : List Placed} {k : ℕ} {s : Sign} {op : BinOp}
      → Spells Product ts l (Put k (token.Sign s) ∷ us) → product_of s ≡ Some op → Spells Unary us r rest → Spells Product ts (Infix k op l r) rest
  -- unary = ( "-" | "!" ) unary | atom
  atom : {ts : List Placed} {e : Expr} {rest : List Placed} → Spells Atom ts e rest → Spells Unary ts e rest
  prefix : {ts : List Placed} {e : Expr} {rest : List Placed} {k : ℕ} {s : Sign} {op : UnOp}
      → prefix_of s ≡ Some op → Spells Unary ts e rest → Spells Unary (Put k (token.Sign s) ∷ ts) (Prefix k op e) rest
  -- atom = number | "true" | "false" | name | "(" expr ")" | "if" "(" expr "," expr "," expr ")"
  number : {k : ℕ} {x : ℤ} {rest : List Placed} → Spells Atom (Put k (token.Number x) ∷ rest) (Number k x) rest
  true_word : {k : ℕ} {rest : List Placed} → Spells Atom (Put k (token.Word word.True) ∷ rest) (Flag k true) rest
  false_word : {k : ℕ} {rest : List Placed} → Spells Atom (Put k (token.Word word.False) ∷ rest) (Flag k false) rest
  name : {k : ℕ} {n : List ℕ} {rest : List Placed} → Spells Atom (Put k (token.Ident n) ∷ rest) (Variable (record { name = n; token = k })) rest
  brackets : {ts : List Placed} {e : Expr} {rest : List Placed} {k m : ℕ}
      → Spells Or ts e (Put m (token.Sign sign.CloseParen) ∷ rest) → Spells Atom (Put k (token.Sign sign.OpenParen) ∷ ts) e rest
  choice : {ts us vs : List Placed} {c a b : Expr} {rest : List Placed} {k m n o p : ℕ}
      → Spells Or ts c (Put n (token.Sign sign.Comma) ∷ us) → Spells Or us a (Put o (token.Sign sign.Comma) ∷ vs)
      → Spells Or vs b (Put p (token.Sign sign.CloseParen) ∷ rest)
      → Spells Atom (Put k (token.Word word.If) ∷ Put m (token.Sign sign.OpenParen) ∷ ts) (Choice k c a b) rest
