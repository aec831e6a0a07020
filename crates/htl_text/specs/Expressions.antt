-- Expressions. Brackets leave no mark in them, and repeated operators group to the left.
use Rattle.std.specs.Prelude.{ℕ, ℤ, Bool}
use Rattle.htl_base.specs.{declared.operator.UnOp.UnOp, declared.operator.BinOp.BinOp}
use Rattle.htl_text.specs.declared.tree.Id.{Id}

-- token is the number of the literal, the operator or the word `if`
pub data Expr : Type 0 where
  Number : (token : ℕ) (x : ℤ) → Expr
  Flag : (token : ℕ) (x : Bool) → Expr
  Variable : (id : Id) → Expr
  Prefix : (token : ℕ) (op : UnOp) (e : Expr) → Expr
  Infix : (token : ℕ) (op : BinOp) (l r : Expr) → Expr
  Choice : (token : ℕ) (c a b : Expr) → Expr
