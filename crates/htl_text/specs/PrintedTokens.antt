-- The tokens of the printed form, in order, and other tokens behind them. Each operation stands in brackets
-- of its own.
use Rattle.std.specs.Prelude.{ℤ, Bool, true, false, Option, Some, None, List, [], ◌∷◌}
use Rattle.htl_base.specs.{declared.Ty.Ty, declared.operator.UnOp.UnOp, declared.operator.BinOp.BinOp}
use Rattle.htl_base.specs.declared.Ty.TheVariants as ty
use Rattle.htl_base.specs.declared.operator.UnOp.TheVariants as un
use Rattle.htl_base.specs.declared.operator.BinOp.TheVariants as bin
use Rattle.htl_text.specs.{Expressions.Expr, Expressions.Number, Expressions.Flag, Expressions.Variable, Expressions.Prefix, Expressions.Infix, Expressions.Choice, declared.token.Token.Token, declared.token.Sign.Sign, declared.tree.Id.Id}
use Rattle.htl_text.specs.{Nodes.PlainOut, Nodes.PlainOuts, Nodes.Concrete, Nodes.Abstract, Nodes.PlainTask, Nodes.PlainSwitch, Nodes.PlainMode, Nodes.PlainModule, Nodes.PlainProgram, declared.token.Word.Word, declared.tree.EndNode.EndNode}
use Rattle.htl_text.specs.declared.token.Token.TheVariants as token
use Rattle.htl_text.specs.declared.token.Sign.TheVariants as sign
use Rattle.htl_text.specs.declared.token.Word.TheVariants as word
use Rattle.htl_text.specs.{declared.tree.ParamNode.ParamNode, declared.tree.ConstNode.ConstNode, declared.tree.CommNode.CommNode, declared.tree.InvokeNode.InvokeNode}
use Rattle.htl_text.specs.declared.tree.ConstNode.TheVariants as const
use Rattle.htl_text.specs.declared.tree.EndNode.TheVariants as end

-- what tokens an item has, and others behind them
abbrev pub Spelling : Type 0 → Type 0
Spelling X = X → List Token → List Token

-- items one after another
abbrev pub each : {X : Type 0} → Spelling X → List X → List Token → List Token
each item [] more = more
each item (x ∷ xs) more = item x (each item xs more)

-- items with a comma before each
abbrev pub after_commas : {X : Type 0} → Spelling X → List X → List Token → List Token
after_commas item [] more = more
after_commas item (x ∷ xs) more = token.Sign sign.Comma ∷ item x (after_commas item xs more)

-- items in brackets, with commas between them
abbrev pub in_brackets : {X : Type 0} → Spelling X → List X → List Token → List Token
in_brackets item [] more = token.Sign sign.OpenParen ∷ token.Sign sign.CloseParen ∷ more
in_brackets item (x ∷ xs) more = token.Sign sign.OpenParen ∷ item x (after_commas item xs (token.Sign sign.CloseParen ∷ more))

abbrev pub prefix_sign : UnOp → Sign
prefix_sign un.Neg = sign.Minus
prefix_sign un.Not = sign.Not

abbrev pub infix_sign : BinOp → Sign
infix_sign bin.Add = sign.Plus
infix_sign bin.Sub = sign.Minus
infix_sign bin.Mul = sign.Star
infix_sign bin.Div = sign.Slash
infix_sign bin.Rem = sign.Percent
infix_sign bin.Lt = sign.Less
infix_sign bin.Le = sign.LessEqual
infix_sign bin.Gt = sign.Greater
infix_sign bin.Ge = sign.GreaterEqual
infix_sign bin.Eq = sign.Equal
infix_sign bin.Ne = sign.NotEqual
infix_sign bin.And = sign.And
infix_sign bin.Or = sign.Or

abbrev pub number_tokens : Spelling ℤ
number_tokens x more = token.Number x ∷ more

abbrev pub truth_tokens : Spelling Bool
truth_tokens true more = token.Word word.True ∷ more
truth_tokens false more = token.Word word.False ∷ more

abbrev pub expr_tokens : Spelling Expr
expr_tokens (Number k x) more = token.Number x ∷ more
expr_tokens (Flag k x) more = truth_tokens x more
expr_tokens (Variable id) more = token.Ident id.name ∷ more
expr_tokens (Prefix k op e) more = token.Sign sign.OpenParen ∷ token.Sign (prefix_sign op) ∷ expr_tokens e (token.Sign sign.CloseParen ∷ more)
expr_tokens (Infix k op l r) more =
    token.Sign sign.OpenParen ∷ expr_tokens l (token.Sign (infix_sign op) ∷ expr_tokens r (token.Sign sign.CloseParen ∷ more))
expr_tokens (Choice k c a b) more =
    token.Word word.If ∷ token.Sign sign.OpenParen
    ∷ expr_tokens c (token.Sign sign.Comma ∷ expr_tokens a (token.Sign sign.Comma ∷ expr_tokens b (token.Sign sign.CloseParen ∷ more)))

abbrev pub type_tokens : Spelling Ty
type_tokens ty.Int more = token.Word word.Int ∷ more
type_tokens ty.Bool more = token.Word word.Bool ∷ more

abbrev pub minus_tokens : Spelling Bool
minus_tokens true more = token.Sign sign.Minus ∷ more
minus_tokens false more = more

abbrev pub const_tokens : Spelling ConstNode
const_tokens (const.Int k minus x) more = minus_tokens minus (token.Number x ∷ more)
const_tokens (const.Bool k x) more = truth_tokens x more

abbrev pub kind_tokens : Spelling Bool
kind_tokens true more = token.Word word.Sensor ∷ more
kind_tokens false more = token.Word word.Communicator ∷ more

abbrev pub comm_tokens : Spelling CommNode
comm_tokens c more =
    kind_tokens c.sensor (type_tokens c.ty (token.Ident c.name.name ∷ token.Word word.Period
    ∷ token.Number c.period.x ∷ token.Word word.Init ∷ const_tokens c.init (token.Sign sign.Semicolon ∷ more)))

abbrev pub param_tokens : Spelling ParamNode
param_tokens p more = type_tokens p.ty (token.Ident p.name.name ∷ more)

abbrev pub out_tokens : Spelling PlainOut
out_tokens o more = param_tokens o.param (token.Sign sign.Assign ∷ expr_tokens o.value more)

-- the word of an abstract task
abbrev pub abstract_tokens : Spelling PlainOuts
abstract_tokens (Concrete os) more = more
abstract_tokens (Abstract os) more = token.Word word.Abstract ∷ more

abbrev pub outs_tokens : Spelling PlainOuts
outs_tokens (Concrete os) more = in_brackets out_tokens os more
outs_tokens (Abstract os) more = in_brackets param_tokens os more

abbrev pub task_tokens : Spelling PlainTask
task_tokens t more =
    abstract_tokens t.outputs (token.Word word.Task ∷ token.Ident t.name.name ∷ token.Word word.Input
    ∷ in_brackets param_tokens t.inputs (token.Word word.Output
    ∷ outs_tokens t.outputs (token.Word word.Worst ∷ token.Number t.worst.x ∷ token.Sign sign.Semicolon ∷ more)))

abbrev pub port_tokens : Spelling ParamNode
port_tokens p more = token.Word word.Port ∷ param_tokens p (token.Sign sign.Semicolon ∷ more)

abbrev pub end_tokens : Spelling EndNode
end_tokens (end.Comm id instance) more =
    token.Sign sign.OpenParen ∷ token.Ident id.name ∷ token.Sign sign.Comma ∷ token.Number instance.x ∷ token.Sign sign.CloseParen ∷ more
end_tokens (end.Port id) more = token.Ident id.name ∷ more

-- a word and a name, where there is a name
abbrev pub clause_tokens : Word → Spelling (Option Id)
clause_tokens w None more = more
clause_tokens w (Some id) more = token.Word w ∷ token.Ident id.name ∷ more

abbrev pub invoke_tokens : Spelling InvokeNode
invoke_tokens i more =
    token.Word word.Invoke ∷ token.Ident i.task.name ∷ token.Word word.Input
    ∷ in_brackets end_tokens i.reads (token.Word word.Output
    ∷ in_brackets end_tokens i.writes (clause_tokens word.Parent i.parent (token.Sign sign.Semicolon ∷ more)))

abbrev pub switch_tokens : Spelling PlainSwitch
switch_tokens s more =
    token.Word word.Switch ∷ token.Sign sign.OpenParen
    ∷ expr_tokens s.cond (token.Sign sign.Comma ∷ token.Ident s.target.name ∷ token.Sign sign.CloseParen ∷ token.Sign sign.Semicolon ∷ more)

abbrev pub mode_tokens : Spelling PlainMode
mode_tokens m more =
    token.Word word.Mode ∷ token.Ident m.name.name ∷ token.Word word.Period ∷ token.Number m.period.x
    ∷ clause_tokens word.Program m.program (token.Sign sign.OpenBrace
    ∷ each port_tokens m.ports (each invoke_tokens m.invokes (each switch_tokens m.switches (token.Sign sign.CloseBrace ∷ more))))

abbrev pub module_tokens : Spelling PlainModule
module_tokens m more =
    token.Word word.Module ∷ token.Ident m.name.name ∷ token.Word word.Start ∷ token.Ident m.start.name ∷ token.Sign sign.OpenBrace
    ∷ each task_tokens m.tasks (each mode_tokens m.modes (token.Sign sign.CloseBrace ∷ more))

abbrev pub program_tokens : Spelling PlainProgram
program_tokens p more =
    token.Word word.Program ∷ token.Ident p.name.name ∷ token.Sign sign.OpenBrace
    ∷ each comm_tokens p.comms (each module_tokens p.modules (token.Sign sign.CloseBrace ∷ more))

-- the tokens of a whole source
abbrev pub source_tokens : List PlainProgram → List Token
source_tokens ps = each program_tokens ps []
