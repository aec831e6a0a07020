-- The printed form of a program and its size, as the definitions compute them.
use Rattle.std.proofs.Common.{◌≡◌, ◌+◌, ℕ, pos, true, Some, List, [], ◌∷◌, ◌++◌, refl}
use Rattle.htl_text.proofs.Words.{codes, decimal, tree_nodes, names_of, tree_size, PlainOut, Concrete, Abstract, PlainTask, PlainMode, PlainProgram, source_tokens, Id, Num, ParamNode, CommNode, EndNode, InvokeNode}
use Rattle.htl_base.specs.declared.Ty.TheVariants as ty
use Rattle.htl_base.specs.declared.operator.UnOp.TheVariants as un
use Rattle.htl_base.specs.declared.operator.BinOp.TheVariants as bin
use Rattle.htl_text.specs.{Expressions.Expr, Expressions.Number, Expressions.Flag, Expressions.Variable, Expressions.Prefix, Expressions.Infix, Expressions.Choice, PrintedBytes.printed_bytes}
use Rattle.htl_text.specs.declared.tree.ConstNode.TheVariants as const
use Rattle.htl_text.specs.declared.tree.EndNode.TheVariants as end

abbrev id : List ℕ → Id
id name = record { name = name; token = 0 }

abbrev num : ℕ → Num
num x = record { x = pos x; token = 0 }

abbrev a : Expr
a = Variable (id (codes "a"))

abbrev input : ParamNode
input = record { ty = ty.Int; name = id (codes "a") }

abbrev output : PlainOut
output = record {
  param = record { ty = ty.Bool; name = id (codes "y") };
  first = 0;
  value = Choice 0 (Infix 0 bin.Lt a (Number 0 (pos 1))) (Prefix 0 un.Neg a) (Infix 0 bin.Mul a (Flag 0 true));
}

abbrev tasks : List PlainTask
tasks =
    record { name = id (codes "t"); inputs = input ∷ input ∷ []; outputs = Concrete (output ∷ []); worst = num 3 }
    ∷ record { name = id (codes "s"); inputs = []; outputs = Abstract (input ∷ []); worst = num 40 } ∷ []

abbrev read : EndNode
read = end.Comm (id (codes "u")) (num 2)

abbrev invocation : InvokeNode
invocation = record {
  task = id (codes "t");
  reads = read ∷ read ∷ [];
  writes = end.Port (id (codes "q")) ∷ [];
  parent = Some (id (codes "s"));
}

abbrev mode : PlainMode
mode = record {
  name = id (codes "m");
  period = num 20;
  program = Some (id (codes "R"));
  ports = record { ty = ty.Bool; name = id (codes "q") } ∷ [];
  invokes = invocation ∷ [];
  switches = record { first = 0; cond = Prefix 0 un.Not a; target = id (codes "m") } ∷ [];
}

abbrev sensor : CommNode
sensor = record { sensor = true; ty = ty.Int; name = id (codes "u"); period = num 10; init = const.Int 0 true (pos 7) }

abbrev program : PlainProgram
program = record {
  name = id (codes "P");
  comms = sensor ∷ [];
  modules = record { name = id (codes "M"); start = id (codes "m"); tasks = tasks; modes = mode ∷ [] } ∷ [];
}

-- a number and a space, and what follows
abbrev number : ℕ → List ℕ → List ℕ
number x more = (decimal x ++ codes " ") ++ more

printed : printed_bytes (source_tokens (program ∷ []))
    ≡ codes "program P {\nsensor int u period " ++ number 10 (codes "init - " ++ number 7 (codes ";\nmodule M start m {\n"
    ++ (codes "task t input ( int a , int a ) output ( bool y = if ( ( a < " ++ number 1 (codes ") , ( - a ) , ( a * true ) ) ) worst " ++ number 3 (codes ";\n"
    ++ (codes "abstract task s input ( ) output ( int a ) worst " ++ number 40 (codes ";\nmode m period " ++ number 20 (codes "program R {\nport bool q ;\n"
    ++ (codes "invoke t input ( ( u , " ++ number 2 (codes ") , ( u , " ++ number 2 (codes ") ) output ( q ) parent s ;\nswitch ( ( ! a ) , m ) ;\n}\n}\n}\n")))))))))))
unfolding printed_bytes
printed = refl

-- if and three operators over five atoms, of which three are names
output_nodes : tree_nodes output.value ≡ 9
output_nodes = refl

output_names : names_of output.value ≡ id (codes "a") ∷ id (codes "a") ∷ id (codes "a") ∷ []
output_names = refl

-- a program, a communicator, a module, two tasks with two inputs and two outputs, a mode, a port, an invocation
-- with three ends, a switch, and eleven nodes of expressions
size : tree_size (program ∷ []) ≡ 1 + 1 + 1 + 2 + 2 + 2 + 1 + 1 + 1 + 3 + 1 + 11
size = refl
