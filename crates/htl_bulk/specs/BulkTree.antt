-- The generated program: how much of it there is one number says, so that the cost of a run can be measured by anyone.
use Rattle.std.specs.Prelude.{ℕ, zero, suc, ◌+◌, ◌-◌, ◌/◌, ◌%◌, ℤ, pos, Bool, ◌||◌, cond, eqb, ltb, false, true, None, codes, List, [], ◌∷◌}
use Rattle.htl_base.specs.declared.Ty.TheVariants as ty
use Rattle.htl_base.specs.declared.operator.BinOp.TheVariants as op
use Rattle.htl_model.specs.Lists.{list_to}
use Rattle.htl_text.specs.{Expressions.Expr, Expressions.Number, Expressions.Variable, Expressions.Infix, Nodes.PlainOut, Nodes.Concrete, Nodes.PlainTask, Nodes.PlainMode, Nodes.PlainModule, Nodes.PlainProgram, PrintedBytes.printed_bytes}
use Rattle.htl_text.specs.{PrintedTokens.source_tokens, declared.tree.Id.Id, declared.tree.Num.Num, declared.tree.CommNode.CommNode, declared.tree.ParamNode.ParamNode, declared.tree.EndNode.EndNode, declared.tree.InvokeNode.InvokeNode}
use Rattle.htl_text.specs.declared.tree.ConstNode.TheVariants as const
use Rattle.htl_text.specs.declared.tree.EndNode.TheVariants as end

-- names and numbers, which stand at no token
abbrev pub named : List ℕ → Id
named name = record { name = name; token = 0 }

abbrev pub number : ℤ → Num
number x = record { x = x; token = 0 }

-- the letter of communicators, and of modules
abbrev pub is_numbered : ℕ → Bool
is_numbered letter = eqb letter 99 || eqb letter 77

-- a number below 100 in decimal digits, of which there are one or two
abbrev pub digits : ℕ → List ℕ
digits k = cond (ltb k 10) ((48 + k % 10) ∷ []) ((48 + k / 10) ∷ (48 + k % 10) ∷ [])

-- communicator k, and module k
abbrev pub comm_named : ℕ → Id
comm_named k = named (99 ∷ digits k)

abbrev pub module_named : ℕ → Id
module_named k = named (77 ∷ digits k)

-- a parameter of type int
abbrev pub int_named : List ℕ → ParamNode
int_named name = record { ty = ty.Int; name = named name }

-- `sensor int s period 10 init 0`
abbrev pub bulk_sensor : CommNode
bulk_sensor = record { sensor = true; ty = ty.Int; name = named (codes "s"); period = number (pos 10); init = const.Int 0 false (pos 0) }

-- `communicator int ck period 100 init k`
abbrev pub bulk_comm : ℕ → CommNode
bulk_comm k = record { sensor = false; ty = ty.Int; name = comm_named k; period = number (pos 100); init = const.Int 0 false (pos k) }

-- `x * (k + 1) + y`
abbrev pub scaled_sum : ℕ → Expr
scaled_sum k = Infix 0 op.Add (Infix 0 op.Mul (Variable (named (codes "x"))) (Number 0 (pos (suc k)))) (Variable (named (codes "y")))

-- a task with one output, and a worst case of 5 ticks
abbrev pub int_task : Id → List ParamNode → PlainOut → PlainTask
int_task name inputs out = record { name = name; inputs = inputs; outputs = Concrete (out ∷ []); worst = number (pos 5) }

-- `int z = x * (k + 1) + y`
abbrev pub scaled_out : ℕ → PlainOut
scaled_out k = record { param = int_named (codes "z"); first = 0; value = scaled_sum k }

-- `task a input (int x, int y) output (int z = x * (k + 1) + y) worst 5`
abbrev pub scaling_task : ℕ → PlainTask
scaling_task k = int_task (named (codes "a")) (int_named (codes "x") ∷ int_named (codes "y") ∷ []) (scaled_out k)

-- `x`
abbrev pub copied : Expr
copied = Variable (named (codes "x"))

-- `int y = x`
abbrev pub copied_out : PlainOut
copied_out = record { param = int_named (codes "y"); first = 0; value = copied }

-- `task b input (int x) output (int y = x) worst 5`
abbrev pub copying_task : PlainTask
copying_task = int_task (named (codes "b")) (int_named (codes "x") ∷ []) copied_out

-- the module before module k of n; the last is the one before the first
abbrev pub one_before : ℕ → ℕ → ℕ
one_before n zero = n - 1
one_before n (suc k) = k

abbrev pub instance_of : Id → ℕ → EndNode
instance_of id n = end.Comm id (number (pos n))

-- `invoke a input ((s, 0), (cj, 0)) output (p)`
abbrev pub scaling_invoke : ℕ → ℕ → InvokeNode
scaling_invoke n k =
    record {
      task = named (codes "a");
      reads = instance_of (named (codes "s")) 0 ∷ instance_of (comm_named (one_before n k)) 0 ∷ [];
      writes = end.Port (named (codes "p")) ∷ [];
      parent = None;
    }

-- `invoke b input (p) output ((ck, 10))`
abbrev pub copying_invoke : ℕ → InvokeNode
copying_invoke k =
    record {
      task = named (codes "b");
      reads = end.Port (named (codes "p")) ∷ [];
      writes = instance_of (comm_named k) 10 ∷ [];
      parent = None;
    }

-- `mode m period 1000`, in which the one hands its sum to the other by a port
abbrev pub bulk_mode : ℕ → ℕ → PlainMode
bulk_mode n k =
    record {
      name = named (codes "m");
      period = number (pos 1000);
      program = None;
      ports = int_named (codes "p") ∷ [];
      invokes = scaling_invoke n k ∷ copying_invoke k ∷ [];
      switches = [];
    }

-- `module Mk start m`
abbrev pub bulk_module : ℕ → ℕ → PlainModule
bulk_module n k =
    record { name = module_named k; start = named (codes "m"); tasks = scaling_task k ∷ copying_task ∷ []; modes = bulk_mode n k ∷ [] }

-- the program with n modules
abbrev pub bulk_tree : ℕ → List PlainProgram
bulk_tree n =
    record { name = named (codes "Bulk"); comms = bulk_sensor ∷ list_to bulk_comm n; modules = list_to (bulk_module n) n } ∷ []

-- its source
abbrev pub bulk_bytes : ℕ → List ℕ
bulk_bytes n = printed_bytes (source_tokens (bulk_tree n))
