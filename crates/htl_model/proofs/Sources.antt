-- The worked examples as tables.
use Rattle.std.specs.Prelude.{ℕ, Bool, true, false, List, [], ◌∷◌, Option, Some, None, ℤ, pos, codes}
use Rattle.htl_model.proofs.Words.{Ty, IntTy, BoolTy, Not, Add, Sub, Mul, Div, Lt, Gt, Ge, Comm, Mode, Module, Task, Inv, Switch, End, Term, Number, Arg, Unary, Binary, Choose, Tables, Fun, Formula}
use Rattle.htl_model.specs.declared.parts.End.TheVariants as E

abbrev pub plain : List ℕ → ℕ → ℤ → Comm
plain n p x = record { name = n; ty = IntTy; sensor = false; period = p; init = x }

abbrev pub sensor : List ℕ → Ty → ℕ → Comm
sensor n t p = record { name = n; ty = t; sensor = true; period = p; init = pos 0 }

abbrev pub mode : List ℕ → ℕ → ℕ → Mode
mode n m p = record { name = n; «module» = m; period = p }

abbrev pub module_named : List ℕ → Option ℕ → ℕ → Module
module_named n parent s = record { name = n; parent = parent; start = s }

abbrev pub task : List ℕ → ℕ → Bool → ℕ → List Ty → Task
task n m a w ins = record { name = n; «module» = m; is_abstract = a; worst = w; inputs = ins; outputs = IntTy ∷ [] }

abbrev pub call : ℕ → ℕ → Option ℕ → List End → List End → Inv
call m k parent reads writes = record { mode = m; task = k; parent = parent; reads = reads; writes = writes }

abbrev pub switch : ℕ → ℕ → ℕ → Switch
switch m to c = record { mode = m; target = to; reads = c ∷ [] }

abbrev pub formula : Term → Fun
formula e = Formula 0 e

abbrev pub int_one : List Ty
int_one = IntTy ∷ []

-- one sensor, one communicator, one module of an empty mode
abbrev pub empty_mode : Tables
empty_mode =
    record {
      comms = sensor (codes "s") IntTy 10 ∷ plain (codes "u") 10 (pos 7) ∷ [];
      modes = mode (codes "m") 0 20 ∷ [];
      modules = module_named (codes "M") None 0 ∷ [];
      ports = [];
      tasks = [];
      invs = [];
      switches = [];
      functions = [];
    }

-- a task that doubles what a sensor shows
abbrev pub doubling : Tables
doubling =
    record {
      comms = sensor (codes "s") IntTy 10 ∷ plain (codes "u") 10 (pos 7) ∷ [];
      modes = mode (codes "m") 0 20 ∷ [];
      modules = module_named (codes "M") None 0 ∷ [];
      ports = [];
      tasks = task (codes "dbl") 0 false 4 int_one ∷ [];
      invs = call 0 0 None (E.Comm 0 0 ∷ []) (E.Comm 1 1 ∷ []) ∷ [];
      switches = [];
      functions = formula (Binary 0 Mul (Arg 0 0) (Number 0 (pos 2))) ∷ [];
    }

-- two invocations, the window of the second within that of the first
abbrev pub preempted : Tables
preempted =
    record {
      comms = plain (codes "x") 2 (pos 1) ∷ plain (codes "y") 2 (pos 0) ∷ plain (codes "z") 10 (pos 0) ∷ [];
      modes = mode (codes "m") 0 10 ∷ [];
      modules = module_named (codes "M") None 0 ∷ [];
      ports = [];
      tasks = task (codes "a") 0 false 7 int_one ∷ task (codes "b") 0 false 3 int_one ∷ [];
      invs = call 0 0 None (E.Comm 0 0 ∷ []) (E.Comm 2 1 ∷ []) ∷ call 0 1 None (E.Comm 0 1 ∷ []) (E.Comm 1 3 ∷ []) ∷ [];
      switches = [];
      functions = formula (Binary 0 Add (Arg 0 0) (Number 0 (pos 1))) ∷ formula (Binary 0 Mul (Arg 0 0) (Number 0 (pos 5))) ∷ [];
    }

-- an invocation reads a port that another writes
abbrev pub ports : Tables
ports =
    record {
      comms = plain (codes "x") 10 (pos 2) ∷ plain (codes "u") 10 (pos 0) ∷ [];
      modes = mode (codes "m") 0 10 ∷ [];
      modules = module_named (codes "M") None 0 ∷ [];
      ports = record { name = []; mode = 0; ty = IntTy } ∷ [];
      tasks = task (codes "p") 0 false 3 int_one ∷ task (codes "q") 0 false 4 int_one ∷ [];
      invs = call 0 1 None (E.Port 0 ∷ []) (E.Comm 1 1 ∷ []) ∷ call 0 0 None (E.Comm 0 0 ∷ []) (E.Port 0 ∷ []) ∷ [];
      switches = [];
      functions = formula (Binary 0 Add (Arg 0 0) (Number 0 (pos 5))) ∷ formula (Binary 0 Mul (Arg 0 0) (Number 0 (pos 2))) ∷ [];
    }

-- an abstract invocation, and a refinement whose modes `off` and `on` leave it out or stand for it
abbrev pub refined : Tables
refined =
    record {
      comms = plain (codes "u") 10 (pos 3) ∷ plain (codes "w") 10 (pos 0) ∷ sensor (codes "g") BoolTy 10 ∷ [];
      modes = mode (codes "m") 0 10 ∷ mode (codes "off") 1 10 ∷ mode (codes "on") 1 10 ∷ [];
      modules = module_named (codes "M") None 0 ∷ module_named (codes "N") (Some 0) 1 ∷ [];
      ports = [];
      tasks = task (codes "plan") 0 true 4 int_one ∷ task (codes "fix") 0 false 2 int_one ∷ task (codes "fast") 1 false 3 int_one ∷ [];
      invs = call 0 0 None (E.Comm 1 0 ∷ []) (E.Comm 0 1 ∷ [])
          ∷ call 0 1 None (E.Comm 1 0 ∷ []) (E.Comm 1 1 ∷ [])
          ∷ call 2 2 (Some 0) (E.Comm 1 0 ∷ []) (E.Comm 0 1 ∷ []) ∷ [];
      switches = switch 1 2 2 ∷ switch 2 1 2 ∷ [];
      functions = formula (Binary 0 Add (Arg 0 0) (Number 0 (pos 1)))
          ∷ formula (Binary 0 Mul (Arg 0 0) (Number 0 (pos 10)))
          ∷ formula (Arg 0 0) ∷ formula (Unary 0 Not (Arg 0 0)) ∷ [];
    }

-- a refined mode, and one that isn't; the switch of the refined mode goes to mode `to`: 1 leaves it, 0 is itself
abbrev pub reentered : ℕ → Tables
reentered to =
    record {
      comms = sensor (codes "g") BoolTy 10 ∷ plain (codes "u") 10 (pos 0) ∷ [];
      modes = mode (codes "m") 0 10 ∷ mode (codes "rest") 0 10 ∷ mode (codes "one") 1 10 ∷ mode (codes "two") 1 10 ∷ [];
      modules = module_named (codes "M") None 0 ∷ module_named (codes "N") (Some 0) 2 ∷ [];
      ports = [];
      tasks = task (codes "plan") 0 true 4 [] ∷ task (codes "f") 1 false 3 int_one ∷ task (codes "h") 1 false 4 int_one ∷ [];
      invs = call 0 0 None [] (E.Comm 1 1 ∷ [])
          ∷ call 2 1 (Some 0) (E.Comm 1 0 ∷ []) (E.Comm 1 1 ∷ [])
          ∷ call 3 2 (Some 0) (E.Comm 1 0 ∷ []) (E.Comm 1 1 ∷ []) ∷ [];
      switches = switch 0 to 0 ∷ switch 1 0 0 ∷ switch 2 3 1 ∷ [];
      functions = formula (Binary 0 Add (Arg 0 0) (Number 0 (pos 1)))
          ∷ formula (Binary 0 Add (Arg 0 0) (Number 0 (pos 100)))
          ∷ formula (Arg 0 0) ∷ formula (Unary 0 Not (Arg 0 0))
          ∷ formula (Binary 0 Ge (Arg 0 0) (Number 0 (pos 1))) ∷ [];
    }

-- one module of two modes by turns, without refinement
abbrev pub alternating : Tables
alternating =
    record {
      comms = sensor (codes "g") BoolTy 10 ∷ plain (codes "u") 10 (pos 0) ∷ [];
      modes = mode (codes "one") 0 10 ∷ mode (codes "two") 0 10 ∷ [];
      modules = module_named (codes "M") None 0 ∷ [];
      ports = [];
      tasks = task (codes "f") 0 false 3 int_one ∷ task (codes "h") 0 false 4 int_one ∷ [];
      invs = call 0 0 None (E.Comm 1 0 ∷ []) (E.Comm 1 1 ∷ []) ∷ call 1 1 None (E.Comm 1 0 ∷ []) (E.Comm 1 1 ∷ []) ∷ [];
      switches = switch 0 1 0 ∷ switch 1 0 0 ∷ [];
      functions = formula (Binary 0 Add (Arg 0 0) (Number 0 (pos 1)))
          ∷ formula (Binary 0 Add (Arg 0 0) (Number 0 (pos 100)))
          ∷ formula (Arg 0 0) ∷ formula (Unary 0 Not (Arg 0 0)) ∷ [];
    }

-- two tanks: the controller of the first is abstract, and a module of two modes refines it
abbrev pub tanks : Tables
tanks =
    record {
      comms = sensor (codes "h1") IntTy 100 ∷ sensor (codes "h2") IntTy 100 ∷ plain (codes "u1") 100 (pos 0) ∷ plain (codes "u2") 100 (pos 0) ∷ [];
      modes = mode (codes "hold") 0 500 ∷ mode (codes "p") 1 500 ∷ mode (codes "pi") 1 500 ∷ mode (codes "hold") 2 500 ∷ [];
      modules = module_named (codes "T1") None 0 ∷ module_named (codes "C1") (Some 0) 1 ∷ module_named (codes "T2") None 3 ∷ [];
      ports = [];
      tasks = task (codes "ctrl") 0 true 120 int_one ∷ task (codes "prop") 1 false 60 int_one ∷ task (codes "damp") 1 false 110 int_one ∷ task (codes "direct") 2 false 100 int_one ∷ [];
      invs = call 0 0 None (E.Comm 0 1 ∷ []) (E.Comm 2 4 ∷ [])
          ∷ call 1 1 (Some 0) (E.Comm 0 1 ∷ []) (E.Comm 2 4 ∷ [])
          ∷ call 2 2 (Some 0) (E.Comm 0 1 ∷ []) (E.Comm 2 4 ∷ [])
          ∷ call 3 3 None (E.Comm 1 1 ∷ []) (E.Comm 3 4 ∷ []) ∷ [];
      switches = switch 1 2 2 ∷ [];
      functions = formula (Binary 0 Mul (Binary 0 Sub (Number 0 (pos 400)) (Arg 0 0)) (Number 0 (pos 2)))
          ∷ formula (Binary 0 Div (Binary 0 Mul (Binary 0 Sub (Number 0 (pos 400)) (Arg 0 0)) (Number 0 (pos 3))) (Number 0 (pos 2)))
          ∷ formula (Choose 0 (Binary 0 Lt (Arg 0 0) (Number 0 (pos 350))) (Number 0 (pos 100)) (Number 0 (pos 0)))
          ∷ formula (Binary 0 Gt (Arg 0 0) (Number 0 (pos 350))) ∷ [];
    }

-- two modules of periods 10 and 20
abbrev pub two_periods : Tables
two_periods =
    record {
      comms = plain (codes "u") 10 (pos 1) ∷ plain (codes "w") 10 (pos 0) ∷ [];
      modes = mode (codes "m") 0 10 ∷ mode (codes "m") 1 20 ∷ [];
      modules = module_named (codes "F") None 0 ∷ module_named (codes "G") None 1 ∷ [];
      ports = [];
      tasks = task (codes "a") 0 false 3 int_one ∷ task (codes "b") 1 false 9 int_one ∷ [];
      invs = call 0 0 None (E.Comm 0 0 ∷ []) (E.Comm 0 1 ∷ []) ∷ call 1 1 None (E.Comm 0 0 ∷ []) (E.Comm 1 2 ∷ []) ∷ [];
      switches = [];
      functions = formula (Binary 0 Add (Arg 0 0) (Number 0 (pos 1))) ∷ formula (Binary 0 Mul (Arg 0 0) (Number 0 (pos 10))) ∷ [];
    }
