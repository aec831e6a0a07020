-- Small tables, compiled and built by hand.
use Rattle.std.proofs.Common.{◌≡◌, false, [], ◌∷◌, ◌++◌, pos, codes as text, refl}
use Rattle.htl_compile.proofs.Words.{IntTy, BoolTy, Mul, Lt, unplanned_of, unbuilt_of, built, code_of, coded, IsFaultOf, Overload, output_type, Term, Number, Arg, Binary, Tables, Formula, Compiled, Comm, Switch, Task, object_bytes}
use Rattle.htl_compile.specs.declared.compiling.CompileFault.TheVariants as compile
use Rattle.htl_func.specs.declared.compiler.FnFault.TheVariants as fn_fault
use Rattle.htl_model.specs.declared.function.FInstr.TheVariants as I

-- x * 2, whose first token is 9
doubling : Term
doubling = Binary 10 Mul (Arg 9 0) (Number 11 (pos 2))

-- u < 5, whose first token is 20
low : Term
low = Binary 21 Lt (Arg 20 0) (Number 22 (pos 5))

code_of_doubling : code_of (output_type (IntTy ∷ []) IntTy) (Formula 9 doubling)
    ≡ Compiled (record { args = IntTy ∷ []; want = IntTy; instrs = I.Arg 0 ∷ I.Int (pos 2) ∷ I.Mul ∷ [] })
unfolding doubling
code_of_doubling = refl

-- ---- tables with a task and a switch

u : Comm
u = record { name = text "u"; ty = IntTy; sensor = false; period = 10; init = pos 7 }

double : Task
double = record { name = text "t"; «module» = 0; is_abstract = false; worst = 4; inputs = IntTy ∷ []; outputs = IntTy ∷ [] }

when_low : Switch
when_low = record { mode = 0; target = 0; reads = 0 ∷ [] }

small : Tables
small =
    record {
      comms = u ∷ [];
      modes = [];
      modules = [];
      ports = [];
      tasks = double ∷ [];
      invs = [];
      switches = when_low ∷ [];
      functions = Formula 9 doubling ∷ Formula 20 low ∷ [];
    }

-- the task's function, and then the switch's
both_coded : (coded small).functions
    ≡ Compiled (record { args = IntTy ∷ []; want = IntTy; instrs = I.Arg 0 ∷ I.Int (pos 2) ∷ I.Mul ∷ [] })
    ∷ Compiled (record { args = IntTy ∷ []; want = BoolTy; instrs = I.Arg 0 ∷ I.Int (pos 5) ∷ I.Lt ∷ [] }) ∷ []
unfolding small double when_low u doubling low
both_coded = refl

-- ---- faults

-- a comparison in the place of an int is told at its first token
told_at_first : IsFaultOf (output_type (IntTy ∷ []) IntTy) (Formula 20 low) (fn_fault.IllTyped 20)
unfolding low
told_at_first = refl

-- a product of bools is told at its operator
told_at_operator : IsFaultOf (output_type (BoolTy ∷ []) IntTy) (Formula 9 doubling) (fn_fault.IllTyped 10)
unfolding doubling
told_at_operator = refl

overload_told : unbuilt_of (unplanned_of (Overload 3 0 10 11)) ≡ compile.Unschedulable 3 0 10 11
overload_told = refl

-- ---- an object

-- one communicator and no module
alone : Tables
alone = record { comms = u ∷ []; modes = []; modules = []; ports = []; tasks = []; invs = []; switches = []; functions = [] }

no_code : (built alone).ecode.instrs ≡ []
unfolding alone
no_code = refl

no_schedule : (built alone).schedules ≡ []
unfolding alone
no_schedule = refl

bytes_alone : object_bytes (built alone)
    ≡ text "HTLO" ++ (0 ∷ 1 ∷ 0 ∷ 1 ∷ 0 ∷ 0 ∷ 0 ∷ 0 ∷ 0 ∷ 0 ∷ 0 ∷ 0 ∷ 0 ∷ 0 ∷ 0 ∷ 0 ∷ 1 ∷ 117 ∷ 0 ∷ 0 ∷ 0 ∷ 0 ∷ 0 ∷ 10 ∷ 0 ∷ 0 ∷ 0 ∷ 0 ∷ 0 ∷ 0 ∷ 0 ∷ 7 ∷ 0 ∷ 0 ∷ 0 ∷ 0 ∷ 0 ∷ 0 ∷ [])
unfolding alone u
bytes_alone = refl
