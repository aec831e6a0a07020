-- Worked examples of lines and of the listing.
use Rattle.std.specs.Prelude.{◌≡◌, List, [], ◌∷◌, ◌++◌, Some, None, pos, refl, codes}
use Rattle.std.specs.Fmt.{digits}
use Rattle.htl_base.specs.declared.Ty.TheVariants.{Int as IntTy}
use Rattle.htl_ecode.specs.declared.instr.EInstr.TheVariants as I
use Rattle.htl_ecode.specs.Layout.{layout}
use Rattle.htl_model.specs.declared.function.FInstr.TheVariants as F
use Rattle.htl_model.specs.{declared.line.Line.TheVariants.ValueLine, declared.line.Line.TheVariants.ModeLine, Lines.line_text, Lines.totals_line, Tables.Tables, Tables.Compiled}
use Rattle.htl_model.proofs.Sources.{plain, int_one, doubling, refined}
use Rattle.htl_walk.specs.{declared.schedule.SInstr.TheVariants.Dispatch, declared.schedule.SInstr.TheVariants.Idle, declared.schedule.SInstr.TheVariants.End, declared.schedule.Schedule.Schedule}
use Rattle.htl_console.specs.{Instrs.instr_text, Instrs.step_text, Lines.slice_line, Lines.done_line, Lines.instr_line, Lines.step_line, Lines.plan_line, Listing.listing, Listing.tables_lines}

-- a task that doubles what a sensor shows, its function as code
abbrev doubling_coded : Tables
doubling_coded =
    record doubling {
      functions = Compiled (record { args = int_one; want = IntTy; instrs = F.Arg 0 ∷ F.Int (pos 2) ∷ F.Mul ∷ [] }) ∷ [];
    }

abbrev one_dispatch : List Schedule
one_dispatch = record { instrs = Dispatch 0 4 ∷ End ∷ [] } ∷ []

-- each line of its run up to the second reading
doubling_run : instr_line doubling 0 0 (I.Enter 0)
    ++ instr_line doubling 0 1 (I.Future 10 1 5)
    ++ instr_line doubling 0 2 (I.Future 0 3 7)
    ++ instr_line doubling 0 3 (I.Future 20 2 10)
    ++ instr_line doubling 0 4 I.Return
    ++ instr_line doubling 0 7 (I.CallRead 0 0)
    ++ instr_line doubling 0 8 (I.Release 0)
    ++ instr_line doubling 0 9 I.Return
    ++ line_text doubling (ValueLine 0 0 (pos 3))
    ++ line_text doubling (ValueLine 0 1 (pos 7))
    ++ line_text doubling (ModeLine 0 0 (Some 0))
    ++ slice_line doubling 0 4 0
    ++ done_line doubling 4 0
    ++ step_line 4 0 0 (Dispatch 0 4)
    ++ step_line 4 0 1 End
    ++ instr_line doubling 10 5 (I.CallWrite 0 0)
    ++ instr_line doubling 10 6 I.Return
    ++ line_text doubling (ValueLine 10 0 (pos 5))
    ++ line_text doubling (ValueLine 10 1 (pos 6))
    ++ totals_line 10 1 10 2
    ≡ codes "e 0 0 enter M.m\ne 0 1 future 10 write 5\ne 0 2 future 0 read 7\ne 0 3 future 20 switch 10\ne 0 4 return\ne 0 7 call read M.m.dbl 0\ne 0 8 release M.m.dbl\ne 0 9 return\nv 0 s 3\nv 0 u 7\nm 0 M m\nj 0 4 M.m.dbl\nd 4 M.m.dbl\ns 4 0:0 dispatch 0 until 4\ns 4 0:1 end\ne 10 5 call write M.m.dbl 0\ne 10 6 return\nv 10 s 5\nv 10 u 6\nend 10 jobs 1 e 10 s 2\n"
unfolding digits
doubling_run = refl

-- the totals of a plan, and a module that is inactive
one_round : plan_line 20 1 2 ++ line_text refined (ModeLine 10 1 None) ≡ codes "plan 20 jobs 1 s 2\nm 10 N -\n"
unfolding digits
one_round = refl

-- the other instructions
jumps : instr_text refined (I.JumpIf 1 30) ++ codes ", " ++ instr_text refined (I.IfMode 2 31) ++ codes ", " ++ instr_text refined (I.Fork 1) ++ codes ", "
    ++ instr_text refined I.Leave ++ codes ", " ++ step_text (Idle 7)
    ≡ codes "jumpif 1 30, ifmode N.on 31, fork N, leave, idle until 7"
unfolding digits
jumps = refl

-- items that don't exist
no_such_items : instr_text doubling (I.Release 3) ++ codes ", " ++ instr_text doubling (I.Enter 1) ++ codes ", " ++ instr_text doubling (I.Fork 65535)
    ≡ codes "release 3, enter 1, fork 65535"
unfolding digits
no_such_items = refl

-- one communicator and nothing else
abbrev one_comm : Tables
one_comm =
    record {
      comms = plain (codes "u") 10 (pos 7) ∷ [];
      modes = [];
      modules = [];
      ports = [];
      tasks = [];
      invs = [];
      switches = [];
      functions = [];
    }

one_comm_listed : listing None one_comm (layout one_comm) [] ≡ codes "comm u int period 10 init 7\n"
unfolding digits
one_comm_listed = refl

-- the same, compiled for a platform
platform_listed : listing (Some (codes "fast")) one_comm (layout one_comm) [] ≡ codes "platform fast\ncomm u int period 10 init 7\n"
unfolding digits
platform_listed = refl

doubling_listed : listing None doubling_coded (layout doubling_coded) one_dispatch
    ≡ codes "sensor s int period 10 init 0\ncomm u int period 10 init 7\nmodule M start m\nmode M.m period 20\ninv M.m.dbl worst 4 window 0 10\nfn 0 instrs 3\nE 0 enter M.m\nE 1 future 10 write 5\nE 2 future 0 read 7\nE 3 future 20 switch 10\nE 4 return\nE 5 call write M.m.dbl 0\nE 6 return\nE 7 call read M.m.dbl 0\nE 8 release M.m.dbl\nE 9 return\nE 10 jump 1\nS 0:0 dispatch 0 until 4\nS 0:1 end\n"
unfolding digits
doubling_listed = refl

-- an abstract invocation and its refinement
refined_listed : tables_lines (record refined { functions = [] })
    ≡ codes "comm u int period 10 init 3\ncomm w int period 10 init 0\nsensor g bool period 10 init 0\nmodule M start m\nmodule N start off parent M.m\nmode M.m period 10\nmode N.off period 10\nmode N.on period 10\ninv M.m.plan worst 4 window 0 10 abstract\ninv M.m.fix worst 2 window 0 10\ninv N.on.fast worst 3 window 0 10 parent M.m.plan\n"
unfolding digits
refined_listed = refl
