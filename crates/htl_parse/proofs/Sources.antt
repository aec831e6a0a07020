-- Modes, modules, programs and sources: what is spelled so is read, and leaves less.
use Rattle.std.proofs.Common.{arith, ◌≡◌, ◌<◌, true, false, List, length, Ok, refl}
use Rattle.htl_parse.proofs.Words.{Placed, PlainSwitch, PlainMode, PlainModule, PlainProgram, SpellsComm, SpellsTask, SpellsPort, SpellsInvoke, invoke, SpellsSwitch, switch, SpellsMode, mode, SpellsModule, a_module, SpellsProgram, program, SpellsSource, source, InvokeNode}
use Rattle.htl_parse.specs.ReadingStatements.{begins_comm, comm_at, begins_task, task_at, begins_port, port_at, begins_invoke, invoke_at, begins_switch, switch_at, begins_mode, mode_at, begins_module, module_at, begins_program, program_at, source_at}
use Rattle.htl_parse.proofs.{Basics.clause-complete, Parts.comm-part, Parts.task-part, Parts.port-part, Parts.invoke-part, Parts.switch-part, Parts.clause-shorter}
use Rattle.htl_parse.proofs.Repeating.{IsPart, repeated-complete, each-front, each-shorter}
use Rattle.htl_text.specs.declared.token.Word.TheVariants as word

port-invoke : (ts : List Placed) (i : InvokeNode) (rest : List Placed) → SpellsInvoke ts i rest → begins_port ts ≡ false
port-invoke ts i rest (invoke sr sw sp) = refl

port-switch : (ts : List Placed) (s : PlainSwitch) (rest : List Placed) → SpellsSwitch ts s rest → begins_port ts ≡ false
port-switch ts i rest (switch se) = refl

invoke-switch : (ts : List Placed) (s : PlainSwitch) (rest : List Placed) → SpellsSwitch ts s rest → begins_invoke ts ≡ false
invoke-switch ts i rest (switch se) = refl

mode-complete : (ts : List Placed) (m : PlainMode) (rest : List Placed) → SpellsMode ts m rest → mode_at ts ≡ Ok (m, rest)
unfolding mode_at
mode-complete ts m rest (mode sr sp si ss) =
    rw (
      clause-complete word.Program sr tt,
      repeated-complete SpellsPort begins_port port_at port-part sp (each-front SpellsInvoke begins_invoke invoke_at begins_port port-invoke si (each-front SpellsSwitch begins_switch switch_at begins_port port-switch ss refl)),
      repeated-complete SpellsInvoke begins_invoke invoke_at invoke-part si (each-front SpellsSwitch begins_switch switch_at begins_invoke invoke-switch ss refl),
      repeated-complete SpellsSwitch begins_switch switch_at switch-part ss refl,
    )

mode-shorter : (ts : List Placed) (m : PlainMode) (rest : List Placed) → SpellsMode ts m rest → length rest < length ts
mode-shorter ts m rest (mode sr sp si ss) =
    omega (arith, clause-shorter sr, each-shorter SpellsPort begins_port port_at port-part.shorter sp, each-shorter SpellsInvoke begins_invoke invoke_at invoke-part.shorter si, each-shorter SpellsSwitch begins_switch switch_at switch-part.shorter ss)

mode-starts : (ts : List Placed) (m : PlainMode) (rest : List Placed) → SpellsMode ts m rest → begins_mode ts ≡ true
mode-starts ts m rest (mode sr sp si ss) = refl

pub mode-part : IsPart SpellsMode begins_mode mode_at
mode-part = record { shorter = mode-shorter; complete = mode-complete; starts = mode-starts }

task-mode : (ts : List Placed) (m : PlainMode) (rest : List Placed) → SpellsMode ts m rest → begins_task ts ≡ false
task-mode ts m rest (mode sr sp si ss) = refl

module-complete : (ts : List Placed) (m : PlainModule) (rest : List Placed) → SpellsModule ts m rest → module_at ts ≡ Ok (m, rest)
unfolding module_at
module-complete ts m rest (a_module st sm) =
    rw (repeated-complete SpellsTask begins_task task_at task-part st (each-front SpellsMode begins_mode mode_at begins_task task-mode sm refl), repeated-complete SpellsMode begins_mode mode_at mode-part sm refl)

module-shorter : (ts : List Placed) (m : PlainModule) (rest : List Placed) → SpellsModule ts m rest → length rest < length ts
module-shorter ts m rest (a_module st sm) =
    omega (arith, each-shorter SpellsTask begins_task task_at task-part.shorter st, each-shorter SpellsMode begins_mode mode_at mode-shorter sm)

module-starts : (ts : List Placed) (m : PlainModule) (rest : List Placed) → SpellsModule ts m rest → begins_module ts ≡ true
module-starts ts m rest (a_module st sm) = refl

pub module-part : IsPart SpellsModule begins_module module_at
module-part = record { shorter = module-shorter; complete = module-complete; starts = module-starts }

comm-module : (ts : List Placed) (m : PlainModule) (rest : List Placed) → SpellsModule ts m rest → begins_comm ts ≡ false
comm-module ts m rest (a_module st sm) = refl

program-complete : (ts : List Placed) (p : PlainProgram) (rest : List Placed) → SpellsProgram ts p rest → program_at ts ≡ Ok (p, rest)
unfolding program_at
program-complete ts p rest (program sc sm) =
    rw (repeated-complete SpellsComm begins_comm comm_at comm-part sc (each-front SpellsModule begins_module module_at begins_comm comm-module sm refl), repeated-complete SpellsModule begins_module module_at module-part sm refl)

program-shorter : (ts : List Placed) (p : PlainProgram) (rest : List Placed) → SpellsProgram ts p rest → length rest < length ts
program-shorter ts p rest (program sc sm) =
    omega (arith, each-shorter SpellsComm begins_comm comm_at comm-part.shorter sc, each-shorter SpellsModule begins_module module_at module-shorter sm)

program-starts : (ts : List Placed) (p : PlainProgram) (rest : List Placed) → SpellsProgram ts p rest → begins_program ts ≡ true
program-starts ts p rest (program sc sm) = refl

pub program-part : IsPart SpellsProgram begins_program program_at
program-part = record { shorter = program-shorter; complete = program-complete; starts = program-starts }

pub source-complete : {ts : List Placed} {t : List PlainProgram} {rest : List Placed} → SpellsSource ts t rest → begins_program rest ≡ false → source_at ts ≡ Ok (t, rest)
unfolding source_at
source-complete (source {ts} {us} {rest} {p} {ps} sp sps) stop =
    rw (program-complete ts p us sp, repeated-complete SpellsProgram begins_program program_at program-part sps stop)
