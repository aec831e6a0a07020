-- Communicators, tasks, ports, invocations and switches: what is spelled so is read, and leaves less.
use Rattle.std.proofs.Common.{arith, ◌≡◌, ◌<◌, ◌≤◌, true, List, ◌∷◌, length, Option, Ok, refl}
use Rattle.htl_parse.proofs.Words.{Placed, Put, PlainTask, PlainSwitch, SpellsConst, positive, SpellsClause, absent, present, SpellsComm, communicator, sensor, SpellsTask, concrete, abstract_task, SpellsPort, port, SpellsInvoke, invoke, SpellsSwitch, switch, Word, Id, ConstNode, CommNode, ParamNode, InvokeNode}
use Rattle.htl_parse.specs.ReadingStatements.{begins_comm, comm_at, task_by, task_at, begins_task, port_at, begins_port, invoke_at, begins_invoke, switch_at, begins_switch}
use Rattle.htl_parse.proofs.{Basics.type-complete, Basics.const-complete, Basics.clause-complete, Complete.shorter, Repeating.IsPart}
use Rattle.htl_parse.proofs.Statements.{read_expr-complete, type-shorter, param-complete, param-shorter, params-complete, params-shorter, outs-complete, outs-shorter, ends-complete, ends-shorter}
use Rattle.htl_text.specs.declared.token.Token.TheVariants as token
use Rattle.htl_text.specs.declared.token.Sign.TheVariants as sign
use Rattle.htl_text.specs.declared.token.Word.TheVariants as word

pub comm-complete : (ts : List Placed) (c : CommNode) (rest : List Placed) → SpellsComm ts c rest → comm_at ts ≡ Ok (c, rest)
unfolding comm_at
comm-complete ts c rest (communicator st sc) = rw (type-complete st, const-complete sc)
comm-complete ts c rest (sensor st sc) = rw (type-complete st, const-complete sc)

const-shorter : {ts : List Placed} {c : ConstNode} {rest : List Placed} → SpellsConst ts c rest → length rest < length ts
const-shorter positive = omega arith
const-shorter _ = omega arith

comm-shorter : (ts : List Placed) (c : CommNode) (rest : List Placed) → SpellsComm ts c rest → length rest < length ts
comm-shorter ts c rest (communicator st sc) = omega (arith, type-shorter st, const-shorter sc)
comm-shorter ts c rest (sensor st sc) = omega (arith, type-shorter st, const-shorter sc)

comm-starts : (ts : List Placed) (c : CommNode) (rest : List Placed) → SpellsComm ts c rest → begins_comm ts ≡ true
comm-starts ts c rest (communicator st sc) = refl
comm-starts ts c rest (sensor st sc) = refl

pub comm-part : IsPart SpellsComm begins_comm comm_at
comm-part = record { shorter = comm-shorter; complete = comm-complete; starts = comm-starts }

pub task-complete : (ts : List Placed) (t : PlainTask) (rest : List Placed) → SpellsTask ts t rest → task_at ts ≡ Ok (t, rest)
unfolding task_by
task-complete ts t rest (concrete si so) = rw (params-complete si, outs-complete so)
task-complete ts t rest (abstract_task si so) = rw (params-complete si, params-complete so)

task-shorter : (ts : List Placed) (t : PlainTask) (rest : List Placed) → SpellsTask ts t rest → length rest < length ts
task-shorter ts t rest (concrete si so) = omega (arith, params-shorter si, outs-shorter so)
task-shorter ts t rest (abstract_task si so) = omega (arith, params-shorter si, params-shorter so)

task-starts : (ts : List Placed) (t : PlainTask) (rest : List Placed) → SpellsTask ts t rest → begins_task ts ≡ true
task-starts ts t rest (concrete si so) = refl
task-starts ts t rest (abstract_task si so) = refl

pub task-part : IsPart SpellsTask begins_task task_at
task-part = record { shorter = task-shorter; complete = task-complete; starts = task-starts }

port-complete : (ts : List Placed) (p : ParamNode) (rest : List Placed) → SpellsPort ts p rest → port_at ts ≡ Ok (p, rest)
unfolding port_at
port-complete ts p rest (port sp) = rw (param-complete sp)

port-shorter : (ts : List Placed) (p : ParamNode) (rest : List Placed) → SpellsPort ts p rest → length rest < length ts
port-shorter _ _ _ (port {ts} {rest} {p} {k} {s} sp) = omega (arith, param-shorter ts p (Put s (token.Sign sign.Semicolon) ∷ rest) sp)

pub port-starts : (ts : List Placed) (p : ParamNode) (rest : List Placed) → SpellsPort ts p rest → begins_port ts ≡ true
port-starts ts p rest (port sp) = refl

pub port-part : IsPart SpellsPort begins_port port_at
port-part = record { shorter = port-shorter; complete = port-complete; starts = port-starts }

invoke-complete : (ts : List Placed) (i : InvokeNode) (rest : List Placed) → SpellsInvoke ts i rest → invoke_at ts ≡ Ok (i, rest)
unfolding invoke_at
invoke-complete ts i rest (invoke sr sw sp) = rw (ends-complete sr, ends-complete sw, clause-complete word.Parent sp tt)

pub clause-shorter : {w : Word} {ts : List Placed} {o : Option Id} {rest : List Placed} → SpellsClause w ts o rest → length rest ≤ length ts
clause-shorter absent = omega arith
clause-shorter present = omega arith

invoke-shorter : (ts : List Placed) (i : InvokeNode) (rest : List Placed) → SpellsInvoke ts i rest → length rest < length ts
invoke-shorter ts i rest (invoke sr sw sp) = omega (arith, ends-shorter sr, ends-shorter sw, clause-shorter sp)

pub invoke-starts : (ts : List Placed) (i : InvokeNode) (rest : List Placed) → SpellsInvoke ts i rest → begins_invoke ts ≡ true
invoke-starts ts i rest (invoke sr sw sp) = refl

pub invoke-part : IsPart SpellsInvoke begins_invoke invoke_at
invoke-part = record { shorter = invoke-shorter; complete = invoke-complete; starts = invoke-starts }

switch-complete : (ts : List Placed) (s : PlainSwitch) (rest : List Placed) → SpellsSwitch ts s rest → switch_at ts ≡ Ok (s, rest)
unfolding switch_at
switch-complete ts s rest (switch se) = rw (read_expr-complete se (record { product = refl; sum = refl; compare = refl; and = refl; or = refl }))

switch-shorter : (ts : List Placed) (s : PlainSwitch) (rest : List Placed) → SpellsSwitch ts s rest → length rest < length ts
switch-shorter ts s rest (switch se) = omega (arith, shorter se)

pub switch-starts : (ts : List Placed) (s : PlainSwitch) (rest : List Placed) → SpellsSwitch ts s rest → begins_switch ts ≡ true
switch-starts ts s rest (switch se) = refl

pub switch-part : IsPart SpellsSwitch begins_switch switch_at
switch-part = record { shorter = switch-shorter; complete = switch-complete; starts = switch-starts }
