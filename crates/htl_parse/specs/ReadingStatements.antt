-- Reading the statements of a source, from the inside out.
use Rattle.std.specs.Prelude.{Bool, true, false, Ok, Err, List, ◌∷◌}
use Rattle.htl_text.specs.{Placed.Placed, Placed.Put, Nodes.PlainOut, Nodes.PlainOuts, Nodes.Concrete, Nodes.Abstract, Nodes.PlainTask, Nodes.PlainSwitch, Nodes.PlainMode, Nodes.PlainModule, Nodes.PlainProgram}
use Rattle.htl_parse.specs.Reading.{Reader, ◌>>=◌, after_sign, after_word, place_at, name_at, number_at, type_at, const_at, clause_at}
use Rattle.htl_parse.specs.{ReadingExpressions.read_expr, ReadingLists.list_at, ReadingLists.repeated_at}
use Rattle.htl_text.specs.declared.token.Token.TheVariants as token
use Rattle.htl_text.specs.declared.token.Sign.TheVariants as sign
use Rattle.htl_text.specs.declared.token.Word.TheVariants as word
use Rattle.htl_text.specs.{declared.tree.ParamNode.ParamNode, declared.tree.CommNode.CommNode, declared.tree.EndNode.EndNode, declared.tree.InvokeNode.InvokeNode}
use Rattle.htl_text.specs.declared.tree.EndNode.TheVariants as end

unfoldable pub param_at : Reader ParamNode
param_at ts = type_at ts >>= λ t. name_at t.1 >>= λ n. Ok (record { ty = t.0; name = n.0 }, n.1)

unfoldable pub out_at : Reader PlainOut
out_at ts =
    param_at ts >>= λ p. after_sign sign.Assign p.1 >>= λ us. read_expr us >>= λ e. Ok (record { param = p.0; first = place_at us; value = e.0 }, e.1)

-- "communicator", or "sensor", which is true
abbrev pub kind_at : Reader Bool
kind_at (Put k (token.Word word.Communicator) ∷ ts) = Ok (false, ts)
kind_at (Put k (token.Word word.Sensor) ∷ ts) = Ok (true, ts)
kind_at ts = Err ts

-- a communicator begins here
abbrev pub begins_comm : List Placed → Bool
begins_comm (Put k (token.Word word.Communicator) ∷ ts) = true
begins_comm (Put k (token.Word word.Sensor) ∷ ts) = true
begins_comm ts = false

unfoldable pub comm_at : Reader CommNode
comm_at ts =
    kind_at ts >>= λ s. type_at s.1 >>= λ t. name_at t.1 >>= λ n. after_word word.Period n.1 >>= λ us. number_at us >>= λ p. after_word word.Init p.1 >>= λ vs. const_at vs
    >>= λ c. after_sign sign.Semicolon c.1 >>= λ rest. Ok (record { sensor = s.0; ty = t.0; name = n.0; period = p.0; init = c.0 }, rest)

-- "abstract", where it is there, has been read
abbrev pub outputs_at : Bool → Reader PlainOuts
outputs_at false ts = list_at out_at ts >>= λ xs. Ok (Concrete xs.0, xs.1)
outputs_at true ts = list_at param_at ts >>= λ xs. Ok (Abstract xs.0, xs.1)

unfoldable pub task_by : Bool → Reader PlainTask
task_by is_abstract ts =
    after_word word.Task ts >>= λ us. name_at us >>= λ n. after_word word.Input n.1 >>= λ vs. list_at param_at vs >>= λ ins. after_word word.Output ins.1 >>= λ ws. outputs_at is_abstract ws
    >>= λ outs. after_word word.Worst outs.1 >>= λ xs. number_at xs >>= λ w. after_sign sign.Semicolon w.1 >>= λ rest. Ok (record { name = n.0; inputs = ins.0; outputs = outs.0; worst = w.0 }, rest)

abbrev pub task_at : Reader PlainTask
task_at (Put k (token.Word word.Abstract) ∷ ts) = task_by true ts
task_at ts = task_by false ts

-- a task begins here
abbrev pub begins_task : List Placed → Bool
begins_task (Put k (token.Word word.Abstract) ∷ ts) = true
begins_task (Put k (token.Word word.Task) ∷ ts) = true
begins_task ts = false

unfoldable pub port_at : Reader ParamNode
port_at ts = after_word word.Port ts >>= λ us. param_at us >>= λ p. after_sign sign.Semicolon p.1 >>= λ rest. Ok (p.0, rest)

-- a port begins here
abbrev pub begins_port : List Placed → Bool
begins_port (Put k (token.Word word.Port) ∷ ts) = true
begins_port ts = false

-- "(" has been read
unfoldable pub instance_at : Reader EndNode
instance_at ts =
    name_at ts >>= λ n. after_sign sign.Comma n.1 >>= λ us. number_at us >>= λ i. after_sign sign.CloseParen i.1 >>= λ rest. Ok (end.Comm n.0 i.0, rest)

unfoldable pub port_end_at : Reader EndNode
port_end_at ts = name_at ts >>= λ n. Ok (end.Port n.0, n.1)

abbrev pub end_at : Reader EndNode
end_at (Put k (token.Sign sign.OpenParen) ∷ ts) = instance_at ts
end_at ts = port_end_at ts

unfoldable pub invoke_at : Reader InvokeNode
invoke_at ts =
    after_word word.Invoke ts >>= λ us. name_at us >>= λ n. after_word word.Input n.1 >>= λ vs. list_at end_at vs >>= λ reads. after_word word.Output reads.1 >>= λ ws. list_at end_at ws
    >>= λ writes. clause_at word.Parent writes.1 >>= λ p. after_sign sign.Semicolon p.1 >>= λ rest. Ok (record { task = n.0; reads = reads.0; writes = writes.0; parent = p.0 }, rest)

-- an invocation begins here
abbrev pub begins_invoke : List Placed → Bool
begins_invoke (Put k (token.Word word.Invoke) ∷ ts) = true
begins_invoke ts = false

unfoldable pub switch_at : Reader PlainSwitch
switch_at ts =
    after_word word.Switch ts >>= λ us. after_sign sign.OpenParen us >>= λ vs. read_expr vs >>= λ e. after_sign sign.Comma e.1 >>= λ ws. name_at ws >>= λ n. after_sign sign.CloseParen n.1
    >>= λ xs. after_sign sign.Semicolon xs >>= λ rest. Ok (record { first = place_at vs; cond = e.0; target = n.0 }, rest)

-- a switch begins here
abbrev pub begins_switch : List Placed → Bool
begins_switch (Put k (token.Word word.Switch) ∷ ts) = true
begins_switch ts = false

unfoldable pub mode_at : Reader PlainMode
mode_at ts =
    after_word word.Mode ts >>= λ us. name_at us >>= λ n. after_word word.Period n.1 >>= λ vs. number_at vs >>= λ p. clause_at word.Program p.1 >>= λ r. after_sign sign.OpenBrace r.1
    >>= λ ws. repeated_at begins_port port_at ws >>= λ ports. repeated_at begins_invoke invoke_at ports.1 >>= λ invokes. repeated_at begins_switch switch_at invokes.1
    >>= λ switches. after_sign sign.CloseBrace switches.1
    >>= λ rest. Ok (record { name = n.0; period = p.0; program = r.0; ports = ports.0; invokes = invokes.0; switches = switches.0 }, rest)

-- a mode begins here
abbrev pub begins_mode : List Placed → Bool
begins_mode (Put k (token.Word word.Mode) ∷ ts) = true
begins_mode ts = false

unfoldable pub module_at : Reader PlainModule
module_at ts =
    after_word word.Module ts >>= λ us. name_at us >>= λ n. after_word word.Start n.1 >>= λ vs. name_at vs >>= λ s. after_sign sign.OpenBrace s.1 >>= λ ws. repeated_at begins_task task_at ws
    >>= λ tasks. repeated_at begins_mode mode_at tasks.1 >>= λ modes. after_sign sign.CloseBrace modes.1
    >>= λ rest. Ok (record { name = n.0; start = s.0; tasks = tasks.0; modes = modes.0 }, rest)

-- a module begins here
abbrev pub begins_module : List Placed → Bool
begins_module (Put k (token.Word word.Module) ∷ ts) = true
begins_module ts = false

unfoldable pub program_at : Reader PlainProgram
program_at ts =
    after_word word.Program ts >>= λ us. name_at us >>= λ n. after_sign sign.OpenBrace n.1 >>= λ vs. repeated_at begins_comm comm_at vs >>= λ comms. repeated_at begins_module module_at comms.1
    >>= λ modules. after_sign sign.CloseBrace modules.1 >>= λ rest. Ok (record { name = n.0; comms = comms.0; modules = modules.0 }, rest)

-- a program begins here
abbrev pub begins_program : List Placed → Bool
begins_program (Put k (token.Word word.Program) ∷ ts) = true
begins_program ts = false

unfoldable pub source_at : Reader (List PlainProgram)
source_at ts = program_at ts >>= λ p. repeated_at begins_program program_at p.1 >>= λ ps. Ok (p.0 ∷ ps.0, ps.1)
