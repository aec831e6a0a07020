-- Trees without the numbers of their tokens: each is 0.
use Rattle.std.specs.Prelude.{◌≡◌, Option, None, Some, List, map}
use Rattle.htl_text.specs.{Expressions.Expr, Expressions.Number, Expressions.Flag, Expressions.Variable, Expressions.Prefix, Expressions.Infix, Expressions.Choice, declared.tree.Id.Id, declared.tree.Num.Num, declared.tree.CommNode.CommNode}
use Rattle.htl_text.specs.{Nodes.PlainOut, Nodes.PlainOuts, Nodes.Concrete, Nodes.Abstract, Nodes.PlainTask, Nodes.PlainSwitch, Nodes.PlainMode, Nodes.PlainModule, Nodes.PlainProgram, declared.tree.ParamNode.ParamNode}
use Rattle.htl_text.specs.{declared.tree.ConstNode.ConstNode, declared.tree.EndNode.EndNode, declared.tree.InvokeNode.InvokeNode}
use Rattle.htl_text.specs.declared.tree.ConstNode.TheVariants as const
use Rattle.htl_text.specs.declared.tree.EndNode.TheVariants as end

abbrev pub bare_id : Id → Id
bare_id id = record { name = id.name; token = 0 }

abbrev pub bare_num : Num → Num
bare_num n = record { x = n.x; token = 0 }

abbrev pub bare_expr : Expr → Expr
bare_expr (Number k x) = Number 0 x
bare_expr (Flag k x) = Flag 0 x
bare_expr (Variable id) = Variable (bare_id id)
bare_expr (Prefix k op e) = Prefix 0 op (bare_expr e)
bare_expr (Infix k op l r) = Infix 0 op (bare_expr l) (bare_expr r)
bare_expr (Choice k c a b) = Choice 0 (bare_expr c) (bare_expr a) (bare_expr b)

abbrev pub bare_const : ConstNode → ConstNode
bare_const (const.Int k minus x) = const.Int 0 minus x
bare_const (const.Bool k x) = const.Bool 0 x

abbrev pub bare_comm : CommNode → CommNode
bare_comm c = record { sensor = c.sensor; ty = c.ty; name = bare_id c.name; period = bare_num c.period; init = bare_const c.init }

abbrev pub bare_param : ParamNode → ParamNode
bare_param p = record { ty = p.ty; name = bare_id p.name }

abbrev pub bare_out : PlainOut → PlainOut
bare_out o = record { param = bare_param o.param; first = 0; value = bare_expr o.value }

abbrev pub bare_outs : PlainOuts → PlainOuts
bare_outs (Concrete os) = Concrete (map bare_out os)
bare_outs (Abstract os) = Abstract (map bare_param os)

abbrev pub bare_task : PlainTask → PlainTask
bare_task t = record { name = bare_id t.name; inputs = map bare_param t.inputs; outputs = bare_outs t.outputs; worst = bare_num t.worst }

abbrev pub bare_end : EndNode → EndNode
bare_end (end.Comm id instance) = end.Comm (bare_id id) (bare_num instance)
bare_end (end.Port id) = end.Port (bare_id id)

abbrev pub bare_clause : Option Id → Option Id
bare_clause None = None
bare_clause (Some id) = Some (bare_id id)

abbrev pub bare_invoke : InvokeNode → InvokeNode
bare_invoke i = record { task = bare_id i.task; reads = map bare_end i.reads; writes = map bare_end i.writes; parent = bare_clause i.parent }

abbrev pub bare_switch : PlainSwitch → PlainSwitch
bare_switch s = record { first = 0; cond = bare_expr s.cond; target = bare_id s.target }

abbrev pub bare_mode : PlainMode → PlainMode
bare_mode m = record {
  name = bare_id m.name;
  period = bare_num m.period;
  program = bare_clause m.program;
  ports = map bare_param m.ports;
  invokes = map bare_invoke m.invokes;
  switches = map bare_switch m.switches;
}

abbrev pub bare_module : PlainModule → PlainModule
bare_module m = record { name = bare_id m.name; start = bare_id m.start; tasks = map bare_task m.tasks; modes = map bare_mode m.modes }

abbrev pub bare_program : PlainProgram → PlainProgram
bare_program p = record { name = bare_id p.name; comms = map bare_comm p.comms; modules = map bare_module p.modules }

-- two trees that differ in the numbers of their tokens alone
abbrev pub AreAlike : List PlainProgram → List PlainProgram → Type 0
AreAlike t u = map bare_program t ≡ map bare_program u
