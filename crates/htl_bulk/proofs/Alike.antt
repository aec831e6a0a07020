-- A tree is what it is without the numbers of its tokens, with these numbers put in.
use Rattle.std.proofs.Common.{◌≡◌, ℕ, List, [], ◌∷◌, Option, Some, None, refl, sym, ap, ap₂, ◌∙◌, map}
use Rattle.htl_bulk.proofs.Words.{Abstract, AreAlike, Choice, CommNode, Concrete, ConstNode, EndNode, Expr, Flag, Id, Infix, InvokeNode, Num, Number, ParamNode, PlainMode, PlainModule, PlainOut, PlainOuts, PlainProgram, PlainSwitch, PlainTask, Prefix, Variable, bare_clause, bare_comm, bare_const, bare_end, bare_expr, bare_invoke, bare_mode, bare_module, bare_out, bare_outs, bare_param, bare_program, bare_switch, bare_task}
use Rattle.htl_text.specs.declared.tree.ConstNode.TheVariants as const
use Rattle.htl_text.specs.declared.tree.EndNode.TheVariants as end

-- ---- lists

abbrev first_or : {X : Type 0} → X → List X → X
first_or d [] = d
first_or d (x ∷ xs) = x

abbrev rest_of : {X : Type 0} → List X → List X
rest_of [] = []
rest_of (x ∷ xs) = xs

-- `put b x` is b with the tokens of x; its shape is that of b, so that it computes where x is unknown
abbrev put_list : {X : Type 0} → (X → X → X) → List X → List X → List X
put_list put [] xs = []
put_list put (b ∷ bs) xs = put b (first_or b xs) ∷ put_list put bs (rest_of xs)

list-own : {X : Type 0} (bare : X → X) (put : X → X → X) → ((x : X) → put (bare x) x ≡ x) → (xs : List X) → put_list put (map bare xs) xs ≡ xs
list-own bare put own [] = refl
list-own bare put own (x ∷ xs) = ap₂ (λ y ys. y ∷ ys) (own x) (list-own bare put own xs)

-- ---- names, numbers and expressions

abbrev put_id : Id → Id → Id
put_id b x = record { name = b.name; token = x.token }

abbrev put_num : Num → Num → Num
put_num b x = record { x = b.x; token = x.token }

abbrev id_or : Id → Option Id → Id
id_or d (Some id) = id
id_or d None = d

abbrev put_clause : Option Id → Option Id → Option Id
put_clause None x = None
put_clause (Some b) x = Some (put_id b (id_or b x))

clause-own : (x : Option Id) → put_clause (bare_clause x) x ≡ x
clause-own None = refl
clause-own (Some id) = refl

abbrev const_token : ConstNode → ℕ
const_token (const.Int k m x) = k
const_token (const.Bool k x) = k

abbrev put_const : ConstNode → ConstNode → ConstNode
put_const (const.Int k m b) x = const.Int (const_token x) m b
put_const (const.Bool k b) x = const.Bool (const_token x) b

const-own : (x : ConstNode) → put_const (bare_const x) x ≡ x
const-own (const.Int k m x) = refl
const-own (const.Bool k x) = refl

abbrev expr_token : Expr → ℕ
expr_token (Number k x) = k
expr_token (Flag k x) = k
expr_token (Variable id) = 0
expr_token (Prefix k op e) = k
expr_token (Infix k op l r) = k
expr_token (Choice k c a b) = k

abbrev expr_id : Id → Expr → Id
expr_id d (Variable id) = id
expr_id d _ = d

abbrev first_part : Expr → Expr
first_part (Prefix k op e) = e
first_part (Infix k op l r) = l
first_part (Choice k c a b) = c
first_part e = e

abbrev second_part : Expr → Expr
second_part (Infix k op l r) = r
second_part (Choice k c a b) = a
second_part e = e

abbrev third_part : Expr → Expr
third_part (Choice k c a b) = b
third_part e = e

abbrev put_expr : Expr → Expr → Expr
put_expr (Number k b) x = Number (expr_token x) b
put_expr (Flag k b) x = Flag (expr_token x) b
put_expr (Variable id) x = Variable (put_id id (expr_id id x))
put_expr (Prefix k op e) x = Prefix (expr_token x) op (put_expr e (first_part x))
put_expr (Infix k op l r) x = Infix (expr_token x) op (put_expr l (first_part x)) (put_expr r (second_part x))
put_expr (Choice k c a b) x = Choice (expr_token x) (put_expr c (first_part x)) (put_expr a (second_part x)) (put_expr b (third_part x))

expr-own : (x : Expr) → put_expr (bare_expr x) x ≡ x
expr-own (Number k x) = refl
expr-own (Flag k x) = refl
expr-own (Variable id) = refl
expr-own (Prefix k op e) = ap (Prefix k op) (expr-own e)
expr-own (Infix k op l r) = ap₂ (Infix k op) (expr-own l) (expr-own r)
expr-own (Choice k c a b) = ap (λ y. Choice k y (put_expr (bare_expr a) a) (put_expr (bare_expr b) b)) (expr-own c) ∙ ap₂ (Choice k c) (expr-own a) (expr-own b)

-- ---- communicators and tasks

abbrev put_comm : CommNode → CommNode → CommNode
put_comm b x = record { sensor = b.sensor; ty = b.ty; name = put_id b.name x.name; period = put_num b.period x.period; init = put_const b.init x.init }

comm-own : (x : CommNode) → put_comm (bare_comm x) x ≡ x
comm-own x = ap (λ i. record x { init = i }) (const-own x.init)

abbrev put_param : ParamNode → ParamNode → ParamNode
put_param b x = record { ty = b.ty; name = put_id b.name x.name }

abbrev put_out : PlainOut → PlainOut → PlainOut
put_out b x = record { param = put_param b.param x.param; first = x.first; value = put_expr b.value x.value }

out-own : (x : PlainOut) → put_out (bare_out x) x ≡ x
out-own x = ap (λ v. record x { value = v }) (expr-own x.value)

abbrev outs_in : PlainOuts → List PlainOut
outs_in (Concrete os) = os
outs_in (Abstract ps) = []

abbrev params_in : PlainOuts → List ParamNode
params_in (Concrete os) = []
params_in (Abstract ps) = ps

abbrev put_outs : PlainOuts → PlainOuts → PlainOuts
put_outs (Concrete bs) x = Concrete (put_list put_out bs (outs_in x))
put_outs (Abstract bs) x = Abstract (put_list put_param bs (params_in x))

outs-own : (x : PlainOuts) → put_outs (bare_outs x) x ≡ x
outs-own (Concrete os) = ap Concrete (list-own bare_out put_out out-own os)
outs-own (Abstract ps) = ap Abstract (list-own bare_param put_param (λ p. refl) ps)

abbrev put_task : PlainTask → PlainTask → PlainTask
put_task b x = record { name = put_id b.name x.name; inputs = put_list put_param b.inputs x.inputs; outputs = put_outs b.outputs x.outputs; worst = put_num b.worst x.worst }

task-own : (x : PlainTask) → put_task (bare_task x) x ≡ x
task-own x = ap₂ (λ is os. record x { inputs = is; outputs = os }) (list-own bare_param put_param (λ p. refl) x.inputs) (outs-own x.outputs)

-- ---- modes, modules and programs

abbrev end_id : EndNode → Id
end_id (end.Comm id n) = id
end_id (end.Port id) = id

abbrev end_num : Num → EndNode → Num
end_num d (end.Comm id n) = n
end_num d (end.Port id) = d

abbrev put_end : EndNode → EndNode → EndNode
put_end (end.Comm id n) x = end.Comm (put_id id (end_id x)) (put_num n (end_num n x))
put_end (end.Port id) x = end.Port (put_id id (end_id x))

end-own : (x : EndNode) → put_end (bare_end x) x ≡ x
end-own (end.Comm id n) = refl
end-own (end.Port id) = refl

abbrev put_invoke : InvokeNode → InvokeNode → InvokeNode
put_invoke b x = record { task = put_id b.task x.task; reads = put_list put_end b.reads x.reads; writes = put_list put_end b.writes x.writes; parent = put_clause b.parent x.parent }

invoke-own : (x : InvokeNode) → put_invoke (bare_invoke x) x ≡ x
invoke-own x =
    ap₂ (λ rs ws. record { task = x.task; reads = rs; writes = ws; parent = put_clause (bare_clause x.parent) x.parent }) (list-own bare_end put_end end-own x.reads) (list-own bare_end put_end end-own x.writes)
    ∙ ap (λ p. record x { parent = p }) (clause-own x.parent)

abbrev put_switch : PlainSwitch → PlainSwitch → PlainSwitch
put_switch b x = record { first = x.first; cond = put_expr b.cond x.cond; target = put_id b.target x.target }

switch-own : (x : PlainSwitch) → put_switch (bare_switch x) x ≡ x
switch-own x = ap (λ c. record x { cond = c }) (expr-own x.cond)

abbrev put_mode : PlainMode → PlainMode → PlainMode
put_mode b x = record {
  name = put_id b.name x.name;
  period = put_num b.period x.period;
  program = put_clause b.program x.program;
  ports = put_list put_param b.ports x.ports;
  invokes = put_list put_invoke b.invokes x.invokes;
  switches = put_list put_switch b.switches x.switches;
}

mode-own : (x : PlainMode) → put_mode (bare_mode x) x ≡ x
mode-own x =
    ap₂ (λ c ps. record { name = x.name; period = x.period; program = c; ports = ps; invokes = put_list put_invoke (map bare_invoke x.invokes) x.invokes; switches = put_list put_switch (map bare_switch x.switches) x.switches })
    (clause-own x.program) (list-own bare_param put_param (λ p. refl) x.ports)
    ∙ ap₂ (λ is ss. record x { invokes = is; switches = ss }) (list-own bare_invoke put_invoke invoke-own x.invokes) (list-own bare_switch put_switch switch-own x.switches)

abbrev put_module : PlainModule → PlainModule → PlainModule
put_module b x = record { name = put_id b.name x.name; start = put_id b.start x.start; tasks = put_list put_task b.tasks x.tasks; modes = put_list put_mode b.modes x.modes }

module-own : (x : PlainModule) → put_module (bare_module x) x ≡ x
module-own x = ap₂ (λ ts ms. record x { tasks = ts; modes = ms }) (list-own bare_task put_task task-own x.tasks) (list-own bare_mode put_mode mode-own x.modes)

abbrev put_program : PlainProgram → PlainProgram → PlainProgram
put_program b x = record { name = put_id b.name x.name; comms = put_list put_comm b.comms x.comms; modules = put_list put_module b.modules x.modules }

program-own : (x : PlainProgram) → put_program (bare_program x) x ≡ x
program-own x = ap₂ (λ cs ms. record x { comms = cs; modules = ms }) (list-own bare_comm put_comm comm-own x.comms) (list-own bare_module put_module module-own x.modules)

-- the known tree with the tokens of another
abbrev pub like_tree : List PlainProgram → List PlainProgram → List PlainProgram
like_tree ss xs = put_list put_program (map bare_program ss) xs

pub alike : (ss xs : List PlainProgram) → AreAlike xs ss → like_tree ss xs ≡ xs
alike ss xs e = ap (λ bs. put_list put_program bs xs) (sym e) ∙ list-own bare_program put_program program-own xs
