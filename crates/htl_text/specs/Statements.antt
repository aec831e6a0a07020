-- The grammar of sources: one case for each production. As in Grammar, the tokens ts begin with a spelling
-- of the item, and rest is what follows it.
use Rattle.std.specs.Prelude.{ℕ, ℤ, true, false, Option, Some, None, List, [], ◌∷◌}
use Rattle.htl_base.specs.declared.Ty.{Ty}
use Rattle.htl_base.specs.declared.Ty.TheVariants as ty
use Rattle.htl_text.specs.{Placed.Placed, Placed.Put, Expressions.Expr, Grammar.Spells, Grammar.Or, Nodes.PlainOut, Nodes.Concrete, Nodes.Abstract, Nodes.PlainTask, Nodes.PlainSwitch, Nodes.PlainMode, Nodes.PlainModule, Nodes.PlainProgram}
use Rattle.htl_text.specs.{declared.token.Token.Token, declared.token.Word.Word, declared.tree.Id.Id, declared.tree.ParamNode.ParamNode, declared.tree.ConstNode.ConstNode, declared.tree.CommNode.CommNode, declared.tree.EndNode.EndNode}
use Rattle.htl_text.specs.declared.token.Token.TheVariants as token
use Rattle.htl_text.specs.declared.token.Sign.TheVariants as sign
use Rattle.htl_text.specs.declared.token.Word.TheVariants as word
use Rattle.htl_text.specs.declared.tree.ConstNode.TheVariants as const
use Rattle.htl_text.specs.declared.tree.EndNode.TheVariants as end
use Rattle.htl_text.specs.declared.tree.InvokeNode.{InvokeNode}

-- { "," item }
pub data SpellsMore {X : Type 0} (Item : List Placed → X → List Placed → Type 0) : List Placed → List X → List Placed → Type 0 where
  no_more : {rest : List Placed} → SpellsMore Item rest [] rest
  comma : {ts us rest : List Placed} {x : X} {xs : List X} {k : ℕ}
      → Item ts x us → SpellsMore Item us xs rest → SpellsMore Item (Put k (token.Sign sign.Comma) ∷ ts) (x ∷ xs) rest

-- "(" [ item { "," item } ] ")"
pub data SpellsList {X : Type 0} (Item : List Placed → X → List Placed → Type 0) : List Placed → List X → List Placed → Type 0 where
  empty : {k m : ℕ} {rest : List Placed} → SpellsList Item (Put k (token.Sign sign.OpenParen) ∷ Put m (token.Sign sign.CloseParen) ∷ rest) [] rest
  items : {ts us rest : List Placed} {x : X} {xs : List X} {k m : ℕ}
      → Item ts x us → SpellsMore Item us xs (Put m (token.Sign sign.CloseParen) ∷ rest)
      → SpellsList Item (Put k (token.Sign sign.OpenParen) ∷ ts) (x ∷ xs) rest

-- { item }
pub data SpellsEach {X : Type 0} (Item : List Placed → X → List Placed → Type 0) : List Placed → List X → List Placed → Type 0 where
  no_other : {rest : List Placed} → SpellsEach Item rest [] rest
  another : {ts us rest : List Placed} {x : X} {xs : List X} → Item ts x us → SpellsEach Item us xs rest → SpellsEach Item ts (x ∷ xs) rest

-- [ word name ]
pub data SpellsClause (w : Word) : List Placed → Option Id → List Placed → Type 0 where
  absent : {rest : List Placed} → SpellsClause w rest None rest
  present : {k m : ℕ} {n : List ℕ} {rest : List Placed}
      → SpellsClause w (Put k (token.Word w) ∷ Put m (token.Ident n) ∷ rest) (Some (record { name = n; token = m })) rest

-- type = "int" | "bool"
pub data SpellsType : List Placed → Ty → List Placed → Type 0 where
  int : {k : ℕ} {rest : List Placed} → SpellsType (Put k (token.Word word.Int) ∷ rest) ty.Int rest
  bool : {k : ℕ} {rest : List Placed} → SpellsType (Put k (token.Word word.Bool) ∷ rest) ty.Bool rest

-- const = [ "-" ] number | "true" | "false"
pub data SpellsConst : List Placed → ConstNode → List Placed → Type 0 where
  positive : {k : ℕ} {x : ℤ} {rest : List Placed} → SpellsConst (Put k (token.Number x) ∷ rest) (const.Int k false x) rest
  negative : {k m : ℕ} {x : ℤ} {rest : List Placed}
      → SpellsConst (Put k (token.Sign sign.Minus) ∷ Put m (token.Number x) ∷ rest) (const.Int k true x) rest
  true_word : {k : ℕ} {rest : List Placed} → SpellsConst (Put k (token.Word word.True) ∷ rest) (const.Bool k true) rest
  false_word : {k : ℕ} {rest : List Placed} → SpellsConst (Put k (token.Word word.False) ∷ rest) (const.Bool k false) rest

-- comm = ( "communicator" | "sensor" ) type name "period" number "init" const ";"
pub data SpellsComm : List Placed → CommNode → List Placed → Type 0 where
  communicator : {ts us rest : List Placed} {t : Ty} {n : List ℕ} {x : ℤ} {c : ConstNode} {k m p q i s : ℕ}
      → SpellsType ts t (Put m (token.Ident n) ∷ Put p (token.Word word.Period) ∷ Put q (token.Number x) ∷ Put i (token.Word word.Init) ∷ us)
      → SpellsConst us c (Put s (token.Sign sign.Semicolon) ∷ rest)
      → SpellsComm (Put k (token.Word word.Communicator) ∷ ts)
      (record { sensor = false; ty = t; name = record { name = n; token = m }; period = record { x = x; token = q }; init = c }) rest
  sensor : {ts us rest : List Placed} {t : Ty} {n : List ℕ} {x : ℤ} {c : ConstNode} {k m p q i s : ℕ}
      → SpellsType ts t (Put m (token.Ident n) ∷ Put p (token.Word word.Period) ∷ Put q (token.Number x) ∷ Put i (token.Word word.Init) ∷ us)
      → SpellsConst us c (Put s (token.Sign sign.Semicolon) ∷ rest)
      → SpellsComm (Put k (token.Word word.Sensor) ∷ ts)
      (record { sensor = true; ty = t; name = record { name = n; token = m }; period = record { x = x; token = q }; init = c }) rest

-- in = type name
pub data SpellsParam : List Placed → ParamNode → List Placed → Type 0 where
  param : {ts rest : List Placed} {t : Ty} {k : ℕ} {n : List ℕ}
      → SpellsType ts t (Put k (token.Ident n) ∷ rest) → SpellsParam ts (record { ty = t; name = record { name = n; token = k } }) rest

-- out = type name "=" expr
pub data SpellsOut : List Placed → PlainOut → List Placed → Type 0 where
  out : {ts us rest : List Placed} {p : ParamNode} {k first : ℕ} {t : Token} {e : Expr}
      → SpellsParam ts p (Put k (token.Sign sign.Assign) ∷ Put first t ∷ us) → Spells Or (Put first t ∷ us) e rest
      → SpellsOut ts (record { param = p; first = first; value = e }) rest

-- task = "task" name "input" "(" [ in { "," in } ] ")" "output" "(" [ out { "," out } ] ")" "worst" number ";"
--      | "abstract" "task" name "input" "(" [ in { "," in } ] ")" "output" "(" [ in { "," in } ] ")" "worst" number ";"
pub data SpellsTask : List Placed → PlainTask → List Placed → Type 0 where
  concrete : {ts us rest : List Placed} {n : List ℕ} {ins : List ParamNode} {outs : List PlainOut} {x : ℤ} {k m i o w q s : ℕ}
      → SpellsList SpellsParam ts ins (Put o (token.Word word.Output) ∷ us)
      → SpellsList SpellsOut us outs (Put w (token.Word word.Worst) ∷ Put q (token.Number x) ∷ Put s (token.Sign sign.Semicolon) ∷ rest)
      → SpellsTask (Put k (token.Word word.Task) ∷ Put m (token.Ident n) ∷ Put i (token.Word word.Input) ∷ ts)
      (record { name = record { name = n; token = m }; inputs = ins; outputs = Concrete outs; worst = record { x = x; token = q } }) rest
  abstract_task : {ts us rest : List Placed} {n : List ℕ} {ins outs : List ParamNode} {x : ℤ} {a k m i o w q s : ℕ}
      → SpellsList SpellsParam ts ins (Put o (token.Word word.Output) ∷ us)
      → SpellsList SpellsParam us outs (Put w (token.Word word.Worst) ∷ Put q (token.Number x) ∷ Put s (token.Sign sign.Semicolon) ∷ rest)
      → SpellsTask (Put a (token.Word word.Abstract) ∷ Put k (token.Word word.Task) ∷ Put m (token.Ident n) ∷ Put i (token.Word word.Input) ∷ ts)
      (record { name = record { name = n; token = m }; inputs = ins; outputs = Abstract outs; worst = record { x = x; token = q } }) rest

-- port = "port" type name ";"
pub data SpellsPort : List Placed → ParamNode → List Placed → Type 0 where
  port : {ts rest : List Placed} {p : ParamNode} {k s : ℕ}
      → SpellsParam ts p (Put s (token.Sign sign.Semicolon) ∷ rest) → SpellsPort (Put k (token.Word word.Port) ∷ ts) p rest

-- end = "(" name "," number ")" | name
pub data SpellsEnd : List Placed → EndNode → List Placed → Type 0 where
  comm_end : {n : List ℕ} {x : ℤ} {k m c q s : ℕ} {rest : List Placed}
      → SpellsEnd (Put k (token.Sign sign.OpenParen) ∷ Put m (token.Ident n) ∷ Put c (token.Sign sign.Comma) ∷ Put q (token.Number x) ∷ Put s (token.Sign sign.CloseParen) ∷ rest)
      (end.Comm (record { name = n; token = m }) (record { x = x; token = q })) rest
  port_end : {n : List ℕ} {k : ℕ} {rest : List Placed} → SpellsEnd (Put k (token.Ident n) ∷ rest) (end.Port (record { name = n; token = k })) rest

-- invoke = "invoke" name "input" "(" [ end { "," end } ] ")" "output" "(" [ end { "," end } ] ")" [ "parent" name ] ";"
pub data SpellsInvoke : List Placed → InvokeNode → List Placed → Type 0 where
  invoke : {ts us vs rest : List Placed} {n : List ℕ} {reads writes : List EndNode} {parent : Option Id} {k m i o s : ℕ}
      → SpellsList SpellsEnd ts reads (Put o (token.Word word.Output) ∷ us) → SpellsList SpellsEnd us writes vs
      → SpellsClause word.Parent vs parent (Put s (token.Sign sign.Semicolon) ∷ rest)
      → SpellsInvoke (Put k (token.Word word.Invoke) ∷ Put m (token.Ident n) ∷ Put i (token.Word word.Input) ∷ ts)
      (record { task = record { name = n; token = m }; reads = reads; writes = writes; parent = parent }) rest

-- switch = "switch" "(" expr "," name ")" ";"
pub data SpellsSwitch : List Placed → PlainSwitch → List Placed → Type 0 where
  switch : {us rest : List Placed} {t : Token} {e : Expr} {n : List ℕ} {k o first c m d s : ℕ}
      → Spells Or (Put first t ∷ us) e
      (Put c (token.Sign sign.Comma) ∷ Put m (token.Ident n) ∷ Put d (token.Sign sign.CloseParen) ∷ Put s (token.Sign sign.Semicolon) ∷ rest)
      → SpellsSwitch (Put k (token.Word word.Switch) ∷ Put o (token.Sign sign.OpenParen) ∷ Put first t ∷ us)
      (record { first = first; cond = e; target = record { name = n; token = m } }) rest

-- mode = "mode" name "period" number [ "program" name ] "{" { port } { invoke } { switch } "}"
pub data SpellsMode : List Placed → PlainMode → List Placed → Type 0 where
  mode : {ts us vs ws rest : List Placed} {n : List ℕ} {x : ℤ} {program : Option Id} {ports : List ParamNode} {invokes : List InvokeNode} {switches : List PlainSwitch} {k m p q o c : ℕ}
      → SpellsClause word.Program ts program (Put o (token.Sign sign.OpenBrace) ∷ us)
      → SpellsEach SpellsPort us ports vs → SpellsEach SpellsInvoke vs invokes ws → SpellsEach SpellsSwitch ws switches (Put c (token.Sign sign.CloseBrace) ∷ rest)
      → SpellsMode (Put k (token.Word word.Mode) ∷ Put m (token.Ident n) ∷ Put p (token.Word word.Period) ∷ Put q (token.Number x) ∷ ts)
      (record { name = record { name = n; token = m }; period = record { x = x; token = q }; program = program; ports = ports; invokes = invokes; switches = switches }) rest

-- module = "module" name "start" name "{" { task } { mode } "}"
pub data SpellsModule : List Placed → PlainModule → List Placed → Type 0 where
  a_module : {ts us rest : List Placed} {n d : List ℕ} {tasks : List PlainTask} {modes : List PlainMode} {k m s q o c : ℕ}
      → SpellsEach SpellsTask ts tasks us → SpellsEach SpellsMode us modes (Put c (token.Sign sign.CloseBrace) ∷ rest)
      → SpellsModule (Put k (token.Word word.Module) ∷ Put m (token.Ident n) ∷ Put s (token.Word word.Start) ∷ Put q (token.Ident d) ∷ Put o (token.Sign sign.OpenBrace) ∷ ts)
      (record { name = record { name = n; token = m }; start = record { name = d; token = q }; tasks = tasks; modes = modes }) rest

-- program = "program" name "{" { comm } { module } "}"
pub data SpellsProgram : List Placed → PlainProgram → List Placed → Type 0 where
  program : {ts us rest : List Placed} {n : List ℕ} {comms : List CommNode} {modules : List PlainModule} {k m o c : ℕ}
      → SpellsEach SpellsComm ts comms us → SpellsEach SpellsModule us modules (Put c (token.Sign sign.CloseBrace) ∷ rest)
      → SpellsProgram (Put k (token.Word word.Program) ∷ Put m (token.Ident n) ∷ Put o (token.Sign sign.OpenBrace) ∷ ts)
      (record { name = record { name = n; token = m }; comms = comms; modules = modules }) rest

-- source = program { program }
pub data SpellsSource : List Placed → List PlainProgram → List Placed → Type 0 where
  source : {ts us rest : List Placed} {p : PlainProgram} {ps : List PlainProgram}
      → SpellsProgram ts p us → SpellsEach SpellsProgram us ps rest → SpellsSource ts (p ∷ ps) rest
