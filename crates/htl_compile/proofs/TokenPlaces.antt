-- A tree whose names and judged numbers stand at places below a number, as that of a source stands at places of its tokens.
use Rattle.std.proofs.Common.{◌<◌, ◌≤◌, ℕ, suc, ◌+◌, List, [], ◌∷◌, ◌++◌, length, map, true, false, Option, Some, None, arith}
use Rattle.htl_compile.proofs.Words.{flat_map, Each, each_at, each_append, each_flat_map, each_flat_map_at, each_weaker, flat_map_at, map_at, names_of, BinOp, PlainOut, PlainOuts, Concrete, Abstract, PlainTask, PlainSwitch, PlainMode, PlainModule, PlainProgram, Placed, Put, tokens_numbered, SpellsMore, no_more, comma, SpellsList, empty, items, SpellsEach, no_other, another, SpellsClause, absent, present, SpellsType, int, bool, SpellsConst, positive, negative, SpellsComm, communicator, sensor, SpellsParam, param, SpellsOut, out, SpellsTask, concrete, abstract_task, SpellsPort, port, SpellsEnd, comm_end, port_end, SpellsInvoke, invoke, SpellsSwitch, switch, SpellsMode, mode, SpellsModule, a_module, SpellsProgram, program, SpellsSource, source, Token, Word, CommNode, ConstNode, EndNode, Id, InvokeNode, ParamNode, Ty}
use Rattle.htl_text.specs.Expressions.{Expr, Number, Flag, Variable, Prefix, Infix, Choice}
use Rattle.htl_text.specs.Grammar.{Level, Spells, conj, or, cmp, and, sum, compare, prod, add, unary, multiply, atom, prefix, number, true_word, false_word, name, brackets, choice}
use Rattle.htl_text.specs.declared.tree.ConstNode.TheVariants as const
use Rattle.htl_text.specs.declared.tree.EndNode.TheVariants as end

-- the places of tokens below a number
abbrev pub Below : ℕ → List Placed → Type 0
Below n [] = Unit {0}
Below n (Put k t ∷ ts) = (k < n) × Below n ts

module _ (n : ℕ) where
  -- ---- a tree whose names and judged numbers stand at such places

  abbrev pub IsId : Id → Type 0
  IsId id = id.token < n

  abbrev pub IsClause : Option Id → Type 0
  IsClause None = Unit {0}
  IsClause (Some id) = IsId id

  abbrev pub IsConst : ConstNode → Type 0
  IsConst (const.Int token minus x) = token < n
  IsConst (const.Bool token x) = token < n

  pub record IsComm (c : CommNode) : Type 0 where
    pub name : IsId c.name
    pub period : c.period.token < n
    pub init : IsConst c.init

  abbrev pub IsParam : ParamNode → Type 0
  IsParam p = IsId p.name

  -- the tokens of its operators
  abbrev pub HasOperators : Expr → Type 0
  HasOperators (Prefix token op e) = (token < n) × HasOperators e
  HasOperators (Infix token op l r) = (token < n) × (HasOperators l × HasOperators r)
  HasOperators (Choice token c a b) = (token < n) × (HasOperators c × (HasOperators a × HasOperators b))
  HasOperators _ = Unit {0}

  pub record IsExpr (e : Expr) : Type 0 where
    pub names : Each IsId (names_of e)
    pub operators : HasOperators e

  pub record IsOut (o : PlainOut) : Type 0 where
    pub param : IsParam o.param
    pub first : o.first < n
    pub value : IsExpr o.value

  abbrev pub AreOuts : PlainOuts → Type 0
  AreOuts (Concrete xs) = Each IsOut xs
  AreOuts (Abstract xs) = Each IsParam xs

  pub record IsTask (t : PlainTask) : Type 0 where
    pub name : IsId t.name
    pub inputs : Each IsParam t.inputs
    pub outputs : AreOuts t.outputs
    pub worst : t.worst.token < n

  abbrev pub IsEnd : EndNode → Type 0
  IsEnd (end.Comm comm instance) = IsId comm × (instance.token < n)
  IsEnd (end.Port id) = IsId id

  pub record IsInvoke (i : InvokeNode) : Type 0 where
    pub task : IsId i.task
    pub reads : Each IsEnd i.reads
    pub writes : Each IsEnd i.writes
    pub parent : IsClause i.parent

  pub record IsSwitch (s : PlainSwitch) : Type 0 where
    pub first : s.first < n
    pub cond : IsExpr s.cond
    pub target : IsId s.target

  pub record IsMode (m : PlainMode) : Type 0 where
    pub name : IsId m.name
    pub period : m.period.token < n
    pub program : IsClause m.program
    pub ports : Each IsParam m.ports
    pub invokes : Each IsInvoke m.invokes
    pub switches : Each IsSwitch m.switches

  pub record IsModule (x : PlainModule) : Type 0 where
    pub name : IsId x.name
    pub start : IsId x.start
    pub tasks : Each IsTask x.tasks
    pub modes : Each IsMode x.modes

  pub record IsProgramNode (p : PlainProgram) : Type 0 where
    pub name : IsId p.name
    pub comms : Each IsComm p.comms
    pub modules : Each IsModule p.modules

  -- ---- what is spelled by such tokens

  pub each_spelled : {X : Type 0} {Item : List Placed → X → List Placed → Type 0} {P : X → Type 0} {ts rest : List Placed} {xs : List X}
      → ((us vs : List Placed) (x : X) → Item us x vs → Below n us → P x × Below n vs) → SpellsEach Item ts xs rest → Below n ts → Each P xs × Below n rest
  each_spelled of no_other h = (tt, h)
  each_spelled of (another {ts} {us} {rest} {x} {xs} one more) h =
      let first = of ts us x one h in
      let others = each_spelled of more first.1 in
      ((first.0, others.0), others.1)

  pub more_spelled : {X : Type 0} {Item : List Placed → X → List Placed → Type 0} {P : X → Type 0} {ts rest : List Placed} {xs : List X}
      → ((us vs : List Placed) (x : X) → Item us x vs → Below n us → P x × Below n vs) → SpellsMore Item ts xs rest → Below n ts → Each P xs × Below n rest
  more_spelled of no_more h = (tt, h)
  more_spelled of (comma {ts} {us} {rest} {x} {xs} one more) h =
      let first = of ts us x one h.1 in
      let others = more_spelled of more first.1 in
      ((first.0, others.0), others.1)

  pub list_spelled : {X : Type 0} {Item : List Placed → X → List Placed → Type 0} {P : X → Type 0} {ts rest : List Placed} {xs : List X}
      → ((us vs : List Placed) (x : X) → Item us x vs → Below n us → P x × Below n vs) → SpellsList Item ts xs rest → Below n ts → Each P xs × Below n rest
  list_spelled of empty h = (tt, h.1.1)
  list_spelled of (items {ts} {us} {rest} {x} {xs} one more) h =
      let first = of ts us x one h.1 in
      let others = more_spelled of more first.1 in
      ((first.0, others.0), others.1.1)

  pub clause_spelled : {w : Word} {ts rest : List Placed} {o : Option Id} → SpellsClause w ts o rest → Below n ts → IsClause o × Below n rest
  clause_spelled absent h = (tt, h)
  clause_spelled present h = (h.1.0, h.1.1)

  pub type_spelled : {ts rest : List Placed} {t : Ty} → SpellsType ts t rest → Below n ts → Below n rest
  type_spelled int h = h.1
  type_spelled bool h = h.1

  pub const_spelled : {ts rest : List Placed} {c : ConstNode} → SpellsConst ts c rest → Below n ts → IsConst c × Below n rest
  const_spelled positive h = h
  const_spelled negative h = (h.0, h.1.1)
  const_spelled _ h = h

  pub comm_spelled : {ts rest : List Placed} {c : CommNode} → SpellsComm ts c rest → Below n ts → IsComm c × Below n rest
  comm_spelled (communicator t c) h =
      let head = type_spelled t h.1 in
      let init = const_spelled c head.1.1.1.1 in
      (record { name = head.0; period = head.1.1.0; init = init.0 }, init.1.1)
  comm_spelled (sensor t c) h =
      let head = type_spelled t h.1 in
      let init = const_spelled c head.1.1.1.1 in
      (record { name = head.0; period = head.1.1.0; init = init.0 }, init.1.1)

  -- an operator between two expressions
  pub both : (l r : Expr) (token : ℕ) → token < n → IsExpr l → IsExpr r → {op : BinOp} → IsExpr (Infix token op l r)
  both l r token below p q = record { names = each_append IsId (names_of l) (names_of r) p.names q.names; operators = (below, (p.operators, q.operators)) }

  pub literal : (e : Expr) → Each IsId (names_of e) → HasOperators e → IsExpr e
  literal e names operators = record { names = names; operators = operators }

  pub expr_spelled : {l : Level} {ts rest : List Placed} {e : Expr} → Spells l ts e rest → Below n ts → IsExpr e × Below n rest
  expr_spelled (conj x) h = expr_spelled x h
  expr_spelled (or {ts} {us} {l} {r} x is y) h =
      let a = expr_spelled x h in
      let b = expr_spelled y a.1.1 in
      (both l r _ a.1.0 a.0 b.0, b.1)
  expr_spelled (cmp x) h = expr_spelled x h
  expr_spelled (and {ts} {us} {l} {r} x is y) h =
      let a = expr_spelled x h in
      let b = expr_spelled y a.1.1 in
      (both l r _ a.1.0 a.0 b.0, b.1)
  expr_spelled (sum x) h = expr_spelled x h
  expr_spelled (compare {ts} {us} {l} {r} x is y) h =
      let a = expr_spelled x h in
      let b = expr_spelled y a.1.1 in
      (both l r _ a.1.0 a.0 b.0, b.1)
  expr_spelled (prod x) h = expr_spelled x h
  expr_spelled (add {ts} {us} {l} {r} x is y) h =
      let a = expr_spelled x h in
      let b = expr_spelled y a.1.1 in
      (both l r _ a.1.0 a.0 b.0, b.1)
  expr_spelled (unary x) h = expr_spelled x h
  expr_spelled (multiply {ts} {us} {l} {r} x is y) h =
      let a = expr_spelled x h in
      let b = expr_spelled y a.1.1 in
      (both l r _ a.1.0 a.0 b.0, b.1)
  expr_spelled (atom x) h = expr_spelled x h
  expr_spelled (prefix is x) h =
      let a = expr_spelled x h.1 in
      (record { names = a.0.names; operators = (h.0, a.0.operators) }, a.1)
  expr_spelled (number {k} {x}) h = (literal (Number k x) tt tt, h.1)
  expr_spelled (true_word {k}) h = (literal (Flag k true) tt tt, h.1)
  expr_spelled (false_word {k}) h = (literal (Flag k false) tt tt, h.1)
  expr_spelled (name {k} {n = w}) h = (literal (Variable (record { name = w; token = k })) (h.0, tt) tt, h.1)
  expr_spelled (brackets x) h = let a = expr_spelled x h.1 in (a.0, a.1.1)
  expr_spelled (choice {ts} {us} {vs} {c} {a} {b} x y z) h =
      let p = expr_spelled x h.1.1 in
      let q = expr_spelled y p.1.1 in
      let r = expr_spelled z q.1.1 in (
        record {
          names = each_append IsId (names_of c) (names_of a ++ names_of b) p.0.names (each_append IsId (names_of a) (names_of b) q.0.names r.0.names);
          operators = (h.0, (p.0.operators, (q.0.operators, r.0.operators)));
        },
        r.1.1,
      )

  pub param_spelled : {ts rest : List Placed} {p : ParamNode} → SpellsParam ts p rest → Below n ts → IsParam p × Below n rest
  param_spelled (param t) h = type_spelled t h

  pub out_spelled : {ts rest : List Placed} {o : PlainOut} → SpellsOut ts o rest → Below n ts → IsOut o × Below n rest
  out_spelled (out p e) h =
      let one = param_spelled p h in
      let value = expr_spelled e one.1.1 in
      (record { param = one.0; first = one.1.1.0; value = value.0 }, value.1)

  pub task_spelled : {ts rest : List Placed} {t : PlainTask} → SpellsTask ts t rest → Below n ts → IsTask t × Below n rest
  task_spelled (concrete ins outs) h =
      let i = list_spelled (λ us vs x. param_spelled) ins h.1.1.1 in
      let o = list_spelled (λ us vs x. out_spelled) outs i.1.1 in
      (record { name = h.1.0; inputs = i.0; outputs = o.0; worst = o.1.1.0 }, o.1.1.1.1)
  task_spelled (abstract_task ins outs) h =
      let i = list_spelled (λ us vs x. param_spelled) ins h.1.1.1.1 in
      let o = list_spelled (λ us vs x. param_spelled) outs i.1.1 in
      (record { name = h.1.1.0; inputs = i.0; outputs = o.0; worst = o.1.1.0 }, o.1.1.1.1)

  pub port_spelled : {ts rest : List Placed} {p : ParamNode} → SpellsPort ts p rest → Below n ts → IsParam p × Below n rest
  port_spelled (port p) h = let one = param_spelled p h.1 in (one.0, one.1.1)

  pub end_spelled : {ts rest : List Placed} {e : EndNode} → SpellsEnd ts e rest → Below n ts → IsEnd e × Below n rest
  end_spelled comm_end h = ((h.1.0, h.1.1.1.0), h.1.1.1.1.1)
  end_spelled port_end h = h

  pub invoke_spelled : {ts rest : List Placed} {i : InvokeNode} → SpellsInvoke ts i rest → Below n ts → IsInvoke i × Below n rest
  invoke_spelled (invoke reads writes parent) h =
      let r = list_spelled (λ us vs x. end_spelled) reads h.1.1.1 in
      let w = list_spelled (λ us vs x. end_spelled) writes r.1.1 in
      let p = clause_spelled parent w.1 in
      (record { task = h.1.0; reads = r.0; writes = w.0; parent = p.0 }, p.1.1)

  pub switch_spelled : {ts rest : List Placed} {s : PlainSwitch} → SpellsSwitch ts s rest → Below n ts → IsSwitch s × Below n rest
  switch_spelled (switch e) h =
      let c = expr_spelled e h.1.1 in
      (record { first = h.1.1.0; cond = c.0; target = c.1.1.0 }, c.1.1.1.1.1)

  pub mode_spelled : {ts rest : List Placed} {m : PlainMode} → SpellsMode ts m rest → Below n ts → IsMode m × Below n rest
  mode_spelled (mode clause ports invokes switches) h =
      let c = clause_spelled clause h.1.1.1.1 in
      let p = each_spelled (λ us vs x. port_spelled) ports c.1.1 in
      let i = each_spelled (λ us vs x. invoke_spelled) invokes p.1 in
      let s = each_spelled (λ us vs x. switch_spelled) switches i.1 in
      (record { name = h.1.0; period = h.1.1.1.0; program = c.0; ports = p.0; invokes = i.0; switches = s.0 }, s.1.1)

  pub module_spelled : {ts rest : List Placed} {x : PlainModule} → SpellsModule ts x rest → Below n ts → IsModule x × Below n rest
  module_spelled (a_module tasks modes) h =
      let t = each_spelled (λ us vs x. task_spelled) tasks h.1.1.1.1.1 in
      let m = each_spelled (λ us vs x. mode_spelled) modes t.1 in
      (record { name = h.1.0; start = h.1.1.1.0; tasks = t.0; modes = m.0 }, m.1.1)

  pub program_spelled : {ts rest : List Placed} {p : PlainProgram} → SpellsProgram ts p rest → Below n ts → IsProgramNode p × Below n rest
  program_spelled (program comms modules) h =
      let c = each_spelled (λ us vs x. comm_spelled) comms h.1.1.1 in
      let m = each_spelled (λ us vs x. module_spelled) modules c.1 in
      (record { name = h.1.0; comms = c.0; modules = m.0 }, m.1.1)

  pub source_spelled : {ts rest : List Placed} {ps : List PlainProgram} → SpellsSource ts ps rest → Below n ts → Each IsProgramNode ps
  source_spelled (source one more) h =
      let first = program_spelled one h in
      (first.0, (each_spelled (λ us vs x. program_spelled) more first.1).0)

  -- ---- lists

  pub each_map : {A B : Type 0} (P : B → Type 0) (Q : A → Type 0) (f : A → B) → ((x : A) → Q x → P (f x)) → (xs : List A) → Each Q xs → Each P (map f xs)
  each_map P Q f of [] h = tt
  each_map P Q f of (x ∷ xs) h = (of x h.0, each_map P Q f of xs h.1)

  pub each_map_at : {A B : Type 0} (P : B → Type 0) (Q : A → Type 0) (f : ℕ → A → B) → ((k : ℕ) (x : A) → Q x → P (f k x)) → (k : ℕ) (xs : List A) → Each Q xs → Each P (map_at f k xs)
  each_map_at P Q f of k [] h = tt
  each_map_at P Q f of k (x ∷ xs) h = (of k x h.0, each_map_at P Q f of (suc k) xs h.1)

  pub each_flat : {A B : Type 0} (P : B → Type 0) (Q : A → Type 0) (f : A → List B) → ((x : A) → Q x → Each P (f x)) → (xs : List A) → Each Q xs → Each P (flat_map f xs)
  each_flat P Q f of xs h = each_flat_map P f xs (each_weaker Q (λ x. Each P (f x)) of xs h)

  pub each_flat_at : {A B : Type 0} (P : B → Type 0) (Q : A → Type 0) (f : ℕ → A → List B) → ((k : ℕ) (x : A) → Q x → Each P (f k x)) → (k : ℕ) (xs : List A) → Each Q xs
      → Each P (flat_map_at f k xs)
  each_flat_at P Q f of k xs h = each_flat_map_at P f k xs (λ i j x at there. of i x (each_at Q xs j x h there))

pub numbered_below : (n k : ℕ) (ts : List Token) → k + length ts ≤ n → Below n (tokens_numbered k ts)
numbered_below n k [] h = tt
numbered_below n k (t ∷ ts) h = (omega (arith, h), numbered_below n (k + 1) ts (omega (arith, h)))
