-- The names in the tables of a source are names: each stands in its text as one.
use Rattle.std.proofs.Common.{◌≡◌, ℕ, ◌+◌, true, List, [], ◌∷◌, map, Option, Some, None, slice_get, refl, subst, sym}
use Rattle.htl_top.proofs.Vocabulary.{is_name, Ty, coded, IsTablesOf, HasNames, Tables, Each, each_at, each_all, each_flat_map, each_flat_map_at, each_weaker, modules_at, module_at, ModuleAt, tokens-spellable, Expr, Level, Spells, conj, or, cmp, and, sum, compare, prod, add, unary, multiply, atom, prefix, brackets, choice, PlainOut, PlainTask, PlainSwitch, PlainMode, PlainModule, PlainProgram, Placed, Put, tokens_numbered, IsSpellable, AreSpellable, Token, Word, CommNode, ConstNode, EndNode, Id, InvokeNode, ParamNode}
use Rattle.htl_names.specs.Flat.{Layout, layout, comm_item, comm_items, mode_item, module_mode_items, mode_items, module_item, module_items_at, module_items, task_item, module_task_items, task_items, tables_of_tree}
use Rattle.htl_text.specs.Statements.{SpellsMore, no_more, comma, SpellsList, empty, items, SpellsEach, no_other, another, SpellsClause, absent, present, SpellsType, int, bool, SpellsConst, positive, negative, SpellsComm, communicator, sensor, SpellsParam, param, SpellsOut, out, SpellsTask, concrete, abstract_task, SpellsPort, port, SpellsEnd, comm_end, port_end, SpellsInvoke, invoke, SpellsSwitch, switch, SpellsMode, mode, SpellsModule, a_module, SpellsProgram, program, SpellsSource, source}

-- ---- a tree whose items have names

abbrev IsNamed : Id → Type 0
IsNamed id = is_name id.name ≡ true

abbrev IsTask : PlainTask → Type 0
IsTask t = IsNamed t.name

abbrev IsMode : PlainMode → Type 0
IsMode m = IsNamed m.name

record IsModule (x : PlainModule) : Type 0 where
  pub name : IsNamed x.name
  pub tasks : Each IsTask x.tasks
  pub modes : Each IsMode x.modes

record IsProgramNode (p : PlainProgram) : Type 0 where
  pub comms : Each (λ c. IsNamed c.name) p.comms
  pub modules : Each IsModule p.modules

-- ---- what spellable tokens spell

-- tokens that a text can spell
abbrev Fit : List Placed → Type 0
Fit [] = Unit {0}
Fit (Put k t ∷ ts) = IsSpellable t × Fit ts

-- of each item that is spelled by such tokens something holds, and what follows it are such tokens
abbrev Gives : {X : Type 0} → (List Placed → X → List Placed → Type 0) → (X → Type 0) → Type 0
Gives {X} Item P = (us vs : List Placed) (x : X) → Item us x vs → Fit us → P x × Fit vs

each_spelled : {X : Type 0} {Item : List Placed → X → List Placed → Type 0} {P : X → Type 0} {ts rest : List Placed} {xs : List X} → Gives Item P → SpellsEach Item ts xs rest → Fit ts
    → Each P xs × Fit rest
each_spelled of no_other h = (tt, h)
each_spelled of (another {ts} {us} {rest} {x} {xs} one more) h =
    let first = of ts us x one h in
    let others = each_spelled of more first.1 in
    ((first.0, others.0), others.1)

-- what follows a part of which nothing is asked
abbrev Passes : {X : Type 0} → (List Placed → X → List Placed → Type 0) → Type 0
Passes {X} Item = (us vs : List Placed) (x : X) → Item us x vs → Fit us → Fit vs

each_passed : {X : Type 0} {Item : List Placed → X → List Placed → Type 0} {ts rest : List Placed} {xs : List X} → Passes Item → SpellsEach Item ts xs rest → Fit ts → Fit rest
each_passed of no_other h = h
each_passed of (another {ts} {us} {rest} {x} {xs} one more) h = each_passed of more (of ts us x one h)

more_passed : {X : Type 0} {Item : List Placed → X → List Placed → Type 0} {ts rest : List Placed} {xs : List X} → Passes Item → SpellsMore Item ts xs rest → Fit ts → Fit rest
more_passed of no_more h = h
more_passed of (comma {ts} {us} {rest} {x} {xs} one more) h = more_passed of more (of ts us x one h.1)

list_passed : {X : Type 0} {Item : List Placed → X → List Placed → Type 0} {ts rest : List Placed} {xs : List X} → Passes Item → SpellsList Item ts xs rest → Fit ts → Fit rest
list_passed of empty h = h.1.1
list_passed of (items {ts} {us} {rest} {x} {xs} one more) h = (more_passed of more (of ts us x one h.1)).1

clause_passed : {w : Word} {ts rest : List Placed} {o : Option Id} → SpellsClause w ts o rest → Fit ts → Fit rest
clause_passed absent h = h
clause_passed present h = h.1.1

type_passed : {ts rest : List Placed} {t : Ty} → SpellsType ts t rest → Fit ts → Fit rest
type_passed int h = h.1
type_passed bool h = h.1

const_passed : {ts rest : List Placed} {c : ConstNode} → SpellsConst ts c rest → Fit ts → Fit rest
const_passed positive h = h.1
const_passed negative h = h.1.1
const_passed _ h = h.1

comm_spelled : {ts rest : List Placed} {c : CommNode} → SpellsComm ts c rest → Fit ts → IsNamed c.name × Fit rest
comm_spelled (communicator t c) h = let head = type_passed t h.1 in (head.0, (const_passed c head.1.1.1.1).1)
comm_spelled (sensor t c) h = let head = type_passed t h.1 in (head.0, (const_passed c head.1.1.1.1).1)

expr_passed : {l : Level} {ts rest : List Placed} {e : Expr} → Spells l ts e rest → Fit ts → Fit rest
expr_passed (conj x) h = expr_passed x h
expr_passed (or x is y) h = expr_passed y (expr_passed x h).1
expr_passed (cmp x) h = expr_passed x h
expr_passed (and x is y) h = expr_passed y (expr_passed x h).1
expr_passed (sum x) h = expr_passed x h
expr_passed (compare x is y) h = expr_passed y (expr_passed x h).1
expr_passed (prod x) h = expr_passed x h
expr_passed (add x is y) h = expr_passed y (expr_passed x h).1
expr_passed (unary x) h = expr_passed x h
expr_passed (multiply x is y) h = expr_passed y (expr_passed x h).1
expr_passed (atom x) h = expr_passed x h
expr_passed (prefix is x) h = expr_passed x h.1
expr_passed (brackets x) h = (expr_passed x h.1).1
expr_passed (choice x y z) h = (expr_passed z (expr_passed y (expr_passed x h.1.1).1).1).1
expr_passed _ h = h.1

param_passed : {ts rest : List Placed} {p : ParamNode} → SpellsParam ts p rest → Fit ts → Fit rest
param_passed (param t) h = (type_passed t h).1

out_passed : {ts rest : List Placed} {o : PlainOut} → SpellsOut ts o rest → Fit ts → Fit rest
out_passed (out p e) h = expr_passed e (param_passed p h).1

task_spelled : {ts rest : List Placed} {t : PlainTask} → SpellsTask ts t rest → Fit ts → IsTask t × Fit rest
task_spelled (concrete ins outs) h =
    let i = list_passed (λ us vs x. param_passed) ins h.1.1.1 in
    let o = list_passed (λ us vs x. out_passed) outs i.1 in
    (h.1.0, o.1.1.1)
task_spelled (abstract_task ins outs) h =
    let i = list_passed (λ us vs x. param_passed) ins h.1.1.1.1 in
    let o = list_passed (λ us vs x. param_passed) outs i.1 in
    (h.1.1.0, o.1.1.1)

port_passed : {ts rest : List Placed} {p : ParamNode} → SpellsPort ts p rest → Fit ts → Fit rest
port_passed (port p) h = (param_passed p h.1).1

end_passed : {ts rest : List Placed} {e : EndNode} → SpellsEnd ts e rest → Fit ts → Fit rest
end_passed comm_end h = h.1.1.1.1.1
end_passed port_end h = h.1

invoke_passed : {ts rest : List Placed} {i : InvokeNode} → SpellsInvoke ts i rest → Fit ts → Fit rest
invoke_passed (invoke reads writes parent) h =
    let r = list_passed (λ us vs x. end_passed) reads h.1.1.1 in
    let w = list_passed (λ us vs x. end_passed) writes r.1 in
    (clause_passed parent w).1

switch_passed : {ts rest : List Placed} {s : PlainSwitch} → SpellsSwitch ts s rest → Fit ts → Fit rest
switch_passed (switch e) h = (expr_passed e h.1.1).1.1.1.1

mode_spelled : {ts rest : List Placed} {m : PlainMode} → SpellsMode ts m rest → Fit ts → IsMode m × Fit rest
mode_spelled (mode clause ports invokes switches) h =
    let c = clause_passed clause h.1.1.1.1 in
    let p = each_passed (λ us vs x. port_passed) ports c.1 in
    let i = each_passed (λ us vs x. invoke_passed) invokes p in
    let s = each_passed (λ us vs x. switch_passed) switches i in
    (h.1.0, s.1)

module_spelled : {ts rest : List Placed} {x : PlainModule} → SpellsModule ts x rest → Fit ts → IsModule x × Fit rest
module_spelled (a_module tasks modes) h =
    let t = each_spelled (λ us vs x. task_spelled) tasks h.1.1.1.1.1 in
    let m = each_spelled (λ us vs x. mode_spelled) modes t.1 in
    (record { name = h.1.0; tasks = t.0; modes = m.0 }, m.1.1)

program_spelled : {ts rest : List Placed} {p : PlainProgram} → SpellsProgram ts p rest → Fit ts → IsProgramNode p × Fit rest
program_spelled (program comms modules) h =
    let c = each_spelled (λ us vs x. comm_spelled) comms h.1.1.1 in
    let m = each_spelled (λ us vs x. module_spelled) modules c.1 in
    (record { comms = c.0; modules = m.0 }, m.1.1)

source_spelled : {ts rest : List Placed} {ps : List PlainProgram} → SpellsSource ts ps rest → Fit ts → Each IsProgramNode ps
source_spelled (source p ps) h =
    let first = program_spelled p h in
    (first.0, (each_spelled (λ us vs x. program_spelled) ps first.1).0)

numbered_fit : (k : ℕ) (ts : List Token) → AreSpellable ts → Fit (tokens_numbered k ts)
numbered_fit k [] h = tt
numbered_fit k (t ∷ ts) h = (h.0, numbered_fit (k + 1) ts h.1)

-- ---- the tables of such a tree

each_map : {A B : Type 0} (P : B → Type 0) (Q : A → Type 0) (f : A → B) → ((x : A) → Q x → P (f x)) → (xs : List A) → Each Q xs → Each P (map f xs)
each_map P Q f of [] h = tt
each_map P Q f of (x ∷ xs) h = (of x h.0, each_map P Q f of xs h.1)

modules_by : (o : Option PlainProgram) → ((x : PlainProgram) → o ≡ Some x → IsProgramNode x) → Each IsModule (elim o [ Some x ↦ x.modules | None ↦ [] ])
modules_by None h = tt
modules_by (Some x) h = (h x refl).modules

tasks_by : (o : Option PlainModule) → ((x : PlainModule) → o ≡ Some x → IsModule x) → Each IsTask (elim o [ Some x ↦ x.tasks | None ↦ [] ])
tasks_by None h = tt
tasks_by (Some x) h = (h x refl).tasks

modes_by : (o : Option PlainModule) → ((x : PlainModule) → o ≡ Some x → IsModule x) → Each IsMode (elim o [ Some x ↦ x.modes | None ↦ [] ])
modes_by None h = tt
modes_by (Some x) h = (h x refl).modes

-- the name of an item of the tables
abbrev HasName : List ℕ → Type 0
HasName bytes = is_name bytes ≡ true

module _ (ps : List PlainProgram) (h : Each IsProgramNode ps) where
  module_there : (p u : ℕ) (x : PlainModule) → module_at ps p u ≡ Some x → IsModule x
  module_there p u x at = each_at IsModule (modules_at ps p) u x (modules_by (slice_get ps p) (λ y there. each_at IsProgramNode ps p y h there)) at

  comms_named : Each (λ c. HasName c.name) (comm_items ps)
  comms_named =
      each_map (λ c. HasName c.name) (λ c. IsNamed c.name) comm_item (λ c is. is) _
      (each_flat_map (λ c. IsNamed c.name) (λ p. p.comms) ps (each_weaker IsProgramNode (λ p. Each (λ c. IsNamed c.name) p.comms) (λ p is. is.comms) ps h))

  modes_named : (l : Layout) → Each (λ m. HasName m.name) (mode_items l ps)
  modes_named l =
      each_flat_map_at (λ m. HasName m.name) (module_mode_items ps) 0 l.modules
      (λ i j s e at. each_map (λ m. HasName m.name) IsMode (mode_item i) (λ m is. is) _ (modes_by (module_at ps s.program s.«module») (module_there s.program s.«module»)))

  tasks_named : (l : Layout) → Each (λ t. HasName t.name) (task_items l ps)
  tasks_named l =
      each_flat_map_at (λ t. HasName t.name) (module_task_items ps) 0 l.modules
      (λ i j s e at. each_map (λ t. HasName t.name) IsTask (task_item i) (λ t is. is) _ (tasks_by (module_at ps s.program s.«module») (module_there s.program s.«module»)))

  module_named : (l : Layout) (k : ℕ) (s : ModuleAt) (o : Option PlainModule) → ((x : PlainModule) → o ≡ Some x → IsModule x)
      → Each (λ m. HasName m.name) (elim o [ Some x ↦ module_item l ps k s x ∷ [] | None ↦ [] ])
  module_named l k s None of = tt
  module_named l k s (Some x) of = ((of x refl).name, tt)

  modules_named : (l : Layout) → Each (λ m. HasName m.name) (module_items l ps)
  modules_named l =
      each_flat_map_at (λ m. HasName m.name) (module_items_at l ps) 0 l.modules
      (λ i j s e at. module_named l i s (module_at ps s.program s.«module») (module_there s.program s.«module»))

  tree_named : HasNames (tables_of_tree ps)
  tree_named = record {
    comms = each_all (λ c. HasName c.name) (comm_items ps) comms_named;
    modes = each_all (λ m. HasName m.name) (mode_items (layout ps) ps) (modes_named (layout ps));
    modules = each_all (λ m. HasName m.name) (module_items (layout ps) ps) (modules_named (layout ps));
    tasks = each_all (λ t. HasName t.name) (task_items (layout ps) ps) (tasks_named (layout ps));
  }

-- the names in a source's tables are names
pub source_named : (bytes : List ℕ) (t : Tables) → IsTablesOf bytes t → HasNames t
source_named bytes t h =
    let fit = numbered_fit 0 h.list.tokens (tokens-spellable bytes h.list h.reads.tokens) in
    subst HasNames (sym h.is) (tree_named h.programs (source_spelled h.spelled fit))

-- and so they are with code in the place of the functions
pub coded_named : (t : Tables) → HasNames t → HasNames (coded t)
coded_named t h = record { comms = h.comms; modes = h.modes; modules = h.modules; tasks = h.tasks }
