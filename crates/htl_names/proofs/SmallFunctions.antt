-- The functions of a source have few nodes, and arguments that are there.
use Rattle.std.proofs.Common.{◌≡◌, ◌≤◌, ◌<◌, ◌+◌, ℕ, length-append, cond, eqb, List, [], length, map, slice_get, Some, refl, sym, ◌∙◌, ap, ap₂, subst, arith, flat_map, All}
use Rattle.htl_model.proofs.PlaceLaws.{count_all}
use Rattle.htl_names.proofs.Words.{AllZip, flat_map-map, map-map, slice_get_within, AllZip-long, length-map, IsSmallFunction, AreSmall, ArgumentsBelow, nodes, AreInRange, IsFunInRange, Tables, Fun, Formula, Compiled, count_before, get_mapped, ParamNode, names_of, out_params, out_values, tree_nodes, Expr, Variable, Prefix, Infix, Choice, PlainProgram, PlainTask, PlainOut, PlainOuts, PlainSwitch, Concrete, Abstract, Id, MeetsBounds, MeetsTaskBounds, Layout, layout, meaning, term_by, types_of, is_abstract, task_item, task_items, module_task_items, switch_items, function_items, input_place, flat_output_function, outs_functions, task_functions, module_functions, comms_in, switch_item, mode_switch_items, read_place, flat_switch_function, mode_functions, tables_of_tree, comm_key, AreNamesRight, tasks_at, switches_at, input_use, output_uses, outputs_uses, ModeAt, ModuleAt, BoolTy, FunctionType, output_type, task_types, switch_type, comm_type, function_types, all_at, item_at}
use Rattle.htl_names.proofs.{ListLaws.zip_append, ListLaws.zip_map, ListLaws.zip_parts, ListLaws.zip_at, ListLaws.distinct_has, ListLaws.among_at, ListLaws.place_within, ListLaws.few_reads, FlatMaps.flat_map_is, FlatMaps.flat_map_parts}
use Rattle.htl_names.proofs.{Members.All-from_places, Members.In, Members.in_first, Members.in_second, Members.in_part, Members.in_mapped, Members.at_place, Members.map_flat_map_at, Numbered.task_small, Numbered.switch_small}
use Rattle.htl_names.proofs.{Places.tasks_in, NameUses.known, NameUses.used_in_task}

-- ---- expressions

nodes_same : (place : Id → ℕ) (e : Expr) → nodes (term_by place e) ≡ tree_nodes e
nodes_same place (Prefix t op e) = ap (λ (n : ℕ). n + 1) (nodes_same place e)
nodes_same place (Infix t op l r) = ap₂ (λ (n m : ℕ). n + m + 1) (nodes_same place l) (nodes_same place r)
nodes_same place (Choice t c a b) = ap₂ (λ (n m : ℕ). n + m + 1) (ap₂ (λ (n m : ℕ). n + m) (nodes_same place c) (nodes_same place a)) (nodes_same place b)
nodes_same place _ = refl

args_below : (place : Id → ℕ) (n : ℕ) (e : Expr) → ((id : Id) → In id (names_of e) → place id < n) → ArgumentsBelow n (term_by place e)
args_below place n (Variable id) h = h id (0, refl)
args_below place n (Prefix t op e) h = args_below place n e h
args_below place n (Infix t op l r) h = (args_below place n l (λ id at. h id (in_first _ _ at)), args_below place n r (λ id at. h id (in_second (names_of l) _ at)))
args_below place n (Choice t c a b) h = (
  args_below place n c (λ id at. h id (in_first _ _ at)),
  args_below place n a (λ id at. h id (in_second (names_of c) _ (in_first _ _ at))),
  args_below place n b (λ id at. h id (in_second (names_of c) _ (in_second (names_of a) _ at))),
)
args_below place n _ h = tt

small_by : (f : FunctionType) (first n : ℕ) (place : Id → ℕ) (e : Expr) → n ≡ length f.args → n ≤ 256 → tree_nodes e ≤ 512 → ((id : Id) → In id (names_of e) → place id < n)
    → IsSmallFunction f (Formula first (term_by place e))
small_by f first n place e same args few h = (omega (arith, nodes_same place e, few), omega (arith, same, args), subst (λ (m : ℕ). ArgumentsBelow m (term_by place e)) same (args_below place n e h))

-- ---- outputs

-- the types of a task's outputs in its node
abbrev node_types : PlainTask → List FunctionType
node_types t = task_types (task_item 0 t)

module _ (ps : List PlainProgram) (small : MeetsBounds ps) (right : AreNamesRight ps) where
  input_below : (p u n : ℕ) (t : PlainTask) (os : List PlainOut) (i : ℕ) (o : PlainOut) (id : Id) → slice_get (tasks_at ps p u) n ≡ Some t → t.outputs ≡ Concrete os → slice_get os i ≡ Some o
      → In id (names_of o.value) → input_place (layout ps) p u n id < length t.inputs
  input_below p u n t os i o id at is its named =
      let use_of = input_use p u n (length t.inputs) id in
      let own : In use_of (flat_map (output_uses p u n (length t.inputs)) os) =
      in_part (output_uses p u n (length t.inputs)) os i o its (in_mapped (input_use p u n (length t.inputs)) (names_of o.value) named.0 id named.1) in
      (known ps right use_of (used_in_task ps use_of p u n t at (subst (λ (x : PlainOuts). In use_of (outputs_uses p u n (length t.inputs) x)) (sym is) own))).1

  task_zipped : (p u n : ℕ) (t : PlainTask) → slice_get (tasks_at ps p u) n ≡ Some t → AllZip IsSmallFunction (node_types t) (task_functions (layout ps) p u n t)
  task_zipped p u n t at = by t.outputs refl
    where
      bounds : MeetsTaskBounds t
      bounds = task_small ps small p u n t at

      by : (x : PlainOuts) → t.outputs ≡ x → AllZip IsSmallFunction (cond (is_abstract x) [] (map (output_type (types_of t.inputs)) (types_of (out_params x)))) (outs_functions (layout ps) p u n x)
      by (Abstract xs) e = tt
      by (Concrete os) e =
          let fits : Expr → Type 0 = λ v. tree_nodes v ≤ 512 in
          let values = subst (λ (x : PlainOuts). All fits (out_values x)) e bounds.values in
          let types = ap (map (output_type (types_of t.inputs))) (map-map (λ (x : ParamNode). x.ty) (λ (o : PlainOut). o.param) os) ∙ map-map (output_type (types_of t.inputs)) (λ (o : PlainOut). o.param.ty) os in
          subst (λ (fs : List FunctionType). AllZip IsSmallFunction fs (map (flat_output_function (layout ps) p u n) os)) (sym types)
          (zip_map IsSmallFunction (λ (o : PlainOut). output_type (types_of t.inputs) o.param.ty) (flat_output_function (layout ps) p u n) os (λ i o its.
          small_by (output_type (types_of t.inputs) o.param.ty) o.first (length t.inputs) (input_place (layout ps) p u n) o.value (sym (length-map t.inputs (λ x. x.ty))) bounds.inputs
          (all_at fits (map (λ (y : PlainOut). y.value) os) i o.value values (get_mapped (λ (y : PlainOut). y.value) os i o its)) (λ id named. input_below p u n t os i o id at e its named)))

  tasks_zipped : AllZip IsSmallFunction (flat_map task_types (task_items (layout ps) ps)) (flat_map (module_functions (layout ps) ps) (layout ps).modules)
  tasks_zipped =
      let modules = (layout ps).modules in
      let f : ModuleAt → List FunctionType = λ s. flat_map node_types (tasks_in ps s) in
      let types = flat_map_parts task_types (module_task_items ps) f (λ k s. flat_map-map task_types (task_item k) (tasks_in ps s)) 0 modules in
      subst (λ (fs : List FunctionType). AllZip IsSmallFunction fs (flat_map (module_functions (layout ps) ps) modules)) (sym types)
      (subst (AllZip IsSmallFunction (flat_map f modules)) (flat_map_is (module_functions (layout ps) ps) 0 modules)
      (zip_parts IsSmallFunction f (λ k. module_functions (layout ps) ps) 0 modules (λ k j s is at.
      zip_parts IsSmallFunction node_types (task_functions (layout ps) s.program s.«module») 0 (tasks_in ps s) (λ n i t same its. task_zipped s.program s.«module» n t (at_place (tasks_in ps s) n i t same its)))))

-- ---- the places of a switch's communicators

read_below : (l : Layout) (e : Expr) (id : Id) → In id (names_of e) → read_place l (comms_in l e) id < length (comms_in l e)
read_below l e id at =
    let f : Id → ℕ = λ x. meaning l (comm_key x.name) in
    let among = distinct_has (f id) [] (map f (names_of e)) ∙ among_at (map f (names_of e)) at.0 (f id) (get_mapped f (names_of e) at.0 id at.1) in
    place_within (eqb (f id)) (comms_in l e) among

-- ---- switches

-- the type of a switch's function, by its node
abbrev node_type : Layout → Tables → PlainSwitch → FunctionType
node_type l t w = record { args = map (comm_type t) (comms_in l w.cond); want = BoolTy }

module _ (ps : List PlainProgram) (small : MeetsBounds ps) where
  switches_zipped : (t : Tables) → AllZip IsSmallFunction (map (switch_type t) (switch_items (layout ps) ps)) (flat_map (mode_functions (layout ps) ps) (layout ps).modes)
  switches_zipped t =
      let l = layout ps in
      let f : ModeAt → List FunctionType = λ a. map (node_type l t) (switches_at ps a) in
      let types = map_flat_map_at (switch_type t) (mode_switch_items l ps) f (λ m a. map-map (switch_type t) (switch_item l ps m a) (switches_at ps a)) 0 l.modes in
      subst (λ (fs : List FunctionType). AllZip IsSmallFunction fs (flat_map (mode_functions l ps) l.modes)) (sym types)
      (subst (AllZip IsSmallFunction (flat_map f l.modes)) (flat_map_is (mode_functions l ps) 0 l.modes)
      (zip_parts IsSmallFunction f (λ m. mode_functions l ps) 0 l.modes (λ m i a is there.
      zip_map IsSmallFunction (node_type l t) (flat_switch_function l) (switches_at ps a) (λ j w at.
      let bounds = switch_small ps small a j w at in
      let reads = comms_in l w.cond in
      let few = few_reads ps w.cond in
      small_by (node_type l t w) w.first (length reads) (read_place l reads) w.cond (sym (length-map reads (comm_type t))) (omega (arith, few, bounds.names)) bounds.cond
      (λ id named. read_below l w.cond id named)))))

-- ---- the law

all_zipped : (ps : List PlainProgram) → MeetsBounds ps → AreNamesRight ps → AllZip IsSmallFunction (function_types (tables_of_tree ps)) (function_items (layout ps) ps)
all_zipped ps small right =
    let l = layout ps in
    let t = tables_of_tree ps in
    zip_append IsSmallFunction (flat_map task_types t.tasks) (flat_map (module_functions l ps) l.modules) (map (switch_type t) t.switches) (flat_map (mode_functions l ps) l.modes)
    (tasks_zipped ps small right) (switches_zipped ps small t)

pub functions_small : (ps : List PlainProgram) → MeetsBounds ps → AreNamesRight ps → AreInRange (tables_of_tree ps) → AreSmall (tables_of_tree ps)
functions_small ps small right ranges = λ k f g a b. zip_at IsSmallFunction (function_types (tables_of_tree ps)) (function_items (layout ps) ps) k f g (all_zipped ps small right) a b

-- ---- they are in range, and so many

pub functions_in_range : (ps : List PlainProgram) → MeetsBounds ps → AreNamesRight ps → All IsFunInRange (function_items (layout ps) ps)
functions_in_range ps small right =
    let types = function_types (tables_of_tree ps) in
    let functions = function_items (layout ps) ps in
    let all = all_zipped ps small right in
    All-from_places IsFunInRange functions (λ k g e.
    let f = item_at types k (omega (arith, AllZip-long IsSmallFunction types functions all, slice_get_within functions k g e)) in
    by f.0 g (zip_at IsSmallFunction types functions k f.0 g all f.1 e))
  where
    by : (f : FunctionType) (g : Fun) → IsSmallFunction f g → IsFunInRange g
    by f (Formula first e) h = tt
    by f (Compiled code) h = absurd h

pub functions_counted : (ps : List PlainProgram) → MeetsBounds ps → AreNamesRight ps
    → length (function_items (layout ps) ps) ≡ count_before (length (task_items (layout ps) ps)) (task_items (layout ps) ps) + length (switch_items (layout ps) ps)
functions_counted ps small right =
    let t = tables_of_tree ps in
    let all = AllZip-long IsSmallFunction (function_types t) (function_items (layout ps) ps) (all_zipped ps small right) in
    omega (arith, all, length-append (flat_map task_types t.tasks) (map (switch_type t) t.switches), count_all t.tasks, length-map t.switches (switch_type t))
