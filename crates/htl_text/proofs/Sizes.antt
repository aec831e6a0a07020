-- Each kind of item is within the size of its tree.
use Rattle.std.proofs.Common.{arith, ◌≤◌, ℕ, List, [], ◌∷◌, length}
use Rattle.htl_text.proofs.Words.{flat_map, sum_by, length-flat_map, sum_by-cons, sum_by-append, sum_by-le-sum_by, tree_nodes, out_params, out_values, modules_of, tasks_of, modes_of, invokes_of, switches_of, task_size, invoke_size, switch_size, mode_size, module_size, program_size, tree_size, HasFewItems, PlainTask, PlainSwitch, PlainMode, PlainModule, PlainProgram, InvokeNode}

pub length-within : {X : Type 0} (size : X → ℕ) → ((x : X) → 1 ≤ size x) → (xs : List X) → length xs ≤ sum_by size xs
length-within size some [] = omega arith
length-within size some (x ∷ xs) = omega (arith, some x, length-within size some xs, sum_by-cons size x xs)

-- the parts of items, where those of each item are within its size
module _ {X Y : Type 0} (parts : X → List Y) (size : X → ℕ) where
  parts-length : ((x : X) → length (parts x) ≤ size x) → (xs : List X) → length (flat_map parts xs) ≤ sum_by size xs
  parts-length within xs = omega (arith, length-flat_map parts xs, sum_by-le-sum_by (λ (x : X). length (parts x)) size xs within)

  parts-size : (part : Y → ℕ) → ((x : X) → sum_by part (parts x) ≤ size x) → (xs : List X) → sum_by part (flat_map parts xs) ≤ sum_by size xs
  parts-size part within [] = omega arith
  parts-size part within (x ∷ xs) = omega (arith, within x, parts-size part within xs, sum_by-append part (parts x) (flat_map parts xs), sum_by-cons size x xs)

modules-size : (ps : List PlainProgram) → sum_by module_size (modules_of ps) ≤ tree_size ps
modules-size ps = parts-size (λ (p : PlainProgram). p.modules) program_size module_size (λ p. omega arith) ps

tasks-size : (ms : List PlainModule) → sum_by task_size (tasks_of ms) ≤ sum_by module_size ms
tasks-size ms = parts-size (λ (m : PlainModule). m.tasks) module_size task_size (λ m. omega arith) ms

modes-size : (ms : List PlainModule) → sum_by mode_size (modes_of ms) ≤ sum_by module_size ms
modes-size ms = parts-size (λ (m : PlainModule). m.modes) module_size mode_size (λ m. omega arith) ms

invokes-size : (ms : List PlainMode) → sum_by invoke_size (invokes_of ms) ≤ sum_by mode_size ms
invokes-size ms = parts-size (λ (m : PlainMode). m.invokes) mode_size invoke_size (λ m. omega arith) ms

switches-size : (ms : List PlainMode) → sum_by switch_size (switches_of ms) ≤ sum_by mode_size ms
switches-size ms = parts-size (λ (m : PlainMode). m.switches) mode_size switch_size (λ m. omega arith) ms

-- of a tree of at most 1,048,576 items there are as few of each kind
pub size-few : (tree : List PlainProgram) → tree_size tree ≤ 1048576 → HasFewItems tree
size-few tree fits =
    record {
      comms = omega (arith, fits, parts-length (λ (p : PlainProgram). p.comms) program_size (λ p. omega arith) tree);
      modules = omega (arith, in_modules, length-within module_size (λ m. omega arith) ms);
      tasks = omega (arith, in_tasks, length-within task_size (λ t. omega arith) ts);
      modes = omega (arith, in_modes, length-within mode_size (λ m. omega arith) ns);
      inputs = omega (arith, in_tasks, parts-length (λ (t : PlainTask). t.inputs) task_size (λ t. omega arith) ts);
      outputs = omega (arith, in_tasks, parts-length (λ (t : PlainTask). out_params t.outputs) task_size (λ t. omega arith) ts);
      value_nodes = omega (arith, in_tasks, parts-size (λ (t : PlainTask). out_values t.outputs) task_size tree_nodes (λ t. omega arith) ts);
      ports = omega (arith, in_modes, parts-length (λ (m : PlainMode). m.ports) mode_size (λ m. omega arith) ns);
      invokes = omega (arith, in_invokes, length-within invoke_size (λ i. omega arith) is);
      reads = omega (arith, in_invokes, parts-length (λ (i : InvokeNode). i.reads) invoke_size (λ i. omega arith) is);
      writes = omega (arith, in_invokes, parts-length (λ (i : InvokeNode). i.writes) invoke_size (λ i. omega arith) is);
      switches = omega (arith, in_switches, length-within switch_size (λ s. omega arith) ss);
      cond_nodes = omega (arith, in_switches, sum_by-le-sum_by (λ (s : PlainSwitch). tree_nodes s.cond) switch_size ss (λ s. omega arith));
    }
  where
    ms : List PlainModule
    ms = modules_of tree

    ts : List PlainTask
    ts = tasks_of ms

    ns : List PlainMode
    ns = modes_of ms

    is : List InvokeNode
    is = invokes_of ns

    ss : List PlainSwitch
    ss = switches_of ns

    in_modules : sum_by module_size ms ≤ 1048576
    in_modules = omega (arith, fits, modules-size tree)

    in_tasks : sum_by task_size ts ≤ 1048576
    in_tasks = omega (arith, in_modules, tasks-size ms)

    in_modes : sum_by mode_size ns ≤ 1048576
    in_modes = omega (arith, in_modules, modes-size ms)

    in_invokes : sum_by invoke_size is ≤ 1048576
    in_invokes = omega (arith, in_modes, invokes-size ns)

    in_switches : sum_by switch_size ss ≤ 1048576
    in_switches = omega (arith, in_modes, switches-size ns)
