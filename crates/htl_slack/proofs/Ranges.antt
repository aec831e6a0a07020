-- Tables in range stay in range with another worst case from 1 to 1,000,000 for a task.
use Rattle.std.proofs.Common.{◌≡◌, ◌<◌, ℕ, zero, suc, ◌+◌, List, [], ◌∷◌, length, get_or, Option, Some, None, All, IfSome, refl, sym, ◌∙◌, ap, arith}
use Rattle.htl_model.specs.{declared.parts.Inv.Inv, declared.parts.Module.Module, declared.parts.Task.Task, declared.parts.End.End, Tables.Tables, Tables.mode_module, Tables.count_before}
use Rattle.htl_model.specs.declared.parts.End.TheVariants as E
use Rattle.htl_model.specs.Ranges.{AreInRange, IsSpan, IsModeThat, parent_of, is_within, are_different_owned, IsModuleInRange, IsEndInRange, IsTaskInRange, IsInvInRange}
use Rattle.htl_edf.specs.Greatest.{worst_in, with_worst}
use Rattle.htl_slack.proofs.WorstAt.{length-worst_in, map-worst_in, count_before-worst_in, task_there}

module _ (t : Tables) (task w : ℕ) where
  task_same : (x : Task) → IsTaskInRange t x → IsTaskInRange (with_worst t task w) x
  task_same x h = record { owner = h.owner; worst = h.worst; few_inputs = h.few_inputs; few_outputs = h.few_outputs }

  task_raised : (x : Task) → IsTaskInRange t x → IsSpan w → IsTaskInRange (with_worst t task w) (record x { worst = w })
  task_raised x h s = record { owner = h.owner; worst = s; few_inputs = h.few_inputs; few_outputs = h.few_outputs }

  tasks_raised : (k : ℕ) (xs : List Task) → All (IsTaskInRange t) xs → IsSpan w → All (IsTaskInRange (with_worst t task w)) (worst_in w k xs)
  tasks_raised k [] h s j d less = absurd (omega (arith, less))
  tasks_raised zero (x ∷ xs) h s zero d less = task_raised x (h 0 d (omega arith)) s
  tasks_raised zero (x ∷ xs) h s (suc j) d less = task_same (get_or xs j d) (h (suc j) d less)
  tasks_raised (suc k) (x ∷ xs) h s zero d less = task_same x (h 0 d (omega arith))
  tasks_raised (suc k) (x ∷ xs) h s (suc j) d less = tasks_raised k xs (λ i e l. h (suc i) e (omega (arith, l))) s j d (omega (arith, less))

  within_same : (steps : ℕ) (o : Option ℕ) → is_within steps t o ≡ is_within steps (with_worst t task w) o
  within_same zero None = refl
  within_same (suc n) (Some m) = within_same n (parent_of t (mode_module t m))
  within_same _ _ = refl

  end_same : (m : ℕ) (e : End) → IsEndInRange t m e → IsEndInRange (with_worst t task w) m e
  end_same m (E.Comm c n) h = h
  end_same m (E.Port p) h = h

  parent_same : (o : Option ℕ) (P : ℕ → Type 0) → IfSome o (IsModeThat t P) → IfSome o (IsModeThat (with_worst t task w) P)
  parent_same None P h = h
  parent_same (Some p) P h = h

  module_same : (k : ℕ) (x : Module) → IsModuleInRange t k x → IsModuleInRange (with_worst t task w) k x
  module_same k x h =
      record { start = h.start; parent = parent_same x.parent (λ owner. owner < k) h.parent; levels = sym (within_same 7 x.parent) ∙ h.levels }

  inv_same : (i : Inv) → IsInvInRange t i → IsInvInRange (with_worst t task w) i
  inv_same i h =
      let (x, at, owned) = h.task in
      let (y, at_y, same) = task_there w task t.tasks i.task x at in
      record {
        owner = h.owner;
        task = (y, at_y, same ∙ owned);
        parent = h.parent;
        reads = λ k d less. end_same i.mode (get_or i.reads k d) (h.reads k d less);
        writes = λ k d less. end_same i.mode (get_or i.writes k d) (h.writes k d less);
        few_reads = h.few_reads;
        few_writes = h.few_writes;
      }

  pub raised_in_range : AreInRange t → IsSpan w → AreInRange (with_worst t task w)
  raised_in_range r span =
      record {
        few_comms = r.few_comms;
        few_modules = r.few_modules;
        few_modes = r.few_modes;
        few_ports = r.few_ports;
        few_tasks = rw (length-worst_in w task t.tasks) r.few_tasks;
        few_invs = r.few_invs;
        few_switches = r.few_switches;
        few_in_mode = r.few_in_mode;
        comm_names = r.comm_names;
        module_names = r.module_names;
        mode_names = r.mode_names;
        port_names = r.port_names;
        task_names = ap are_different_owned (map-worst_in (λ (x : Task). (x.«module», x.name)) (λ x v. refl) w task t.tasks) ∙ r.task_names;
        invoked_once = r.invoked_once;
        modes_by_module = r.modes_by_module;
        ports_by_mode = r.ports_by_mode;
        tasks_by_module = rw (map-worst_in (λ (x : Task). x.«module») (λ x v. refl) w task t.tasks) r.tasks_by_module;
        invs_by_mode = r.invs_by_mode;
        switches_by_mode = r.switches_by_mode;
        comms = r.comms;
        modes = λ k d less. (let h = r.modes k d less in record { owner = h.owner; period = h.period });
        modules = λ k x at. module_same k x (r.modules k x at);
        ports = r.ports;
        tasks = tasks_raised task t.tasks r.tasks span;
        invs = λ k d less. inv_same (get_or t.invs k d) (r.invs k d less);
        switches = λ k d less. (let h = r.switches k d less in record { owner = h.owner; target = h.target; reads = h.reads; different = h.different; few_reads = h.few_reads });
        functions = r.functions;
        function_count = r.function_count
            ∙ ap (λ (n : ℕ). n + length t.switches) (sym (count_before-worst_in w task t.tasks (length t.tasks)) ∙ ap (λ (n : ℕ). count_before n (worst_in w task t.tasks)) (sym (length-worst_in w task t.tasks)));
      }
