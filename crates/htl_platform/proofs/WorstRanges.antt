-- Tables in range stay in range with other worst cases from 1 to 1,000,000.
use Rattle.std.proofs.Common.{◌≡◌, ◌<◌, ℕ, zero, suc, ◌+◌, List, [], ◌∷◌, length, map, get_or, slice_get, Option, Some, None, All, IfSome, refl, sym, ◌∙◌, ap, arith}
use Rattle.htl_platform.proofs.Words.{same_Some, Inv, Module, Task, End, AreInRange, IsSpan, IsModeThat, parent_of, is_within, are_different_owned, IsModuleInRange, IsEndInRange, IsTaskInRange, IsInvInRange, Tables, mode_module, count_at, count_before, tasks_with, with_worst}
use Rattle.htl_model.specs.declared.parts.End.TheVariants as E
use Rattle.htl_platform.proofs.WorstLaws.{length-tasks_with}

-- ---- lists of tasks

-- what doesn't look at the worst case is as it was
pub map-tasks_with : {B : Type 0} (f : Task → B) → ((k : Task) (w : ℕ) → f (record k { worst = w }) ≡ f k) → (ks : List Task) (ws : List ℕ) → map f (tasks_with ks ws) ≡ map f ks
map-tasks_with f same [] ws = refl
map-tasks_with f same (k ∷ ks) [] = refl
map-tasks_with {B} f same (k ∷ ks) (w ∷ ws) =
    ap (λ (b : B). b ∷ map f (tasks_with ks ws)) (same k w) ∙ ap (λ (bs : List B). f k ∷ bs) (map-tasks_with f same ks ws)

count_at-tasks_with : (ks : List Task) (ws : List ℕ) (n : ℕ) → count_at (slice_get (tasks_with ks ws) n) ≡ count_at (slice_get ks n)
count_at-tasks_with [] ws n = refl
count_at-tasks_with (k ∷ ks) [] n = refl
count_at-tasks_with (k ∷ ks) (w ∷ ws) zero = refl
count_at-tasks_with (k ∷ ks) (w ∷ ws) (suc n) = count_at-tasks_with ks ws n

pub count_before-tasks_with : (ks : List Task) (ws : List ℕ) (n : ℕ) → count_before n (tasks_with ks ws) ≡ count_before n ks
count_before-tasks_with ks ws zero = refl
count_before-tasks_with ks ws (suc n) = rw (count_before-tasks_with ks ws n, count_at-tasks_with ks ws n) refl

pub task_with : (ks : List Task) (ws : List ℕ) (n : ℕ) (k : Task) → slice_get ks n ≡ Some k
    → (l : Task) × (slice_get (tasks_with ks ws) n ≡ Some l) × (l.«module» ≡ k.«module»)
task_with [] ws n k at = (k, at, refl)
task_with (x ∷ xs) [] n k at = (k, at, refl)
task_with (x ∷ xs) (w ∷ ws) zero k at = (record x { worst = w }, refl, ap (λ (y : Task). y.«module») (same_Some _ _ at))
task_with (x ∷ xs) (w ∷ ws) (suc n) k at = task_with xs ws n k at

module _ (t : Tables) (ws : List ℕ) where
  task_same : (k : Task) → IsTaskInRange t k → IsTaskInRange (with_worst t ws) k
  task_same k h = record { owner = h.owner; worst = h.worst; few_inputs = h.few_inputs; few_outputs = h.few_outputs }

  task_timed : (k : Task) (w : ℕ) → IsTaskInRange t k → IsSpan w → IsTaskInRange (with_worst t ws) (record k { worst = w })
  task_timed k w h s = record { owner = h.owner; worst = s; few_inputs = h.few_inputs; few_outputs = h.few_outputs }

  tasks_timed : (ks : List Task) (vs : List ℕ) → All (IsTaskInRange t) ks → All IsSpan vs → All (IsTaskInRange (with_worst t ws)) (tasks_with ks vs)
  tasks_timed [] vs h s k d less = absurd (omega (arith, less))
  tasks_timed (x ∷ xs) [] h s k d less = task_same (get_or (x ∷ xs) k d) (h k d less)
  tasks_timed (x ∷ xs) (v ∷ vs) h s zero d less = task_timed x v (h 0 x (omega arith)) (s 0 0 (omega arith))
  tasks_timed (x ∷ xs) (v ∷ vs) h s (suc k) d less =
      tasks_timed xs vs (λ j e l. h (suc j) e (omega (arith, l))) (λ j e l. s (suc j) e (omega (arith, l))) k d (omega (arith, less))

  within_same : (steps : ℕ) (o : Option ℕ) → is_within steps t o ≡ is_within steps (with_worst t ws) o
  within_same zero None = refl
  within_same (suc n) (Some m) = within_same n (parent_of t (mode_module t m))
  within_same _ _ = refl

  end_same : (m : ℕ) (e : End) → IsEndInRange t m e → IsEndInRange (with_worst t ws) m e
  end_same m (E.Comm c n) h = h
  end_same m (E.Port p) h = h

  parent_same : (o : Option ℕ) (P : ℕ → Type 0) → IfSome o (IsModeThat t P) → IfSome o (IsModeThat (with_worst t ws) P)
  parent_same None P h = h
  parent_same (Some p) P h = h

  module_same : (k : ℕ) (x : Module) → IsModuleInRange t k x → IsModuleInRange (with_worst t ws) k x
  module_same k x h =
      record { start = h.start; parent = parent_same x.parent (λ owner. owner < k) h.parent; levels = sym (within_same 7 x.parent) ∙ h.levels }

  inv_same : (i : Inv) → IsInvInRange t i → IsInvInRange (with_worst t ws) i
  inv_same i h =
      let (k, at, owned) = h.task in
      let (l, at_l, same) = task_with t.tasks ws i.task k at in
      record {
        owner = h.owner;
        task = (l, at_l, same ∙ owned);
        parent = h.parent;
        reads = λ k d less. end_same i.mode (get_or i.reads k d) (h.reads k d less);
        writes = λ k d less. end_same i.mode (get_or i.writes k d) (h.writes k d less);
        few_reads = h.few_reads;
        few_writes = h.few_writes;
      }

  pub timed_in_range : AreInRange t → All IsSpan ws → AreInRange (with_worst t ws)
  timed_in_range r spans =
      record {
        few_comms = r.few_comms;
        few_modules = r.few_modules;
        few_modes = r.few_modes;
        few_ports = r.few_ports;
        few_tasks = rw (length-tasks_with t.tasks ws) r.few_tasks;
        few_invs = r.few_invs;
        few_switches = r.few_switches;
        few_in_mode = r.few_in_mode;
        comm_names = r.comm_names;
        module_names = r.module_names;
        mode_names = r.mode_names;
        port_names = r.port_names;
        task_names = ap are_different_owned (map-tasks_with (λ (k : Task). (k.«module», k.name)) (λ k w. refl) t.tasks ws) ∙ r.task_names;
        invoked_once = r.invoked_once;
        modes_by_module = r.modes_by_module;
        ports_by_mode = r.ports_by_mode;
        tasks_by_module = rw (map-tasks_with (λ (k : Task). k.«module») (λ k w. refl) t.tasks ws) r.tasks_by_module;
        invs_by_mode = r.invs_by_mode;
        switches_by_mode = r.switches_by_mode;
        comms = r.comms;
        modes = λ k d less. (let h = r.modes k d less in record { owner = h.owner; period = h.period });
        modules = λ k x at. module_same k x (r.modules k x at);
        ports = r.ports;
        tasks = tasks_timed t.tasks ws r.tasks spans;
        invs = λ k d less. inv_same (get_or t.invs k d) (r.invs k d less);
        switches = λ k d less. (let h = r.switches k d less in record { owner = h.owner; target = h.target; reads = h.reads; different = h.different; few_reads = h.few_reads });
        functions = r.functions;
        function_count = r.function_count
            ∙ ap (λ (n : ℕ). n + length t.switches) (sym (count_before-tasks_with t.tasks ws (length t.tasks)) ∙ ap (λ (n : ℕ). count_before n (tasks_with t.tasks ws)) (sym (length-tasks_with t.tasks ws)));
      }
