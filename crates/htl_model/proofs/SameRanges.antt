-- Tables in range stay in range when their functions are exchanged, and have the same selections; the same invocations stand for others.
use Rattle.std.proofs.Common.{arith, ◌≡◌, ◌≤◌, ◌<◌, ℕ, zero, suc, ◌+◌, ◌*◌, ◌/◌, ◌%◌, cond, List, [], ◌∷◌, length, drop, get_or, Option, Some, None, All, IfSome, refl, sym, ◌∙◌, ap, subst}
use mathlib.Core.Path.{fun_ext}
use Rattle.htl_model.proofs.Words.{flat_map, Inv, Module, End, KeepsLimits, AreInRange, IsModeThat, parent_of, is_within, IsModuleInRange, IsEndInRange, IsInvInRange, IsFunInRange, is_root, root_modules, modes_of, choices_from, selection_count, root_mode, invs_of, positions, Tables, Fun, mode_module, with_functions}
use Rattle.htl_model.specs.declared.parts.End.TheVariants as E

module _ (t : Tables) (fs : List Fun) where
  within_same : (steps : ℕ) (o : Option ℕ) → is_within steps t o ≡ is_within steps (with_functions t fs) o
  within_same zero None = refl
  within_same (suc n) (Some m) = within_same n (parent_of t (mode_module t m))
  within_same _ _ = refl

  end_same : (m : ℕ) (e : End) → IsEndInRange t m e → IsEndInRange (with_functions t fs) m e
  end_same m (E.Comm c n) h = h
  end_same m (E.Port p) h = h

  parent_same : (o : Option ℕ) (P : ℕ → Type 0) → IfSome o (IsModeThat t P) → IfSome o (IsModeThat (with_functions t fs) P)
  parent_same None P h = h
  parent_same (Some p) P h = h

  module_same : (k : ℕ) (x : Module) → IsModuleInRange t k x → IsModuleInRange (with_functions t fs) k x
  module_same k x h =
      record { start = h.start; parent = parent_same x.parent (λ owner. owner < k) h.parent; levels = sym (within_same 7 x.parent) ∙ h.levels }

  inv_same : (i : Inv) → IsInvInRange t i → IsInvInRange (with_functions t fs) i
  inv_same i h = grind (arith, end_same)

  pub in_range : AreInRange t → All IsFunInRange fs → length fs ≡ length t.functions → AreInRange (with_functions t fs)
  in_range r each count =
      record {
        few_comms = r.few_comms;
        few_modules = r.few_modules;
        few_modes = r.few_modes;
        few_ports = r.few_ports;
        few_tasks = r.few_tasks;
        few_invs = r.few_invs;
        few_switches = r.few_switches;
        few_in_mode = r.few_in_mode;
        comm_names = r.comm_names;
        module_names = r.module_names;
        mode_names = r.mode_names;
        port_names = r.port_names;
        task_names = r.task_names;
        invoked_once = r.invoked_once;
        modes_by_module = r.modes_by_module;
        ports_by_mode = r.ports_by_mode;
        tasks_by_module = r.tasks_by_module;
        invs_by_mode = r.invs_by_mode;
        switches_by_mode = r.switches_by_mode;
        comms = r.comms;
        modes = λ k d less. (let h = r.modes k d less in record { owner = h.owner; period = h.period });
        modules = λ k x at. module_same k x (r.modules k x at);
        ports = r.ports;
        tasks = λ k d less. (let h = r.tasks k d less in record { owner = h.owner; worst = h.worst; few_inputs = h.few_inputs; few_outputs = h.few_outputs });
        invs = λ k d less. inv_same (get_or t.invs k d) (r.invs k d less);
        switches = λ k d less. (let h = r.switches k d less in record { owner = h.owner; target = h.target; reads = h.reads; different = h.different; few_reads = h.few_reads });
        functions = each;
        function_count = count ∙ r.function_count;
      }

  -- ---- selections

  choices_same : (k : ℕ) (xs : List Module) → choices_from t k xs ≡ choices_from (with_functions t fs) k xs
  choices_same k [] = refl
  choices_same k (x ∷ xs) = ap (λ (n : ℕ). cond (is_root x) (length (modes_of t k)) 1 * n) (choices_same (suc k) xs)

  by_roots : (roots : List ℕ) → elim roots as (λ _. ℕ) [ [] ↦ 0 | k ∷ ks ↦ choices_from t 0 t.modules ] ≡ elim roots as (λ _. ℕ) [ [] ↦ 0 | k ∷ ks ↦ choices_from (with_functions t fs) 0 t.modules ]
  by_roots [] = refl
  by_roots (k ∷ ks) = choices_same 0 t.modules

  pub selection_count_same : selection_count t ≡ selection_count (with_functions t fs)
  selection_count_same = by_roots (root_modules t)

  root_mode_same : (sel u : ℕ) → root_mode t sel u ≡ root_mode (with_functions t fs) sel u
  root_mode_same sel u = ap (λ (n : ℕ). get_or (modes_of t u) (sel / n % length (modes_of t u)) 0) (choices_same (u + 1) (drop (u + 1) t.modules))

  pub positions_same : (sel : ℕ) → positions t sel ≡ positions (with_functions t fs) sel
  positions_same sel = ap (λ (f : ℕ → List ℕ). flat_map f (root_modules t)) (fun_ext (λ u. ap (invs_of t) (root_mode_same sel u)))

  pub limits_same : KeepsLimits t → KeepsLimits (with_functions t fs)
  limits_same h = grind (arith, selection_count_same, positions_same)
