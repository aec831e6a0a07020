-- Tables with the worst cases of a platform: their functions have the same types and code, and they keep the same limits.
use Rattle.std.proofs.Common.{◌≡◌, ◌≤◌, ◌<◌, ℕ, suc, ◌+◌, ◌*◌, ◌/◌, ◌%◌, cond, List, [], ◌∷◌, ◌++◌, length, map, drop, get_or, slice_get, Option, Some, None, Ok, Err, All, refl, sym, ap, subst}
use mathlib.Core.Path.{fun_ext}
use Rattle.htl_compile.proofs.Words.{flat_map, code_by, codes, coded, IsTyped, AreTyped, AreSourceTables, CanCode, KeepsLimits, FunctionType, task_types, function_types, switch_type, IsFunctionOf, FitPlaces, list_to, AreInRange, IsSpan, is_root, root_modules, modes_of, choices_from, selection_count, root_mode, invs_of, positions, AreSmall, IsSmallFunction, Tables, Fun, Module, Task, spans, timed_in_range, tasks_with, with_worst, worst_of, fault_in, document_in, platform_in, platform_or, platform_of, fault_or, PlatformFault, Platform}

-- ---- the worst cases of a platform file

-- of tables in range they are in range
pub platform_spans : (t : Tables) (file : List ℕ) (p : Platform) → AreInRange t → platform_of t file ≡ Ok p → All IsSpan p.worst
platform_spans t file p range = by_document (document_in file)
  where
    by_fault : (ms : _) (f : Option PlatformFault) → fault_or f (platform_in t ms) ≡ Ok p → All IsSpan p.worst
    by_fault ms (Some f) e = absurd (let no : Err f ≡ Ok p = e in cc)
    by_fault ms None e =
        let same : platform_in t ms ≡ p = cc in
        subst (λ (q : Platform). All IsSpan q.worst) same (spans t t.modules t.tasks (worst_of ms) range refl)

    by_document : (o : Option _) → platform_or t o ≡ Ok p → All IsSpan p.worst
    by_document None e = absurd (cc)
    by_document (Some ms) e = by_fault ms (fault_in t ms) e

-- ---- functions

types_tasks : (ks : List Task) (ws : List ℕ) → flat_map task_types (tasks_with ks ws) ≡ flat_map task_types ks
types_tasks [] ws = refl
types_tasks (k ∷ ks) [] = refl
types_tasks (k ∷ ks) (w ∷ ws) = ap (λ (fs : List FunctionType). task_types k ++ fs) (types_tasks ks ws)

module _ (t : Tables) (ws : List ℕ) where
  pub types_same : function_types (with_worst t ws) ≡ function_types t
  types_same = ap (λ (fs : List FunctionType). fs ++ map (switch_type t) t.switches) (types_tasks t.tasks ws)

  codes_same : codes (with_worst t ws) ≡ codes t
  codes_same = ap (λ (fs : List FunctionType). list_to (λ (k : ℕ). code_by (slice_get fs k) (slice_get t.functions k)) (length t.functions)) types_same

  -- worst cases and code come in any order
  pub coded_with : with_worst (coded t) ws ≡ coded (with_worst t ws)
  coded_with = ap (λ (fs : List Fun). record (with_worst t ws) { functions = fs }) (sym codes_same)

  -- what the types of a function's place say of it
  of_types : (Says : FunctionType → Fun → Type 0) → ((k : ℕ) (f : FunctionType) (g : Fun) → slice_get (function_types t) k ≡ Some f → slice_get t.functions k ≡ Some g → Says f g)
      → (k : ℕ) (f : FunctionType) (g : Fun) → slice_get (function_types (with_worst t ws)) k ≡ Some f → slice_get t.functions k ≡ Some g → Says f g
  of_types Says h k f g at there = h k f g (subst (λ (fs : List FunctionType). slice_get fs k ≡ Some f) types_same at) there

  pub typed_with : AreTyped t → AreTyped (with_worst t ws)
  typed_with h = of_types IsTyped h

  pub fit_with : FitPlaces t → FitPlaces (with_worst t ws)
  fit_with h = of_types IsFunctionOf h

  small_with : AreSmall t → AreSmall (with_worst t ws)
  small_with h = of_types IsSmallFunction h

  -- ---- limits

  choices_same : (k : ℕ) (xs : List Module) → choices_from t k xs ≡ choices_from (with_worst t ws) k xs
  choices_same k [] = refl
  choices_same k (x ∷ xs) = ap (λ (n : ℕ). cond (is_root x) (length (modes_of t k)) 1 * n) (choices_same (suc k) xs)

  by_roots : (roots : List ℕ) → elim roots as (λ _. ℕ) [ [] ↦ 0 | k ∷ ks ↦ choices_from t 0 t.modules ] ≡ elim roots as (λ _. ℕ) [ [] ↦ 0 | k ∷ ks ↦ choices_from (with_worst t ws) 0 t.modules ]
  by_roots [] = refl
  by_roots (k ∷ ks) = choices_same 0 t.modules

  selections_same : selection_count t ≡ selection_count (with_worst t ws)
  selections_same = by_roots (root_modules t)

  root_mode_same : (sel u : ℕ) → root_mode t sel u ≡ root_mode (with_worst t ws) sel u
  root_mode_same sel u = ap (λ (n : ℕ). get_or (modes_of t u) (sel / n % length (modes_of t u)) 0) (choices_same (u + 1) (drop (u + 1) t.modules))

  positions_same : (sel : ℕ) → positions t sel ≡ positions (with_worst t ws) sel
  positions_same sel = ap (λ (f : ℕ → List ℕ). flat_map f (root_modules t)) (fun_ext (λ u. ap (invs_of t) (root_mode_same sel u)))

  pub limits_with : KeepsLimits t → KeepsLimits (with_worst t ws)
  limits_with h =
      record {
        selections = subst (λ (n : ℕ). n ≤ 1024) selections_same h.selections;
        positions = λ sel less. subst (λ (ps : List ℕ). length ps ≤ 128) (positions_same sel) (h.positions sel (subst (λ (n : ℕ). sel < n) (sym selections_same) less));
      }

  -- ---- the tables of a source

  pub source_tables_with : AreSourceTables t → All IsSpan ws → AreSourceTables (with_worst t ws)
  source_tables_with h spans = record { ranges = timed_in_range t ws h.ranges spans; limits = limits_with h.limits; small = small_with h.small }

  pub can_code_with : CanCode t → All IsSpan ws → CanCode (with_worst t ws)
  can_code_with h spans = record { tables = source_tables_with h.tables spans; typed = typed_with h.typed }
